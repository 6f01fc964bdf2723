-- The state of a tape. Assumes nothing.
use Rattle.std.specs.Prelude.{length, take}
use Rattle.meaning.specs.Doers.{Tape as Taped}
use Rattle.doers.specs.declared.tape.Tape.{Tape}

-- how many cells it was lent, and the codes in the first of them
abbrev pub taped : Tape → Taped
taped t = record { room = length t.cells.now; held = take t.held t.cells.now }
