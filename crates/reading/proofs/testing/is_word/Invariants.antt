use Rattle.std.proofs.Common.{◌≡◌, take}
use Rattle.meaning.specs.Words.{Line}
use Rattle.meaning.specs.Alphabets.{seen}
use Rattle.meaning.specs.Positions.{first_set, move_all}
use Rattle.meaning.specs.Runs.{Means}
use Rattle.sheet.specs.Entries.{text_of}
use Rattle.reading.proofs.testing.is_word.Given as goal

abbrev pub invariant-loop-symbol : goal.invariant-loop-symbol
invariant-loop-symbol g l =
    (x : Line) → Means (text_of l.line) x → l.set ≡ move_all x (first_set x) (take l.symbol-index (seen g.A.Alphabet.classed l.extent))
