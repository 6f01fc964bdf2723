use Rattle.std.proofs.Common.{◌≡◌, ◌-◌, ◌≤◌, List, length, take, drop}
use Rattle.meaning.specs.Words.{Line}
use Rattle.meaning.specs.Alphabets.{seen}
use Rattle.meaning.specs.Pieces.{Cuts}
use Rattle.meaning.specs.Runs.{Mean}
use Rattle.plate.specs.Desks.{texts_of}
use Rattle.reading.proofs.cutting.read.Given as goal

abbrev pub invariant-loop-place : goal.invariant-loop-place
invariant-loop-place g l =
    (l.place ≤ length l.extent) × (l.listed ≤ length l.list) × (drop l.listed l.list ≡ drop l.listed l.initial.list)
    × ((ls : List Line) → Mean (texts_of l.plate.desk) ls → Cuts ls (seen g.A.Alphabet.classed l.extent) 0 (take l.listed l.list) l.place)

abbrev pub decreases-loop-place : goal.decreases-loop-place
decreases-loop-place g l = length l.extent - l.place
