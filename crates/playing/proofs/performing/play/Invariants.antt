use Rattle.std.proofs.Common.{◌-◌, ◌≤◌, List, length}
use Rattle.meaning.specs.Words.{Line}
use Rattle.meaning.specs.Alphabets.{seen}
use Rattle.meaning.specs.Runs.{Mean}
use Rattle.plate.specs.Desks.{texts_of}
use Rattle.playing.proofs.Going.{Going}
use Rattle.playing.proofs.performing.play.Given as goal

abbrev pub invariant-loop-place : goal.invariant-loop-place
invariant-loop-place g l =
    (l.pieces ≤ l.place) × (l.place ≤ length l.extent)
    × ((ls : List Line) → Mean (texts_of l.plate.desk) ls
    → Going g.D.Doer.rule ls (seen g.A.Alphabet.classed l.extent) (g.D.Doer.state l.initial.doer) l.pieces l.place (g.D.Doer.state l.doer))

abbrev pub decreases-loop-place : goal.decreases-loop-place
decreases-loop-place g l = length l.extent - l.place
