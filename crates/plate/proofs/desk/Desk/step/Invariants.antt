use Rattle.std.proofs.Common.{◌≡◌, ◌<◌, List, map, length, get_or}
use Rattle.meaning.specs.Words.{Line}
use Rattle.meaning.specs.States.{step}
use Rattle.meaning.specs.Runs.{Mean}
use Rattle.sheet.specs.Entries.{text_of}
use Rattle.plate.specs.Cells.{Turned}
use Rattle.plate.proofs.desk.Desk.step.Given as goal

abbrev pub invariant-loop-k : goal.invariant-loop-k
invariant-loop-k l = record {
  long : length l.next ≡ length l.state;
  turned : (ls : List Line) → Mean (map text_of l.entry-items) ls → l.class < 256 → Turned l.k l.next (λ j. get_or (step ls l.class l.state) j 0) l.state;
}
