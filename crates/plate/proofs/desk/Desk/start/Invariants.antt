use Rattle.std.proofs.Common.{◌≡◌, List, map, length, get_or}
use Rattle.meaning.specs.Words.{Line}
use Rattle.meaning.specs.States.{start, nowhere}
use Rattle.meaning.specs.Runs.{Mean}
use Rattle.sheet.specs.Entries.{text_of}
use Rattle.plate.specs.Cells.{Turned}
use Rattle.plate.proofs.desk.Desk.start.Given as goal

abbrev pub invariant-loop-k : goal.invariant-loop-k
invariant-loop-k l = record {
  long : length l.state ≡ 8;
  turned : (ls : List Line) → Mean (map text_of l.entry-items) ls → Turned l.k l.state (λ j. get_or (start ls) j 0) nowhere;
}
