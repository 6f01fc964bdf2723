use Rattle.std.proofs.Common.{◌≡◌, ℕ, ◌<◌, List, length, get_or, None}
use Rattle.meaning.specs.Words.{Line}
use Rattle.meaning.specs.States.{nowhere}
use Rattle.meaning.specs.Runs.{Mean}
use Rattle.plate.specs.Desks.{texts_of}
use Rattle.plate.specs.Tables.{Earliest}
use Rattle.plate.proofs.desk.Desk.accepting_lines.Given as goal

abbrev pub invariant-loop-s : goal.invariant-loop-s
invariant-loop-s l = record {
  long : length l.accepts ≡ 64;
  earliest : (ls : List Line) → Mean (texts_of l.self) ls → (j : ℕ) → j < l.s → Earliest ls (get_or l.state-items j nowhere) (get_or l.accepts j None);
}
