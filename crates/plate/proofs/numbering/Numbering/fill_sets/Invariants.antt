use Rattle.std.proofs.Common.{◌≡◌, ℕ, ◌+◌, ◌*◌, ◌<◌, get_or}
use Rattle.meaning.specs.States.{nowhere}
use Rattle.plate.specs.Cells.{Beyond}
use Rattle.plate.specs.Filling.{Laid}
use Rattle.plate.proofs.numbering.Numbering.fill_sets.Given as goal

abbrev pub invariant-loop-k : goal.invariant-loop-k
invariant-loop-k l = record {
  rows : (s k : ℕ) → s < l.s → k < 8 → get_or l.sets (s * 8 + k) 0 ≡ get_or (get_or l.state-items s nowhere) k 0;
  row : (k : ℕ) → k < l.k → get_or l.sets (l.s * 8 + k) 0 ≡ get_or (get_or l.state-items l.s nowhere) k 0;
  beyond : Beyond (l.s * 8 + l.k) l.initial.sets l.sets;
}

abbrev pub invariant-loop-s : goal.invariant-loop-s
invariant-loop-s l = Laid l.state-items l.s l.initial.sets l.sets
