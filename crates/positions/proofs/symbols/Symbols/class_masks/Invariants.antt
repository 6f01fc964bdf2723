use Rattle.std.proofs.Common.{◌≡◌, ℕ, ◌<◌, true, get_or}
use Rattle.meaning.specs.Positions.{holds}
use Rattle.positions.specs.Masks.{held, nth}
use Rattle.positions.proofs.Marking.{Marked}
use Rattle.positions.proofs.symbols.Symbols.class_masks.Given as goal

abbrev pub invariant-loop-p : goal.invariant-loop-p
invariant-loop-p l = (c : ℕ) → c < 256 → Marked (λ q. holds (nth (held l.self) q) c ≡ true) l.p (get_or l.masks c 0)
