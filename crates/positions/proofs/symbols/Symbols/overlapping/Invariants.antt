use Rattle.positions.specs.Masks.{held, nth}
use Rattle.positions.specs.Ranges.{Shared}
use Rattle.positions.proofs.Marking.{Marked}
use Rattle.positions.proofs.symbols.Symbols.overlapping.Given as goal

abbrev pub invariant-loop-p : goal.invariant-loop-p
invariant-loop-p l = Marked (λ q. Shared l.low l.high (nth (held l.self) q)) l.p l.set
