use Rattle.std.proofs.Common.{◌≡◌, ◌≤◌, ◌⊎◌}
use Rattle.positions.proofs.RangeMarks.{MarkedFrom}
use Rattle.positions.proofs.symbols.mark.Given as goal

abbrev pub invariant-loop-class : goal.invariant-loop-class
invariant-loop-class l = MarkedFrom l.initial.masks l.symbol.low l.positions l.masks l.class × (l.symbol.low ≤ l.class) × ((l.class ≡ l.symbol.low) ⊎ (l.class ≤ l.end))
