use Rattle.std.proofs.Common.{◌+◌, length}
use Rattle.positions.proofs.Alike.{RowAlike, RowsAlike}
use Rattle.positions.proofs.sets.Sets.clash.Given as goal

abbrev pub invariant-loop-i : goal.invariant-loop-i
invariant-loop-i l = RowAlike l.symbols l.known (l.p + 1) (l.p + 1 + l.i)

abbrev pub invariant-loop-p : goal.invariant-loop-p
invariant-loop-p l = RowsAlike l.symbols l.known (length l.symbols) l.p
