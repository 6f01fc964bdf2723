use Rattle.positions.proofs.Unions.{Taken}
use Rattle.positions.proofs.masks.union.Given as goal

abbrev pub invariant-loop-p : goal.invariant-loop-p
invariant-loop-p l = Taken l.follow l.set l.all l.p-iterator.0
