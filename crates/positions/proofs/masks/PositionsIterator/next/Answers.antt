use Rattle.std.proofs.Common.{arith}
use Rattle.positions.proofs.Lowbit.{lowest_out}
use Rattle.positions.proofs.masks.PositionsIterator.next.Goals as goal

pub returns-clause-steps : goal.returns-clause-steps
returns-clause-steps c = lowest_out c.args.self.now.0 (omega arith) c.if-self-eq0.false
