use Rattle.std.proofs.Common.{arith}
use Rattle.plate.proofs.Standing.{struck_none, struck_last}
use Rattle.plate.proofs.desk.Desk.strike.Goals as goal

pub returns-then-self-eq0-clause-struck : goal.returns-then-self-eq0-clause-struck
returns-then-self-eq0-clause-struck g c e moves sets h = struck_none c.args.self.now moves sets h c.if-self-eq0.true

pub returns-clause-struck : goal.returns-clause-struck
returns-clause-struck g c e moves sets h = struck_last c.args.self.now moves sets h (omega (arith, c.if-self-eq0.false))
