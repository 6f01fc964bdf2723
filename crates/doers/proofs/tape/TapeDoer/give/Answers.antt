use Rattle.std.proofs.Common.{arith}
use Rattle.std.proofs.lemmas.Grind.{common_steps}
use Rattle.meaning.specs.Doers.{took, left}
use Rattle.doers.proofs.tape.TapeDoer.give.Goals as goal

pub returns-then-self-clause-rule : goal.returns-then-self-clause-rule
returns-then-self-clause-rule c = left (grind (arith, common_steps))

pub returns-clause-rule : goal.returns-clause-rule
returns-clause-rule c = took (grind (arith, common_steps))
