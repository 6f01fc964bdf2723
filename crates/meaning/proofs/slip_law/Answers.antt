use Rattle.meaning.proofs.DoerRules.{slip_law_lem}
use Rattle.meaning.proofs.slip_law.Goals as goal

pub returns : goal.returns
returns c = slip_law_lem
