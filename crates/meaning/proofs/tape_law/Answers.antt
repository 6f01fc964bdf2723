use Rattle.meaning.proofs.DoerRules.{tape_law_lem}
use Rattle.meaning.proofs.tape_law.Goals as goal

pub returns : goal.returns
returns c = tape_law_lem
