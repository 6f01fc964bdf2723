use Rattle.meaning.proofs.Reach.{exact}
use Rattle.meaning.proofs.exact_law.Goals as goal

pub returns : goal.returns
returns c = exact
