use Rattle.meaning.proofs.Determined.{one_account}
use Rattle.meaning.proofs.account_law.Goals as goal

pub returns : goal.returns
returns g c count rule first = one_account count rule first
