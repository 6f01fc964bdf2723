use Rattle.meaning.proofs.Answered.{outcome}
use Rattle.meaning.proofs.outcome_law.Goals as goal

pub returns : goal.returns
returns g c count rule first = outcome count rule first
