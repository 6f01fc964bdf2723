use Rattle.meaning.proofs.Answered.{test_answered}
use Rattle.meaning.proofs.verdict_law.Goals as goal

pub returns : goal.returns
returns c = test_answered
