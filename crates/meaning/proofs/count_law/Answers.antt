use Rattle.meaning.proofs.Counting.{at_most_or_more}
use Rattle.meaning.proofs.count_law.Goals as goal

pub returns : goal.returns
returns c = at_most_or_more
