use Rattle.meaning.proofs.Cutting.{lengths_add, reading_inside}
use Rattle.meaning.proofs.adjoin_law.Goals as goal

pub returns : goal.returns
returns c = record { adds = lengths_add; inside = reading_inside }
