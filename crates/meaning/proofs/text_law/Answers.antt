use Rattle.meaning.proofs.Judged.{text_judged}
use Rattle.meaning.proofs.Determined.{one_refused, not_refused}
use Rattle.meaning.proofs.text_law.Goals as goal

pub returns : goal.returns
returns c = record { either = text_judged; never_both = λ count t f. not_refused count; one_refusal = λ count t f g. one_refused count }
