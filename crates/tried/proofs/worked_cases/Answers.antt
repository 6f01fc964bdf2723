use Rattle.tried.proofs.Cases.{cases, others}
use Rattle.tried.proofs.worked_cases.Goals as goal

pub returns : goal.returns
returns c = record { cases = cases; others = others }
