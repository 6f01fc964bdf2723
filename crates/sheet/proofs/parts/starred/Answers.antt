use Rattle.sheet.proofs.Joining.{added_star}
use Rattle.sheet.proofs.parts.starred.Goals as goal

pub returns-clause-adds : goal.returns-clause-adds
returns-clause-adds c = λ e before x. added_star x c.link.ensures.count c.link.ensures.symbols c.link.ensures.follow
