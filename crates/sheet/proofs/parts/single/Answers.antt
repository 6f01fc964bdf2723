use Rattle.sheet.proofs.Joining.{added_symbol}
use Rattle.sheet.proofs.parts.single.Goals as goal

pub returns-clause-adds : goal.returns-clause-adds
returns-clause-adds c = λ room.
    added_symbol c.args.symbol c.args.draft.now c.add-position.new.self c.add-position.result
    (c.add-position.ensures.count room) (c.add-position.ensures.taken room) c.add-position.ensures.follow (c.add-position.ensures.position room)
