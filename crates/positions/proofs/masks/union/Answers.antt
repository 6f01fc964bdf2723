use Rattle.positions.proofs.Unions.{taken_more}
use Rattle.positions.proofs.masks.union.Goals as goal

pub loop-p-preserved : goal.loop-p-preserved
loop-p-preserved c =
    let o = c.in-Some.ensures.steps in
    taken_more c.args.follow.now c.args.set c.loop-p.all c.loop-p.p-iterator.0 c.next.new.self.0 c.in-Some.p o.low o.whole c.loop-p.invariant
