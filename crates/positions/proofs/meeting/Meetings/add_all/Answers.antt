use Rattle.std.proofs.Common.{sym, subst}
use Rattle.positions.specs.Meets.{Adds, Block}
use Rattle.positions.proofs.Adding.{adds_block, adds_empty}
use Rattle.positions.proofs.meeting.Meetings.add_all.Goals as goal

pub loop-p-preserved : goal.loop-p-preserved
loop-p-preserved c m a =
    let o = c.in-Some.ensures.steps in
    c.loop-p.invariant m (adds_block c.args.beside.now c.args.qs c.loop-p.p-iterator.0 c.next.new.self.0 c.in-Some.p o.low o.whole c.loop-p.self c.add.new.self m c.add.ensures a)

pub returns : goal.returns
returns c =
    c.loop-p.invariant c.loop-p.self
    (subst (λ n. Adds (Block n c.args.qs c.args.beside.now) c.loop-p.self c.loop-p.self) (sym c.in-None.ensures.steps.0)
    (adds_empty c.args.beside.now c.args.qs c.loop-p.self))
