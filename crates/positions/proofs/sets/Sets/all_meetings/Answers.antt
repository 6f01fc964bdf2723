use Rattle.std.proofs.Common.{arith}
use Rattle.positions.proofs.Chasing.{closing_first, closing_next, closing_all}
use Rattle.positions.proofs.sets.Sets.all_meetings.Goals as goal

pub loop-p-init : goal.loop-p-init
loop-p-init c = (
  c.add_all.ensures.word (omega (arith, c.none-all.ensures.rows)),
  closing_first c.args.self.now.first c.args.self.now.follow c.args.beside.now c.none-all.result c.add_all.new.self c.none-all.ensures
      c.add_all.ensures,
)

pub loop-p-preserved : goal.loop-p-preserved
loop-p-preserved c =
    let o = c.in-Some.ensures.steps in (
      c.add_all-in-Some.ensures.word (omega (arith, o.less, c.loop-p.invariant.0)),
      closing_next c.args.self.now.first c.args.self.now.follow c.args.beside.now c.loop-p.all c.add_all-in-Some.new.self c.next.new.self.0
          c.in-Some.p c.union-next.result o.low o.whole c.union-next.ensures c.loop-p.invariant.1 c.add_all-in-Some.ensures,
    )

pub returns : goal.returns
returns c = closing_all c.args.self.now.first c.args.self.now.follow c.args.beside.now c.loop-p.all c.in_default.ensures.steps.0 c.loop-p.invariant.1
