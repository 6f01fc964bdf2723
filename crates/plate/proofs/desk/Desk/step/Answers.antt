use Rattle.std.proofs.Common.{◌<◌, map, length, get_or, sym, refl, ◌∙◌, subst, arith, length-set}
use Rattle.meaning.specs.States.{step}
use Rattle.meaning.specs.Runs.{Mean}
use Rattle.meaning.proofs.Reach.{length_step}
use Rattle.sheet.specs.Entries.{text_of}
use Rattle.plate.proofs.Turned.{turned_more, turned_all}
use Rattle.plate.proofs.Meant.{step_is, step_rest}
use Rattle.plate.proofs.desk.Desk.step.Goals as goal

pub loop-k-preserved : goal.loop-k-preserved
loop-k-preserved c =
    let es = c.lines-entry-items.result.now in
    let below : c.loop-k.k < length c.loop-k.next = omega arith in
    record {
      long = length-set c.loop-k.next c.loop-k.k c.next.result ∙ c.loop-k.invariant.long;
      turned = λ ls m h.
          turned_more (λ j. get_or (step ls c.args.class c.args.state) j 0) c.args.state c.loop-k.next c.loop-k.k c.next.result below
          (step_is es ls m c.loop-k.k c.entry-item.result c.next.result c.args.class c.args.state c.loop-k-test.true c.entry-item.is (λ l n. c.next.ensures l n h))
          (c.loop-k.invariant.turned ls m h);
    }

pub returns : goal.returns
returns c ls m below =
    let es = c.lines-entry-items.result.now in
    let n = subst (λ xs. Mean (map text_of xs) ls) (sym c.lines-entry-items.ensures.these) m in
    turned_all (λ j. get_or (step ls c.args.class c.args.state) j 0) c.args.state c.loop-k.next (step ls c.args.class c.args.state) c.loop-k.k
    (c.loop-k.invariant.long ∙ sym (length_step ls c.args.class c.args.state)) (λ j. refl)
    (λ j h. step_rest es ls n j c.args.class c.args.state (omega arith)) (c.loop-k.invariant.turned ls n below)
