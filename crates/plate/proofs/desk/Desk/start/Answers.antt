use Rattle.std.proofs.Common.{◌<◌, map, length, get_or, sym, refl, ◌∙◌, subst, arith, length-set}
use Rattle.meaning.specs.States.{start, nowhere}
use Rattle.meaning.specs.Runs.{Mean}
use Rattle.sheet.specs.Entries.{text_of}
use Rattle.plate.proofs.Turned.{turned_more, turned_all}
use Rattle.plate.proofs.Meant.{start_is, start_past, start_eight}
use Rattle.plate.proofs.desk.Desk.start.Goals as goal

pub loop-k-preserved : goal.loop-k-preserved
loop-k-preserved c =
    let es = c.lines-entry-items.result.now in
    let below : c.loop-k.k < length c.loop-k.state = omega arith in
    record {
      long = length-set c.loop-k.state c.loop-k.k c.first.result ∙ c.loop-k.invariant.long;
      turned = λ ls m.
          turned_more (λ j. get_or (start ls) j 0) nowhere c.loop-k.state c.loop-k.k c.first.result below
          (start_is es ls m c.loop-k.k c.entry-item.result c.first.result c.loop-k-test.true c.entry-item.is c.first.ensures) (c.loop-k.invariant.turned ls m);
    }

pub returns : goal.returns
returns c ls m =
    let es = c.lines-entry-items.result.now in
    let n = subst (λ xs. Mean (map text_of xs) ls) (sym c.lines-entry-items.ensures.these) m in
    turned_all (λ j. get_or (start ls) j 0) nowhere c.loop-k.state (start ls) c.loop-k.k
    (c.loop-k.invariant.long ∙ sym (start_eight es ls n (omega arith))) (λ j. refl)
    (λ j h. start_past es ls n j (omega arith)) (c.loop-k.invariant.turned ls n)
