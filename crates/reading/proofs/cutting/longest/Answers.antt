use Rattle.std.proofs.Common.{◌≡◌, ◌+◌, ◌<◌, ◌≤◌, [], ◌∷◌, ◌++◌, length, take, drop, refl, sym, subst, ◌∙◌, arith, rules, IfSome, MatchOption}
use lib.ListN.{length-map}
use Rattle.std.proofs.lemmas.List.{take_rest}
use Rattle.meaning.specs.Alphabets.{seen}
use Rattle.meaning.specs.Pieces.{Cut, NothingAt}
use Rattle.plate.proofs.Walking.{lines_clear}
use Rattle.reading.proofs.Best.{best_end, best_found}
use Rattle.reading.proofs.Classes.{next_class}
use Rattle.reading.proofs.Looking.{Within, within_more, within_all, Looked, looked_none, looked_below, on_below, looked_same, looked_more, looked_lost}
use Rattle.reading.proofs.cutting.longest.Given as given
use Rattle.reading.proofs.cutting.longest.Goals as goal
use Rattle.reading.proofs.cutting.longest.Goals.{After-class, in-Some-accepts, in_default-accepts}

pub loop-before-init : goal.loop-before-init
loop-before-init g c = (tt, λ _ _ ls m. looked_none c.args.plate.now ls _ c.args.place m)

-- the class of the symbol in hand, as the next of those behind the place
next : (g : given.Over) (c : After-class g) → (take (c.loop-before.before + 1) (drop c.args.place (seen g.A.Alphabet.classed c.args.extent.now))
    ≡ take c.loop-before.before (drop c.args.place (seen g.A.Alphabet.classed c.args.extent.now)) ++ c.class.result ∷ [])
next g c =
    next_class g.A.Alphabet.classed c.args.extent.now c.in_ok-rest.rest.now c.args.place c.loop-before.before c.index-rest-before.result c.class.result
    (c.in_ok-rest.ensures.lookup.0.2 ∙ take_rest c.args.extent.now c.args.place) c.loop-before-test.true c.index-rest-before.is c.class.ensures.value

pub loop-before-preserved : goal.loop-before-preserved
loop-before-preserved g c =
    let p = c.args.plate.now in
    let xs = seen g.A.Alphabet.classed c.args.extent.now in
    let place = c.args.place in
    let n = c.loop-before.before in
    let fits : place + (n + 1) ≤ length c.args.extent.now = omega (arith, c.in_ok-rest.ensures.lookup, c.loop-before-test.true) in (
      elim c.match-accepts.branch [
        | in-Some-accepts w ↦ subst (Within place (n + 1)) (sym w.best-is) (refl, omega arith, omega arith)
        | in_default-accepts w ↦ subst (Within place (n + 1)) (sym w.best-is) (within_more place n c.loop-before.best c.loop-before.invariant.0)
      ],
      λ e b ls m.
          let a = c.loop-before.invariant.1 e b ls m in
          let below : c.class.result < p.desk.count = omega (arith, c.class.ensures.below, e) in
          let on = next g (goal.at.loop-before-preserved g c).After-class in
          let some = c.in-Some.ensures.inside (looked_below p ls xs place m b n c.loop-before.state c.loop-before.best a) below in
          let inside = on_below p ls xs place m b n c.loop-before.state c.class.result c.loop-before.best a below on c.in-Some.next some in
          elim c.match-accepts.branch [
            | in-Some-accepts w ↦
                subst (Looked p ls xs place (n + 1) c.in-Some.next) (sym w.best-is)
                (looked_more p ls xs place m b n c.loop-before.state c.class.result c.loop-before.best a below on c.in-Some.next w.in-Some-accepts.line some
                (sym (w.in-Some-accepts.ensures.inside inside)) (omega (arith, length-map c.args.extent.now g.A.Alphabet.classed)))
            | in_default-accepts w ↦
                subst (Looked p ls xs place (n + 1) c.in-Some.next) (sym w.best-is)
                (looked_same p ls xs place m b n c.loop-before.state c.class.result c.loop-before.best a below on c.in-Some.next some
                (sym (w.in_default-accepts.ensures.inside inside)))
          ],
    )

pub returns : goal.returns
returns g c =
    let n = c.loop-before.before in record {
      within = within_all c.args.place n (length c.args.extent.now) c.loop-before.best (omega (arith, c.in_ok-rest.ensures.lookup)) c.loop-before.invariant.0;
      cut = λ e b ls m. best_found ls _ c.args.place c.loop-before.best (lines_clear c.args.plate.now.desk ls m)
          (best_end ls _ c.args.place n c.loop-before.best
          (omega (arith, c.in_ok-rest.ensures.lookup, c.loop-before-test.false, length-map c.args.extent.now g.A.Alphabet.classed)) (c.loop-before.invariant.1 e b ls m).1);
    }

-- what is answered there is the best that was found
pub returns-in_default : goal.returns-in_default
returns-in_default g c =
    let p = c.args.plate.now in
    let xs = seen g.A.Alphabet.classed c.args.extent.now in
    let place = c.args.place in
    let best = c.loop-before.best in
    let n = c.loop-before.before in record {
      within = subst (λ r. IfSome r (λ q. (q.place ≡ place) × (0 < q.len) × (place + q.len ≤ length c.args.extent.now))) (search rules)
          (within_all place n (length c.args.extent.now) best (omega (arith, c.in_ok-rest.ensures.lookup)) c.loop-before.invariant.0);
      cut = λ e b ls m.
          let a = c.loop-before.invariant.1 e b ls m in
          let below : c.class.result < p.desk.count = omega (arith, c.class.ensures.below, e) in
          subst (λ r. MatchOption r (NothingAt ls xs place) (λ q. Cut ls xs place q.line q.len)) (search rules)
          (best_found ls xs place best (lines_clear p.desk ls m)
          (looked_lost p ls xs place m b n c.loop-before.state c.class.result best a below (next g (goal.at.returns-in_default g c).After-class)
          (c.in_default.ensures.inside (looked_below p ls xs place m b n c.loop-before.state best a) below)));
    }
