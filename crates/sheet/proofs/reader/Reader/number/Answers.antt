use Rattle.std.proofs.Common.{◌≡◌, Some, sym, subst, arith}
use Rattle.std.proofs.lemmas.Grind.{common_steps}
use Rattle.std.proofs.lemmas.Bool.Decides.{nat_tests}
use Rattle.std.proofs.lemmas.Result.{err_from_is_err_and}
use Rattle.sheet.specs.Reading.{upcoming, Tells}
use Rattle.sheet.proofs.Numerals.{no_stop, not_taken, number_on}
use Rattle.sheet.proofs.reader.Reader.number.Goals as goal

pub returns-in_err-value-clause-reads : goal.returns-in_err-value-clause-reads
returns-in_err-value-clause-reads c =
    let p = err_from_is_err_and c.from_residual.result c.from_residual.ensures.1 in
    λ count t d f s is ts left left' h e takes lv. rw (p.1, p.2) (c.in_err-value.ensures.reads count t d f s is ts left h)

pub returns-then-ne-clause-reads : goal.returns-then-ne-clause-reads
returns-then-ne-clause-reads c = λ count t d f s is ts left left' h e takes lv.
    subst (Tells count t) (sym c.bad_form.ensures)
    (no_stop c.args.stop c.in_ok-value.value (c.in_ok-value.ensures.reads count t d f s is ts left h) e (λ x. grind (arith, common_steps)))

pub returns-then-not-contains-clause-reads : goal.returns-then-not-contains-clause-reads
returns-then-not-contains-clause-reads c =
    let n : upcoming c.digits.new.self ≡ Some c.args.stop = grind (arith, common_steps) in
    λ count t d f s is ts left left' h e takes lv.
    not_taken c.args.stop c.in_ok-value.value (c.in_ok-value.ensures.reads count t d f s is ts left h) e n
    (takes.outside c.in_ok-value.value (grind (arith, nat_tests)))

pub returns-clause-reads : goal.returns-clause-reads
returns-clause-reads c =
    let n : upcoming c.digits.new.self ≡ Some c.args.stop = grind (arith, common_steps) in
    λ count t d f s is ts left left' h k takes lv.
    number_on c.args.stop left' c.in_ok-value.value (c.in_ok-value.ensures.reads count t d f s is ts left h) c.pass.ensures k n lv (takes.inside c.in_ok-value.value (grind (arith, nat_tests)) (grind (arith, nat_tests)))
