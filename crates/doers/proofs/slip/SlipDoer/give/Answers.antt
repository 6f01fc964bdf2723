use Rattle.std.proofs.Common.{◌≡◌, ℕ, ◌-◌, Bool, true, false, cond, leb, List, set, Some, None, sym, refl, arith}
use Rattle.std.proofs.lemmas.Bool.Decides.{nat_tests}
use Rattle.meaning.specs.Bounds.{most_register}
use Rattle.meaning.specs.Doers.{Does, slip_rule, took, left}
use Rattle.doers.specs.declared.action.Action.TheVariants.{Keep, Clear, Append, Count}
use Rattle.doers.proofs.slip.SlipDoer.give.Goals as goal

-- register r becomes n where n fits it, and the code is turned away where it does not
put_does : (rs after : List ℕ) (code mark r n : ℕ) (t : Bool) → slip_rule rs code mark ≡ cond (leb n most_register) (Some (set rs r n)) None
    → t ≡ leb n most_register → after ≡ cond t (set rs r n) rs → Does slip_rule rs code mark t after
put_does rs after code mark r n true h e f = rw f (took {t = set rs r n} (rw h (rw (sym e) refl)))
put_does rs after code mark r n false h e f = rw f (left (rw h (rw (sym e) refl)))

pub returns-in-Ok-Keep : goal.returns-in-Ok-Keep
returns-in-Ok-Keep c = took (grind (arith, nat_tests))

pub returns-in-Ok-Clear : goal.returns-in-Ok-Clear
returns-in-Ok-Clear c = put_does _ _ _ _ c.in-Ok-Clear.r 0 _ (grind (arith, nat_tests)) c.put.ensures.taken c.put.ensures.registers

pub returns-in-Some : goal.returns-in-Some
returns-in-Some c = put_does _ _ _ _ c.in-Ok-Append.r _ _ (grind (arith, nat_tests)) c.put-in-Some.ensures.taken c.put-in-Some.ensures.registers

pub returns-in-None : goal.returns-in-None
returns-in-None c = left (grind (arith, nat_tests))

pub returns-in-Ok-Count : goal.returns-in-Ok-Count
returns-in-Ok-Count c = put_does _ _ _ _ c.in-Ok-Count.r _ _ (grind (arith, nat_tests)) c.put-in-Ok-Count.ensures.taken c.put-in-Ok-Count.ensures.registers

pub returns-in-Err : goal.returns-in-Err
returns-in-Err c =
    let none = c.in-Err.ensures.1 in
    left (grind (arith, nat_tests, none Keep tt, none (Clear (c.args.code - 16)), none (Append (c.args.code - 32)), none (Count (c.args.code - 48))))
