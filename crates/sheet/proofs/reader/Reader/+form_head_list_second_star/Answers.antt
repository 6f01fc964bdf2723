use Rattle.std.proofs.Common.{◌≡◌, ℕ, ◌+◌, ◌-◌, List, [], ◌∷◌, codes as ascii, Some, sym, refl, subst, arith, MatchResult}
use Rattle.std.proofs.lemmas.Grind.{common_steps}
use Rattle.std.proofs.lemmas.Result.{err_from_is_err_and, MatchResult-weaker}
use Rattle.positions.specs.declared.draft.Draft.{Draft}
use Rattle.meaning.specs.Text.{Token, fixed, heads}
use Rattle.meaning.proofs.Scan.{closing, Item, rest, form, letter, second, listing}
use Rattle.meaning.proofs.Steps.{form_stuck, letter_stuck, second_stuck, listing_stuck}
use Rattle.sheet.specs.declared.reader.Join.TheVariants.{Seq, Alt}
use Rattle.sheet.specs.declared.reader.Reader.{Reader}
use Rattle.sheet.specs.Reading.{upcoming, Passed, Stands, Tells, ExprRead}
use Rattle.sheet.proofs.Standing.{turn, tells_form, tells_deep}
use Rattle.sheet.proofs.Forming.{list_read, one_read, more_read, star_read}
use Rattle.sheet.proofs.reader.Reader.+form_head_list_second_star.Goals as goal
use Rattle.sheet.proofs.reader.Reader.+form_head_list_second_star.Goals.{star-In_ok-expect, star-In_ok-part}

-- behind `(a`, behind `(se`, and behind the blank of a list
module _ {count levels : ℕ} {w : List ℕ} {d : Draft} {a b : Reader} {is : List Item} {ts : List Token} where
  alt_on : Stands count w d a (letter ∷ is) ts levels → upcoming a ≡ Some 97 → Passed a b → Stands count w d b (rest 108 (ascii "t ") (fixed (ascii "(alt ")) ∷ form ∷ listing ∷ is) ts levels
  alt_on h n p = turn 97 _ [] levels h n p refl refl tt

  seq_on : Stands count w d a (second ∷ is) ts levels → upcoming a ≡ Some 101 → Passed a b → Stands count w d b (rest 113 (ascii " ") (fixed (ascii "(seq ")) ∷ form ∷ listing ∷ is) ts levels
  seq_on h n p = turn 101 _ [] levels h n p refl refl tt

  blank_on : Stands count w d a (listing ∷ is) ts levels → upcoming a ≡ Some 32 → Passed a b → Stands count w d b (form ∷ listing ∷ is) (fixed (ascii " ") ∷ ts) levels
  blank_on h n p = turn 32 _ (fixed (ascii " ") ∷ []) levels h n p refl refl tt

-- a form
pub form-returns-then-ne-clause-reads : goal.form-returns-then-ne-clause-reads
form-returns-then-ne-clause-reads t c = λ count w d is ts h m.
    subst (Tells count w) (sym c.bad_form.ensures) (tells_form h (λ b n. form_stuck is b (λ x. grind (arith, common_steps))))

pub form-returns-then-levels-eq0-clause-reads : goal.form-returns-then-levels-eq0-clause-reads
form-returns-then-levels-eq0-clause-reads t c =
    let n : upcoming c.args.self.now ≡ Some 40 = grind (arith, common_steps) in
    λ count w d is ts h m. tells_deep {js = letter ∷ is} {us = []} (subst (λ l. Stands count w d c.args.self.now (form ∷ is) ts l) c.if-levels-eq0.true h) n refl

pub form-returns-clause-reads : goal.form-returns-clause-reads
form-returns-clause-reads t c =
    let n : upcoming c.args.self.now ≡ Some 40 = grind (arith, common_steps) in
    let one : c.args.levels - 1 + 1 ≡ c.args.levels = omega (arith, c.if-levels-eq0.false) in
    λ count w d is ts h m.
    let s = turn 40 (letter ∷ is) [] (c.args.levels - 1) h n c.pass.ensures refl (omega (arith, c.if-levels-eq0.false)) tt in
    subst (λ l. MatchResult c.head.result (λ part. ExprRead count w d c.head.new.self is ts l part) (Tells count w)) one (c.head.ensures.reads count w d is ts s m)

-- a form behind its bracket
pub head-returns-in_err-expect-in-Some-a-clause-reads : goal.head-returns-in_err-expect-in-Some-a-clause-reads
head-returns-in_err-expect-in-Some-a-clause-reads t c =
    let n : upcoming c.args.self.now ≡ Some 97 = grind (arith, common_steps) in
    let p = err_from_is_err_and c.from_residual.result c.from_residual.ensures.1 in
    λ count w d is ts h m.
    rw (p.1, p.2) (c.in_err-expect-in-Some-a.ensures.reads count w d _ _ ts c.args.levels c.args.levels c.args.levels (alt_on h n c.pass.ensures) (omega arith, omega arith))

pub head-returns-in_ok-expect-in-Some-a-clause-reads : goal.head-returns-in_ok-expect-in-Some-a-clause-reads
head-returns-in_ok-expect-in-Some-a-clause-reads t c =
    let n : upcoming c.args.self.now ≡ Some 97 = grind (arith, common_steps) in
    λ count w d is ts h m.
    let s = c.in_ok-expect-in-Some-a.ensures.reads count w d _ _ ts c.args.levels c.args.levels c.args.levels (alt_on h n c.pass.ensures) (omega arith, omega arith) in
    MatchResult-weaker c.list.result (c.list.ensures.reads count w d is _ s m) (λ part r. list_read Alt r) (λ f r. r)

pub head-returns-in-Some-n-clause-reads : goal.head-returns-in-Some-n-clause-reads
head-returns-in-Some-n-clause-reads t c =
    let n : upcoming c.args.self.now ≡ Some 110 = grind (arith, common_steps) in
    λ count w d is ts h m. c.none.ensures.reads c.args.levels count w d is ts (turn 110 (rest 111 (ascii "ne)") (fixed (ascii "(none)")) ∷ is) [] c.args.levels h n c.pass-in-Some-n.ensures refl refl tt) m

pub head-returns-in-Some-s-clause-reads : goal.head-returns-in-Some-s-clause-reads
head-returns-in-Some-s-clause-reads t c =
    let n : upcoming c.args.self.now ≡ Some 115 = grind (arith, common_steps) in
    λ count w d is ts h m. c.second.ensures.reads count w d is ts (turn 115 (second ∷ is) [] c.args.levels h n c.pass-in-Some-s.ensures refl refl tt) m

pub head-returns-in_default-clause-reads : goal.head-returns-in_default-clause-reads
head-returns-in_default-clause-reads t c = λ count w d is ts h m.
    subst (Tells count w) (sym c.bad_form.ensures) (tells_form h (λ b n. letter_stuck is b (λ x. grind (arith, common_steps)) (λ x. grind (arith, common_steps)) (λ x. grind (arith, common_steps))))

-- a list
pub list-returns-in_err-one-clause-reads : goal.list-returns-in_err-one-clause-reads
list-returns-in_err-one-clause-reads t c =
    let p = err_from_is_err_and c.from_residual.result c.from_residual.ensures.1 in
    λ count w d is ts h m. rw (p.1, p.2) (c.in_err-one.ensures.reads count w d (listing ∷ is) ts h m)

pub list-returns-in_err-rest-in-Some-eq32-clause-reads : goal.list-returns-in_err-rest-in-Some-eq32-clause-reads
list-returns-in_err-rest-in-Some-eq32-clause-reads t c =
    let n : upcoming c.form.new.self ≡ Some 32 = grind (arith, common_steps) in
    let p = err_from_is_err_and c.from_residual-in_err-rest-in-Some-eq32.result c.from_residual-in_err-rest-in-Some-eq32.ensures.1 in
    λ count w d is ts h m.
    let r = c.in_ok-one.ensures.reads count w d (listing ∷ is) ts h m in
    let s = blank_on r.stands n c.pass.ensures in
    rw (p.1, p.2) (c.in_err-rest-in-Some-eq32.ensures.reads count w r.after is _ s r.heads_are)

pub list-returns-in_ok-rest-in-Some-eq32-clause-reads : goal.list-returns-in_ok-rest-in-Some-eq32-clause-reads
list-returns-in_ok-rest-in-Some-eq32-clause-reads t c =
    let n : upcoming c.form.new.self ≡ Some 32 = grind (arith, common_steps) in
    λ count w d is ts h m.
    let r = c.in_ok-one.ensures.reads count w d (listing ∷ is) ts h m in
    let s = blank_on r.stands n c.pass.ensures in
    more_read c.args.join _ r (c.in_ok-rest-in-Some-eq32.ensures.reads count w r.after is _ s r.heads_are) (record { text_is = refl; counts = refl; place = refl }) c.joined.ensures.count c.joined.ensures.adds

pub list-returns-in-Some-eq41-clause-reads : goal.list-returns-in-Some-eq41-clause-reads
list-returns-in-Some-eq41-clause-reads t c =
    let n : upcoming c.form.new.self ≡ Some 41 = grind (arith, common_steps) in
    λ count w d is ts h m.
    let r = c.in_ok-one.ensures.reads count w d (listing ∷ is) ts h m in
    one_read c.args.join r (turn 41 is (closing ∷ []) (c.args.levels + 1) r.stands n c.pass-in-Some-eq41.ensures refl (omega arith) tt)

pub list-returns-in_default-clause-reads : goal.list-returns-in_default-clause-reads
list-returns-in_default-clause-reads t c = λ count w d is ts h m.
    let r = c.in_ok-one.ensures.reads count w d (listing ∷ is) ts h m in
    subst (Tells count w) (sym c.bad_form.ensures) (tells_form r.stands (λ b n. listing_stuck is b (λ x. grind (arith, common_steps)) (λ x. grind (arith, common_steps))))

-- a form behind `(s`
pub second-returns-in_err-expect-in-Some-e-clause-reads : goal.second-returns-in_err-expect-in-Some-e-clause-reads
second-returns-in_err-expect-in-Some-e-clause-reads t c =
    let n : upcoming c.args.self.now ≡ Some 101 = grind (arith, common_steps) in
    let p = err_from_is_err_and c.from_residual.result c.from_residual.ensures.1 in
    λ count w d is ts h m.
    rw (p.1, p.2) (c.in_err-expect-in-Some-e.ensures.reads count w d _ _ ts c.args.levels c.args.levels c.args.levels (seq_on h n c.pass-in-Some-e.ensures) (omega arith, omega arith))

pub second-returns-in_ok-expect-in-Some-e-clause-reads : goal.second-returns-in_ok-expect-in-Some-e-clause-reads
second-returns-in_ok-expect-in-Some-e-clause-reads t c =
    let n : upcoming c.args.self.now ≡ Some 101 = grind (arith, common_steps) in
    λ count w d is ts h m.
    let s = c.in_ok-expect-in-Some-e.ensures.reads count w d _ _ ts c.args.levels c.args.levels c.args.levels (seq_on h n c.pass-in-Some-e.ensures) (omega arith, omega arith) in
    MatchResult-weaker c.list.result (c.list.ensures.reads count w d is _ s m) (λ part r. list_read Seq r) (λ f r. r)

pub second-returns-in-Some-y-clause-reads : goal.second-returns-in-Some-y-clause-reads
second-returns-in-Some-y-clause-reads t c =
    let n : upcoming c.args.self.now ≡ Some 121 = grind (arith, common_steps) in
    λ count w d is ts h m. c.symbol.ensures.reads c.args.levels count w d is ts (turn 121 _ [] c.args.levels h n c.pass.ensures refl refl tt) m

pub second-returns-in-Some-t-clause-reads : goal.second-returns-in-Some-t-clause-reads
second-returns-in-Some-t-clause-reads t c =
    let n : upcoming c.args.self.now ≡ Some 116 = grind (arith, common_steps) in
    λ count w d is ts h m. c.star.ensures.reads count w d is ts (turn 116 _ [] c.args.levels h n c.pass-in-Some-t.ensures refl refl tt) m

pub second-returns-in_default-clause-reads : goal.second-returns-in_default-clause-reads
second-returns-in_default-clause-reads t c = λ count w d is ts h m.
    subst (Tells count w) (sym c.bad_form.ensures) (tells_form h (λ b n. second_stuck is b (λ x. grind (arith, common_steps)) (λ x. grind (arith, common_steps)) (λ x. grind (arith, common_steps))))

-- a form behind `(st`
pub star-returns-in_err-expect-clause-reads : goal.star-returns-in_err-expect-clause-reads
star-returns-in_err-expect-clause-reads t c =
    let p = err_from_is_err_and c.from_residual.result c.from_residual.ensures.1 in
    λ count w d is ts h m. rw (p.1, p.2) (c.in_err-expect.ensures.reads count w d _ _ ts c.args.levels c.args.levels c.args.levels h (omega arith, omega arith))

-- behind `(star `, and behind the form in it
module _ (count : ℕ) (w : List ℕ) (d : Draft) (is : List Item) (ts : List Token) where
  starting : (t : ℕ) (c : star-In_ok-expect t) → Stands count w d c.args.self.now (rest 97 (ascii "r ") (fixed (ascii "(star ")) ∷ form ∷ rest 41 [] closing ∷ is) ts c.args.levels → Stands count w d c.expect.new.self (form ∷ rest 41 [] closing ∷ is) (fixed (ascii "(star ") ∷ ts) c.args.levels
  starting t c h = c.in_ok-expect.ensures.reads count w d _ _ ts c.args.levels c.args.levels c.args.levels h (omega arith, omega arith)

  starred_form : (t : ℕ) (c : star-In_ok-part t) → Stands count w d c.args.self.now (rest 97 (ascii "r ") (fixed (ascii "(star ")) ∷ form ∷ rest 41 [] closing ∷ is) ts c.args.levels → heads ts ≡ d.symbols.len → ExprRead count w d c.form.new.self (rest 41 [] closing ∷ is) (fixed (ascii "(star ") ∷ ts) c.args.levels c.in_ok-part.part
  starred_form t c h m = c.in_ok-part.ensures.reads count w d (rest 41 [] closing ∷ is) _ (starting t (goal.at.star-In_ok-part t c).In_ok-expect h) m

pub star-returns-in_err-part-clause-reads : goal.star-returns-in_err-part-clause-reads
star-returns-in_err-part-clause-reads t c =
    let p = err_from_is_err_and c.from_residual-in_err-part.result c.from_residual-in_err-part.ensures.1 in
    λ count w d is ts h m. rw (p.1, p.2) (c.in_err-part.ensures.reads count w d (rest 41 [] closing ∷ is) _ (starting count w d is ts t (goal.at.star-returns-in_err-part-clause-reads t c).In_ok-expect h) m)

pub star-returns-in_err-expect-2-clause-reads : goal.star-returns-in_err-expect-2-clause-reads
star-returns-in_err-expect-2-clause-reads t c =
    let p = err_from_is_err_and c.from_residual-in_err-expect-2.result c.from_residual-in_err-expect-2.ensures.1 in
    λ count w d is ts h m.
    let r = starred_form count w d is ts t (goal.at.star-returns-in_err-expect-2-clause-reads t c).In_ok-part h m in
    rw (p.1, p.2) (c.in_err-expect-2.ensures.reads count w r.after _ _ _ c.args.levels c.args.levels (c.args.levels + 1) r.stands (omega arith, omega arith))

pub star-returns-clause-reads : goal.star-returns-clause-reads
star-returns-clause-reads t c = λ count w d is ts h m.
    let r = starred_form count w d is ts t (goal.at.star-returns-clause-reads t c).In_ok-part h m in
    star_read _ r (c.in_ok-expect-2.ensures.reads count w r.after _ _ _ c.args.levels c.args.levels (c.args.levels + 1) r.stands (omega arith, omega arith)) (record { text_is = refl; counts = refl; place = refl }) c.starred.ensures.count c.starred.ensures.adds
