use Rattle.std.proofs.Common.{◌≡◌, ℕ, suc, ◌+◌, ◌-◌, ◌*◌, ◌<◌, List, ◌∷◌, sym, ◌∙◌, subst, arith, pow-add}
use Rattle.positions.specs.declared.draft.Draft.{Draft}
use Rattle.meaning.specs.Text.{Field, Token}
use Rattle.meaning.proofs.Scan.{Stop, Item, digits}
use Rattle.sheet.specs.declared.reader.Reader.{Reader}
use Rattle.sheet.specs.Reading.{NextDigit, Passed, Stands, Tells}
use Rattle.sheet.proofs.Numerals.{none_first, zero_first, other_first, digit_more}
use Rattle.sheet.proofs.reader.Reader.digits.Goals as goal

-- the digit n of a number, with the room that it leaves
next_digit : {count left : ℕ} {t : List ℕ} {d : Draft} {a b : Reader} {f : Field} {s : Stop} {is : List Item} {ts : List Token} (k v n : ℕ) → k < 5 → Stands count t d a (digits f s (5 - k) v ∷ is) ts left → Passed a b → NextDigit a (n + 48) → Stands count t d b (digits f s (5 - (k + 1)) (v * 10 + n) ∷ is) ts left
next_digit {count} {left} {t} {d} {a} {f = f} {s} {is} {ts} k v n l h p g =
    let room : 5 - k ≡ suc (5 - (k + 1)) = omega arith in
    digit_more (5 - (k + 1)) v n (subst (λ r. Stands count t d a (digits f s r v ∷ is) ts left) room h) p g

pub returns-in_default-clause-reads : goal.returns-in_default-clause-reads
returns-in_default-clause-reads c =
    let w = c.in_default.ensures in
    λ count t d f s is ts left h. subst (Tells count t) (sym c.bad_form.ensures) (rw w.1 (none_first h w.0))

pub returns-then-first-eq0-clause-reads : goal.returns-then-first-eq0-clause-reads
returns-then-first-eq0-clause-reads c =
    let w = c.in-Some.ensures in
    λ count t d f s is ts left h. record { room = 0; stands = zero_first h w.1 (subst (λ n. NextDigit c.args.self.now (n + 48)) c.if-first-eq0.true w.0); ends = λ p. absurd (omega arith) }

pub loop-preserved : goal.loop-preserved
loop-preserved c =
    let w = c.in-Some-digit.ensures in
    let one = w.1 in
    record {
      fits = omega (arith, pow-add 10 c.loop.counter 1, c.loop.invariant.fits, w.0.1);
      onward = record { text_is = one.text_is ∙ c.loop.invariant.onward.text_is; on = omega arith };
      more = λ count t d f s is ts left h. next_digit c.loop.counter c.loop.value c.in-Some-digit.d c.loop-test.true (c.loop.invariant.more count t d f s is ts left h) w.1 w.0;
    }

pub returns-after-loop-clause-reads : goal.returns-after-loop-clause-reads
returns-after-loop-clause-reads c =
    let w = c.in-Some.ensures in
    λ count t d f s is ts left h.
    record {
      room = 5 - c.loop.counter;
      stands = c.loop.invariant.more count t d f s is ts left (other_first c.in-Some.first h w.1 w.0 c.if-first-eq0.false);
      ends = λ p. absurd (omega (arith, c.loop-test.false));
    }

pub returns-in_default-digit-clause-reads : goal.returns-in_default-digit-clause-reads
returns-in_default-digit-clause-reads c =
    let w = c.in-Some.ensures in
    let n = c.in_default-digit.ensures in
    λ count t d f s is ts left h.
    rw n.1 (record {
      room = 5 - c.loop.counter;
      stands = c.loop.invariant.more count t d f s is ts left (other_first c.in-Some.first h w.1 w.0 c.if-first-eq0.false);
      ends = λ p. n.0;
    })
