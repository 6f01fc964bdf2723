use Rattle.std.proofs.Common.{◌≡◌, ℕ, List, [], ◌∷◌, codes as ascii, is_some, sym, refl, ap, ◌∙◌, subst}
use Rattle.std.proofs.lemmas.Result.{err_from_is_err_and}
use Rattle.positions.specs.declared.draft.Draft.{Draft}
use Rattle.meaning.specs.Text.{action, fixed, number}
use Rattle.meaning.proofs.Scan.{blank, closing, rest, numeral, form, start}
use Rattle.meaning.proofs.Open.{rule_tokens}
use Rattle.sheet.specs.Reading.{Left, Stands, Tells, ExprRead}
use Rattle.sheet.proofs.Standing.{at_end, tells_more}
use Rattle.sheet.proofs.Numerals.{takes_code}
use Rattle.sheet.proofs.Lining.{line_read}
use Rattle.sheet.proofs.reader.Reader.line.Goals as goal
use Rattle.sheet.proofs.reader.Reader.line.Goals.{In_ok-expect, In_ok-opening, In_ok-closing, In_ok-part}

module _ (count : ℕ) (t : List ℕ) (d : Draft) where
  -- behind the first bytes
  ruled : (c : In_ok-expect) → Stands count t d c.args.self.now start [] 16
      → Stands count t d c.expect.new.self (numeral action blank ∷ numeral action blank ∷ form ∷ rest 41 [] closing ∷ []) (fixed (ascii "(rule ") ∷ []) 15
  ruled c h = c.in_ok-expect.ensures.reads count t d _ _ [] 15 16 15 h (refl, refl)

  -- behind the first code
  opened : (c : In_ok-opening) → Stands count t d c.args.self.now start [] 16
      → Stands count t d c.number.new.self (numeral action blank ∷ form ∷ rest 41 [] closing ∷ []) (fixed (ascii " ") ∷ number action c.in_ok-opening.opening ∷ fixed (ascii "(rule ") ∷ []) 15
  opened c h = c.in_ok-opening.ensures.reads count t d action blank _ _ 15 15 (ruled (goal.at.In_ok-opening c).In_ok-expect h) refl (takes_code count) refl

  -- behind both codes
  coded : (c : In_ok-closing) → Stands count t d c.args.self.now start [] 16 → Stands count t d c.number-2.new.self (form ∷ rest 41 [] closing ∷ []) (rule_tokens c.in_ok-opening.opening c.in_ok-closing.closing) 15
  coded c h = c.in_ok-closing.ensures.reads count t d action blank _ _ 15 15 (opened (goal.at.In_ok-closing c).In_ok-opening h) refl (takes_code count) refl

  -- behind the expression
  formed : (c : In_ok-part) → Stands count t d c.args.self.now start [] 16 → d.symbols.len ≡ 0 → ExprRead count t d c.form.new.self (rest 41 [] closing ∷ []) (rule_tokens c.in_ok-opening.opening c.in_ok-closing.closing) 15 c.in_ok-part.part
  formed c h zero = c.in_ok-part.ensures.reads count t d (rest 41 [] closing ∷ []) (rule_tokens _ _) (coded (goal.at.In_ok-part c).In_ok-closing h) (sym zero)

pub returns-in_err-expect : goal.returns-in_err-expect
returns-in_err-expect c =
    let p = err_from_is_err_and c.from_residual.result c.from_residual.ensures.1 in
    λ count t d h zero empty. rw (p.1, p.2) (c.in_err-expect.ensures.reads count t d _ _ [] 15 16 15 h (refl, refl))

pub returns-in_err-opening : goal.returns-in_err-opening
returns-in_err-opening c =
    let p = err_from_is_err_and c.from_residual-in_err-opening.result c.from_residual-in_err-opening.ensures.1 in
    λ count t d h zero empty.
    rw (p.1, p.2) (c.in_err-opening.ensures.reads count t d action blank _ _ 15 15 (ruled count t d (goal.at.returns-in_err-opening c).In_ok-expect h) refl (takes_code count) refl)

pub returns-in_err-closing : goal.returns-in_err-closing
returns-in_err-closing c =
    let p = err_from_is_err_and c.from_residual-in_err-closing.result c.from_residual-in_err-closing.ensures.1 in
    λ count t d h zero empty.
    rw (p.1, p.2) (c.in_err-closing.ensures.reads count t d action blank _ _ 15 15 (opened count t d (goal.at.returns-in_err-closing c).In_ok-opening h) refl (takes_code count) refl)

pub returns-in_err-part : goal.returns-in_err-part
returns-in_err-part c =
    let p = err_from_is_err_and c.from_residual-in_err-part.result c.from_residual-in_err-part.ensures.1 in
    λ count t d h zero empty.
    rw (p.1, p.2) (c.in_err-part.ensures.reads count t d (rest 41 [] closing ∷ []) (rule_tokens _ _) (coded count t d (goal.at.returns-in_err-part c).In_ok-closing h) (sym zero))

pub returns-in_err-expect-2 : goal.returns-in_err-expect-2
returns-in_err-expect-2 c =
    let p = err_from_is_err_and c.from_residual-in_err-expect-2.result c.from_residual-in_err-expect-2.ensures.1 in
    λ count t d h zero empty.
    let r = formed count t d (goal.at.returns-in_err-expect-2 c).In_ok-part h zero in
    rw (p.1, p.2) (c.in_err-expect-2.ensures.reads count t r.after _ _ _ 15 15 16 r.stands (refl, refl))

pub returns-then-is_some : goal.returns-then-is_some
returns-then-is_some c = λ count t d h zero empty.
    let r = formed count t d (goal.at.returns-then-is_some c).In_ok-part h zero in
    let closed = c.in_ok-expect-2.ensures.reads count t r.after _ _ _ 15 15 16 r.stands (refl, refl) in
    let left : Left c.expect-2.new.self = c.next.ensures.left (sym c.is_some.ensures ∙ c.if-is_some.true) in
    subst (Tells count t) (sym c.bad_form.ensures) (tells_more closed left)

pub returns : goal.returns
returns c = λ count t d h zero empty.
    let r = formed count t d (goal.at.returns c).In_ok-part h zero in
    let closed = c.in_ok-expect-2.ensures.reads count t r.after _ _ _ 15 15 16 r.stands (refl, refl) in
    let over = at_end c.expect-2.new.self (ap is_some (sym c.next.ensures.value) ∙ sym c.is_some.ensures ∙ c.if-is_some.false) in
    line_read c.in_ok-opening.opening c.in_ok-closing.closing r closed over zero empty
