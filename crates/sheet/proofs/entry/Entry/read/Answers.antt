use Rattle.std.proofs.Common.{◌≡◌, ℕ, ◌<◌, Bool, false, eqb, length, sym, ◌∙◌, subst, inl, inr, arith}
use Rattle.std.proofs.lemmas.Result.{err_from_is_err_and}
use Rattle.std.proofs.lemmas.Bool.{eqb-true, eqb-false}
use Rattle.meaning.specs.Runs.{TextRefused, TextAccepted, size}
use Rattle.sheet.specs.Refusals.{reported}
use Rattle.sheet.proofs.Recording.{refused_fault, refused_clash, accepted, records}
use Rattle.sheet.proofs.entry.Entry.read.Goals as goal

not_empty : (r : Bool) (n : ℕ) → r ≡ eqb n 0 → r ≡ false → 0 < n
not_empty r n e f = omega (arith, eqb-false n 0 (sym e ∙ f))

pub returns-then-is_empty : goal.returns-then-is_empty
returns-then-is_empty g c = size (elim c.then-is_empty.either [ inl e ↦ inl (eqb-true (length c.args.text.now) 0 (sym c.is_empty.ensures ∙ e)) | inr p ↦ inr p.1 ])

pub returns-in_err-parsed : goal.returns-in_err-parsed
returns-in_err-parsed g c =
    let p = err_from_is_err_and c.from_residual.result c.from_residual.ensures.1 in
    let f = c.in_err-parsed.field-0.0 in
    rw (p.1, p.2)
    (subst (λ n. TextRefused n c.args.text.now (reported f)) c.COUNT.ensures
    (refused_fault c.COUNT.result c.args.text.now (not_empty c.is_empty.result _ c.is_empty.ensures c.if-is_empty.false) c.if-text-gt-MOST_BYTES.false f c.in_err-parsed.ensures))

pub invariant_of-result : goal.invariant_of-result
invariant_of-result g c =
    let r = c.in_ok-parsed.ensures in
    let s = c.new-sets.ensures r.line r.drafted in
    record {
      some = not_empty c.is_empty.result _ c.is_empty.ensures c.if-is_empty.false;
      short = c.if-text-gt-MOST_BYTES.false;
      is = ∣ (r.line, records c.COUNT.result c.args.text.now _ c.new-sets.result r c.copied.ensures s (c.in-None.ensures r.line s)) ∣₁;
    }

pub returns-in-Some : goal.returns-in-Some
returns-in-Some g c =
    let r = c.in_ok-parsed.ensures in
    let s = c.new-sets.ensures r.line r.drafted in
    subst (λ n. TextRefused n c.args.text.now (record { number = 6; layer = 2; one = c.in-Some.p; two = c.in-Some.q })) c.COUNT.ensures
    (refused_clash c.COUNT.result c.args.text.now (not_empty c.is_empty.result _ c.is_empty.ensures c.if-is_empty.false) c.if-text-gt-MOST_BYTES.false r c.in-Some.p c.in-Some.q (c.in-Some.ensures r.line s))

pub returns-in-None : goal.returns-in-None
returns-in-None g c =
    let r = c.in_ok-parsed.ensures in
    let s = c.new-sets.ensures r.line r.drafted in (
      c.copied.ensures,
      subst (λ n. TextAccepted n c.args.text.now) c.COUNT.ensures
          (accepted c.COUNT.result c.args.text.now (not_empty c.is_empty.result _ c.is_empty.ensures c.if-is_empty.false) c.if-text-gt-MOST_BYTES.false r (c.in-None.ensures r.line s)),
    )
