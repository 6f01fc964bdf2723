use Rattle.std.proofs.Common.{ℕ, get_or, refl, sym, ap, ◌∙◌, inl, inr, arith}
use lib.Bits.{bit_or, or_zero_r}
use Rattle.std.proofs.lemmas.Bool.{cases_Bool, cases_lt, both_ways, cond-true, cond-false}
use Rattle.meaning.specs.Positions.{holds}
use Rattle.positions.proofs.Ranges.{in_range, range_of}
use Rattle.positions.proofs.RangeMarks.{marked_more}
use Rattle.positions.proofs.symbols.mark.Goals as goal

pub loop-class-init : goal.loop-class-init
loop-class-init c = (
  record {
    long = refl;
    within = λ k l b. absurd (omega arith);
    outside = λ k s. refl;
  },
  omega arith,
  inl c.from-class.ensures,
)

pub loop-class-preserved : goal.loop-class-preserved
loop-class-preserved c =
    let (m, l, s) = c.loop-class.invariant in
    (marked_more _ _ _ _ _ (omega (arith, m.long)) l m, omega arith, inr (omega arith))

pub returns : goal.returns
returns c class h =
    let (m, l, s) = c.loop-class.invariant in
    let before : ℕ = get_or c.args.masks.now class 0 in
    elim (cases_Bool (holds c.args.symbol.now class)) [
      | inl e ↦
          let (i, j) = range_of c.args.symbol.now class e in
          m.within class i (omega arith) ∙ ap (bit_or before) (sym (cond-true _ c.args.positions 0 e))
      | inr e ↦
          m.outside class (elim (cases_lt class c.args.symbol.now.low) [
            | inl a ↦ inl a
            | inr a ↦ elim s [
              | inl f ↦ inr (omega arith)
              | inr f ↦ elim (cases_lt c.args.symbol.now.high class) [
                | inl b ↦ inr (omega arith)
                | inr b ↦ absurd (both_ways _ e (in_range c.args.symbol.now class a b))
              ]
            ]
          ]) ∙ sym (or_zero_r before) ∙ ap (bit_or before) (sym (cond-false _ c.args.positions 0 e))
    ]
