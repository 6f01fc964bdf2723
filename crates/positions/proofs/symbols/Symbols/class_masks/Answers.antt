use Rattle.std.proofs.Common.{◌≡◌, ℕ, ◌+◌, true, length, get_or, sym, ap, ◌∙◌, subst, inl, inr, arith}
use lib.Bits.{bit_or, or_zero_r}
use Rattle.std.proofs.lemmas.Bool.{cases_Bool, both_ways, cond-true, cond-false}
use Rattle.std.proofs.lemmas.List.{get_or-replicate}
use Rattle.meaning.specs.declared.Symbol.{Symbol}
use Rattle.meaning.specs.Positions.{holds, has, no_symbol}
use Rattle.meaning.proofs.Masks.{has_zero}
use Rattle.positions.specs.Masks.{held, nth}
use Rattle.positions.proofs.Marking.{Marked, nth_next, marked_yes, marked_no}
use Rattle.positions.proofs.symbols.Symbols.class_masks.Goals as goal

pub loop-p-init : goal.loop-p-init
loop-p-init c class h q k = (
  λ e. absurd (both_ways _ (ap (λ set. has set q) (get_or-replicate 256 class 0 0 h) ∙ has_zero q) e),
  λ (l, e). absurd (omega arith),
)

pub loop-p-preserved : goal.loop-p-preserved
loop-p-preserved c class h =
    let s : Symbol = get_or c.as_slice-symbol-items.result.now c.loop-p.p no_symbol in
    let here : s ≡ nth (held c.args.self.now) (c.loop-p.p + 1) = ap (λ xs. get_or xs c.loop-p.p no_symbol) c.as_slice-symbol-items.ensures.value ∙ sym (nth_next (held c.args.self.now) c.loop-p.p) in
    let Holds : ℕ → Type 0 = λ q. holds (nth (held c.args.self.now) q) class ≡ true in
    let set : ℕ = get_or c.loop-p.masks class 0 in
    let few = c.as_slice-symbol-items.ensures.few in
    elim (cases_Bool (holds s class)) [
      | inl e ↦
          subst (Marked Holds (c.loop-p.p + 1)) (sym (c.mark.ensures class h ∙ ap (bit_or set) (cond-true _ _ 0 e)))
          (marked_yes Holds c.loop-p.p set (omega (arith, c.as_slice-symbol-items.ensures.len)) (ap (λ x. holds x class) (sym here) ∙ e) (c.loop-p.invariant class h))
      | inr e ↦
          subst (Marked Holds (c.loop-p.p + 1)) (sym (c.mark.ensures class h ∙ ap (bit_or set) (cond-false _ _ 0 e) ∙ or_zero_r set))
          (marked_no Holds c.loop-p.p set (λ o. both_ways _ e (ap (λ x. holds x class) here ∙ o)) (c.loop-p.invariant class h))
    ]

pub returns : goal.returns
returns c class p h k = subst (λ n. Marked (λ q. holds (nth (held c.args.self.now) q) class ≡ true) n (get_or c.loop-p.masks class 0)) (omega (arith, ap (λ xs. length xs) c.as_slice-symbol-items.ensures.value)) (c.loop-p.invariant class h) p k
