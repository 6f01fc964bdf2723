use Rattle.std.proofs.Common.{◌≡◌, ℕ, ◌+◌, get_or, sym, ap, ◌∙◌, subst, arith}
use Rattle.std.proofs.lemmas.Bool.{both_ways}
use Rattle.meaning.specs.declared.Symbol.{Symbol}
use Rattle.meaning.specs.Positions.{no_symbol}
use Rattle.positions.specs.Masks.{held, nth}
use Rattle.positions.specs.Ranges.{Shared}
use Rattle.positions.proofs.Marking.{nth_next, marked_yes, marked_no}
use Rattle.positions.proofs.symbols.Symbols.overlapping.Goals as goal
use Rattle.positions.proofs.symbols.Symbols.overlapping.Goals.{then-overlap, else-overlap}

pub loop-p-preserved : goal.loop-p-preserved
loop-p-preserved c =
    let s : Symbol = get_or c.as_slice-symbol-items.result.now c.loop-p.p no_symbol in
    let here : s ≡ nth (held c.args.self.now) (c.loop-p.p + 1) = ap (λ xs. get_or xs c.loop-p.p no_symbol) c.as_slice-symbol-items.ensures.value ∙ sym (nth_next (held c.args.self.now) c.loop-p.p) in
    let Overlaps : ℕ → Type 0 = λ q. Shared c.args.low c.args.high (nth (held c.args.self.now) q) in
    elim c.if-overlap.branch [
      | then-overlap w ↦ rw w.set-is (marked_yes Overlaps c.loop-p.p c.loop-p.set (omega arith) (subst (Shared c.args.low c.args.high) here (c.overlap.ensures.0 w.if-overlap.true)) c.loop-p.invariant)
      | else-overlap w ↦
          rw w.set-is (marked_no Overlaps c.loop-p.p c.loop-p.set
          (λ o. both_ways _ w.if-overlap.false (c.overlap.ensures.1 (subst (Shared c.args.low c.args.high) (sym here) o))) c.loop-p.invariant)
    ]
