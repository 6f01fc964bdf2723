use Rattle.std.proofs.Common.{ℕ, ◌+◌, ◌*◌, [], get_or, ap, ◌∙◌, inl, inr, arith, subst, length-set, get_or-set_same, get_or-set_other}
use Rattle.std.proofs.lemmas.Bool.{cases_eq}
use Rattle.std.proofs.lemmas.List.{get_or_default, drop-set-lt}
use Rattle.meaning.specs.States.{nowhere}
use Rattle.plate.specs.Cells.{Beyond}
use Rattle.plate.proofs.Standing.{beyond_more}
use Rattle.plate.proofs.numbering.Numbering.fill_sets.Goals as goal

pub loop-k-preserved : goal.loop-k-preserved
loop-k-preserved c =
    let cell : ℕ = c.loop-s.s * 8 + c.loop-k.k in
    let v : ℕ = get_or (get_or c.deref-state-items.result.now c.loop-s.s []) c.loop-k.k 0 in
    let more = beyond_more c.loop-s.sets c.loop-k.sets cell (c.loop-s.s * 8 + (c.loop-k.k + 1)) (omega arith) c.loop-k.invariant.beyond in
    record {
      rows = λ s k h l. get_or-set_other c.loop-k.sets cell (s * 8 + k) v 0 (λ e. omega arith) ∙ c.loop-k.invariant.rows s k h l;
      row = λ k h. elim (cases_eq k c.loop-k.k) [
        | inl e ↦
            rw e
            (get_or-set_same c.loop-k.sets cell v 0 (omega arith) ∙ ap (λ xs. get_or xs c.loop-k.k 0) (get_or_default c.deref-state-items.result.now c.loop-s.s [] nowhere c.loop-s-test.true))
        | inr n ↦ get_or-set_other c.loop-k.sets cell (c.loop-s.s * 8 + k) v 0 (λ e. n (omega arith)) ∙ c.loop-k.invariant.row k (omega arith)
      ];
      beyond = (length-set c.loop-k.sets cell v ∙ more.0, drop-set-lt _ c.loop-k.sets cell v (omega arith) ∙ more.1);
    }

pub loop-s-preserved : goal.loop-s-preserved
loop-s-preserved c =
    let next : ℕ = (c.loop-s.s + 1) * 8 in
    let before = beyond_more c.args.sets.now c.loop-s.sets (c.loop-s.s * 8) next (omega arith) c.loop-s.invariant.beyond in
    let after : Beyond next c.loop-s.sets c.loop-k.sets = subst (λ n. Beyond n c.loop-s.sets c.loop-k.sets) (omega arith) c.loop-k.invariant.beyond in
    record {
      cells = λ s k h l. elim (cases_eq s c.loop-s.s) [
        | inl e ↦ rw e (c.loop-k.invariant.row k (omega arith))
        | inr n ↦ c.loop-k.invariant.rows s k (omega arith) l
      ];
      beyond = (after.0 ∙ before.0, after.1 ∙ before.1);
    }
