use Rattle.std.proofs.Common.{ℕ, ◌<◌, Bool, length, get_or, sym, ap, ◌∙◌, arith}
use lib.Bits.{bit_or, or_zero_r}
use Rattle.meaning.specs.Positions.{given}
use Rattle.positions.proofs.Linking.{linked_more}
use Rattle.positions.proofs.draft.Draft.link.Goals as goal
use Rattle.positions.proofs.draft.Draft.link.Goals.{then-has, else-has}

pub loop-p-preserved : goal.loop-p-preserved
loop-p-preserved c =
    let row : ℕ = get_or c.loop-p.row-items c.loop-p.p 0 in
    let joined : Bool → ℕ = λ b. bit_or row (given b c.args.after) in
    let inside : c.loop-p.p < length c.loop-p.row-items = omega (arith, c.loop-p-test.true, c.loop-p.invariant.long) in
    elim c.if-has.branch [
      | then-has w ↦ rw w.row-items-is (linked_more _ _ _ _ _ _ inside (ap joined (sym w.if-has.true ∙ c.has.ensures)) c.loop-p.invariant)
      | else-has w ↦ rw w.row-items-is (linked_more _ _ _ _ _ _ inside (sym (or_zero_r row) ∙ ap joined (sym w.if-has.false ∙ c.has.ensures)) c.loop-p.invariant)
    ]
