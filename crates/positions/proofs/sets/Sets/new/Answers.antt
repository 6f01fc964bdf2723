use Rattle.std.proofs.Common.{ℕ, ◌*◌, ◌%◌, ◌^◌, Bool, sym, ap, ◌∙◌, subst, arith, rules}
use lib.Bits.{bit_or, or_zero_r}
use Rattle.meaning.specs.Positions.{given}
use Rattle.positions.specs.Masks.{held, LineSets}
use Rattle.positions.proofs.Closing.{closed}
use Rattle.positions.proofs.Holding.{length-held}
use Rattle.positions.proofs.sets.Sets.new.Goals as goal
use Rattle.positions.proofs.sets.Sets.new.Goals.{then-nullable, else-nullable}

pub returns : goal.returns
returns c l d =
    let joined : Bool → ℕ = λ b. bit_or c.args.part.first (given b (1 * 2 ^ c.len.result % 2 ^ 64)) in
    subst (λ s. LineSets l (held s) c.if-nullable.result c.link.new.self.follow) (sym c.link.ensures.symbols)
    (closed l (held c.args.draft.symbols) c.len.result c.args.draft.follow c.link.new.self.follow c.args.part.nullable c.args.part.first
    c.args.part.last c.if-nullable.result (length-held c.args.draft.symbols (search rules) ∙ sym c.len.ensures) (omega (arith, c.len.ensures, c.args.draft.symbols.few)) d c.link.ensures.follow
    (elim c.if-nullable.branch [
      | then-nullable w ↦ w.result-is ∙ ap joined (sym w.if-nullable.true)
      | else-nullable w ↦ w.result-is ∙ sym (or_zero_r c.args.part.first) ∙ ap joined (sym w.if-nullable.false)
    ]))
