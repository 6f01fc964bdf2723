use Rattle.std.proofs.Common.{◌≡◌, ◌&&◌, ◌||◌, sym, subst, arith}
use Rattle.std.proofs.lemmas.Grind.{common_steps}
use lib.Bits.{bit_or}
use Rattle.positions.specs.declared.part.Part.{Part}
use Rattle.sheet.specs.Adding.{AddsMore}
use Rattle.sheet.proofs.Joining.{added_seq, added_alt}
use Rattle.sheet.proofs.parts.joined.Goals as goal

pub returns-after-one-clause-adds : goal.returns-after-one-clause-adds
returns-after-one-clause-adds c =
    let one = c.args.one in
    let rest = c.args.rest in
    let both : c.if-one.result ≡ (one.nullable && rest.nullable) = grind (arith, common_steps) in
    let whole : Part = record { nullable = c.if-one.result; first = bit_or one.first c.given.result; last = bit_or c.given-in-Seq.result rest.last } in
    subst (λ j. AddsMore j c.args.draft.now c.link.new.self one rest whole) (sym c.in-Seq.is)
    (λ e es before middle x y. rw (both, c.given.ensures, c.given-in-Seq.ensures) (added_seq x c.link.ensures.count c.link.ensures.symbols y c.link.ensures.follow))

pub returns-after-one-2-clause-adds : goal.returns-after-one-2-clause-adds
returns-after-one-2-clause-adds c =
    let one = c.args.one in
    let rest = c.args.rest in
    let either : c.if-one-2.result ≡ (one.nullable || rest.nullable) = grind (arith, common_steps) in
    let whole : Part = record { nullable = c.if-one-2.result; first = bit_or one.first rest.first; last = bit_or one.last rest.last } in
    subst (λ j. AddsMore j c.args.draft.now c.args.draft.now one rest whole) (sym c.in-Alt.is) (λ e es before middle x y. rw either (added_alt x y))
