use Rattle.std.proofs.Common.{◌+◌, ◌<◌, [], ◌∷◌, length, take, refl, ap, ◌∙◌, arith, length-set}
use lib.ListN.{length-map}
use Rattle.std.proofs.lemmas.List.{drop-set-lt, take_more_set}
use Rattle.meaning.specs.Alphabets.{seen}
use Rattle.sheet.proofs.Entries.{record_clear as clear, record_ranged as ranged}
use Rattle.reading.proofs.Classes.{class_at, class_more}
use Rattle.reading.proofs.Coding.{moved_on, code_written}
use Rattle.reading.proofs.testing.write_codes.Goals as goal

pub loop-i-init : goal.loop-i-init
loop-i-init g c = (refl, λ x m. (c.first-set.ensures x m, λ w o e. take_more_set c.args.codes.now 0 c.open.result (omega (arith, c.requires)) ∙ ap (λ y. y ∷ []) (c.open.ensures x m)))

pub loop-i-preserved : goal.loop-i-preserved
loop-i-preserved g c =
    let xs = seen g.A.Alphabet.classed c.args.extent.now in
    let below : c.class-class.result < 256 = omega (arith, c.class-class.ensures.below, g.met.A.Alphabet.counted.1) in
    let room : c.loop-i.i + 1 < length c.loop-i.codes = omega (arith, c.requires, c.loop-i-test.true, c.loop-i.auto.codes, length-set c.args.codes.now 0 c.open.result) in (
      drop-set-lt (length c.args.extent.now + 2) c.loop-i.codes (c.loop-i.i + 1) c.code.result (omega (arith, c.loop-i-test.true)) ∙ c.loop-i.invariant.0,
      λ x m.
          let before = c.loop-i.invariant.1 x m in (
            moved_on x (take c.loop-i.i xs) (take (c.loop-i.i + 1) xs) c.class-class.result c.loop-i.set c.next-set.result before.0 (c.next-set.ensures x m below)
                (class_more g.A.Alphabet.classed c.args.extent.now c.loop-i.i c.index-extent-i.result c.class-class.result c.loop-i-test.true c.index-extent-i.is c.class-class.ensures.value),
            λ w o e. code_written x w xs e (ranged c.args.line.now x m) (clear c.args.line.now x m) o c.loop-i.i c.class-class.result c.loop-i.set c.code.result c.loop-i.codes
                (omega (arith, length-map c.args.extent.now g.A.Alphabet.classed, c.loop-i-test.true)) room
                (class_at g.A.Alphabet.classed c.args.extent.now c.loop-i.i c.index-extent-i.result c.class-class.result c.loop-i-test.true c.index-extent-i.is c.class-class.ensures.value 0)
                before.0 (λ p low. c.code.ensures x p m below low) (before.1 w o e),
          ),
    )
