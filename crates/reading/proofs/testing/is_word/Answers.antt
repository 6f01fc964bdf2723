use Rattle.std.proofs.Common.{◌+◌, ◌<◌, take, arith}
use Rattle.meaning.specs.Alphabets.{seen}
use Rattle.reading.proofs.Classes.{class_more}
use Rattle.reading.proofs.Coding.{moved_on}
use Rattle.reading.proofs.testing.is_word.Goals as goal

pub loop-symbol-preserved : goal.loop-symbol-preserved
loop-symbol-preserved g c x m =
    let below : c.class.result < 256 = omega (arith, c.class.ensures.below, g.met.A.Alphabet.counted.1) in
    moved_on x (take c.loop-symbol.symbol-index (seen g.A.Alphabet.classed c.args.extent.now)) (take (c.loop-symbol.symbol-index + 1) (seen g.A.Alphabet.classed c.args.extent.now))
    c.class.result c.loop-symbol.set c.next-set.result (c.loop-symbol.invariant x m) (c.next-set.ensures x m below)
    (class_more g.A.Alphabet.classed c.args.extent.now c.loop-symbol.symbol-index c.symbol-item.result c.class.result
    c.loop-symbol-test.true c.symbol-item.is c.class.ensures.value)
