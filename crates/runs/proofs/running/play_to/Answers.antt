use Rattle.std.proofs.Common.{ap, ◌∙◌, rules}
use Rattle.meaning.specs.Alphabets.{seen}
use Rattle.runs.specs.declared.calling.Reply.TheVariants.{Played}
use Rattle.runs.specs.Asking.{reply_of}
use Rattle.runs.proofs.Making.{mapped, play_mapped, play_made}
use Rattle.runs.proofs.running.play_to.Goals as goal

pub returns : goal.returns
returns g c first h list led =
    let done = c.play.ensures in
    let same = mapped (λ a. Played a.0 a.1 a.2 a.3) c.play.result c.map.result (λ a y p. search rules) c.map.ensures.cases in
    play_made g.A.Alphabet.COUNT g.met.A.Alphabet.counted.0 g.D.Doer.rule first c.args.plate.now.desk c.args.plate.now.moves.now c.args.plate.now.sets.now (seen g.A.Alphabet.classed c.args.extent.now) list c.play.result _ h
    (g.D.Doer.state c.args.doer.now) (g.D.Doer.state c.play.new.doer) (ap reply_of same ∙ play_mapped c.play.result)
    (λ n. let (e, still) = done.away n in (e, ap g.D.Doer.state {x = c.play.new.doer} {y = c.args.doer.now} still)) (λ e. done.heard e h) led
