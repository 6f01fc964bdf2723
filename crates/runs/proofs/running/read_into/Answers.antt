use Rattle.std.proofs.Common.{sym, ap, ◌∙◌, subst, rules}
use Rattle.meaning.specs.Alphabets.{seen}
use Rattle.meaning.specs.Runs.{Listed}
use Rattle.plate.specs.Plates.{account}
use Rattle.runs.specs.declared.calling.Reply.TheVariants.{Read}
use Rattle.runs.specs.Asking.{with_list}
use Rattle.runs.proofs.Making.{mapped, read_mapped}
use Rattle.runs.proofs.running.read_into.Goals as goal

pub returns-clause-heard : goal.returns-clause-heard
returns-clause-heard g c e h =
    let same = mapped (λ a. Read a.0 a.1 a.2) c.read.result c.map.result (λ a y p. search rules) c.map.ensures.cases in
    subst (Listed (account c.args.plate.now h) (seen g.A.Alphabet.classed c.args.extent.now) c.args.list.now)
    (sym (ap (with_list c.read.new.list) same ∙ read_mapped c.read.new.list c.read.result)) (c.read.ensures.heard e h)
