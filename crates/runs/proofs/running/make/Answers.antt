use Rattle.std.proofs.Common.{refl, inl, rules}
use Rattle.meaning.specs.Alphabets.{seen}
use Rattle.meaning.specs.Runs.{Taken, Struck, takes, strikes, builds}
use Rattle.meaning.specs.Asked.{ask_take, ask_strike, ask_build}
use Rattle.plate.specs.Desks.{answer_of}
use Rattle.plate.specs.Plates.{account}
use Rattle.runs.specs.declared.calling.Reply.TheVariants.{Number}
use Rattle.runs.proofs.Making.{mapped, none_listed, with_cells, unheard, numbered_made, read_made}
use Rattle.runs.proofs.running.make.Goals as goal

pub returns-in-Take-clause-made : goal.returns-in-Take-clause-made
returns-in-Take-clause-made g c first h led =
    let count = g.A.Alphabet.COUNT in
    let some = g.met.A.Alphabet.counted.0 in
    let p = c.args.plate.now in
    let q = c.take.new.self in
    let r = c.take.result in
    let done = c.take.ensures in
    let same = mapped Number r c.map.result (λ n y w. search rules) c.map.ensures.cases in
    rw c.in-Take.is
    (numbered_made count some g.D.Doer.rule first p.desk q.desk p.moves.now q.moves.now p.sets.now q.sets.now (ask_take c.in-Take.line.now) _ c.map.result r h _ same (none_listed r, refl)
    (unheard count some g.D.Doer.rule first p.desk q.desk p.moves.now q.moves.now p.sets.now q.sets.now _ r done.away done.refused done.cells)
    (λ e. takes (with_cells (Taken count (account p h) c.in-Take.line.now (answer_of r)) q.desk p.moves.now q.moves.now p.sets.now q.sets.now h done.cells (done.taken e p.moves.now p.sets.now h))) led)

pub returns-in-Strike-clause-made : goal.returns-in-Strike-clause-made
returns-in-Strike-clause-made g c first h led =
    let count = g.A.Alphabet.COUNT in
    let some = g.met.A.Alphabet.counted.0 in
    let p = c.args.plate.now in
    let q = c.strike.new.self in
    let r = c.strike.result in
    let done = c.strike.ensures in
    let same = mapped Number r c.map-in-Strike.result (λ n y w. search rules) c.map-in-Strike.ensures.cases in
    rw c.in-Strike.is
    (numbered_made count some g.D.Doer.rule first p.desk q.desk p.moves.now q.moves.now p.sets.now q.sets.now ask_strike _ c.map-in-Strike.result r h _ same (none_listed r, refl)
    (unheard count some g.D.Doer.rule first p.desk q.desk p.moves.now q.moves.now p.sets.now q.sets.now _ r done.away done.refused done.cells)
    (λ e. strikes (with_cells (Struck (account p h) (answer_of r)) q.desk p.moves.now q.moves.now p.sets.now q.sets.now h done.cells (done.struck e p.moves.now p.sets.now h))) led)

pub returns-in-Build-clause-made : goal.returns-in-Build-clause-made
returns-in-Build-clause-made g c first h led =
    let p = c.args.plate.now in
    let q = c.build.new.self in
    let r = c.build.result in
    let done = c.build.ensures in
    let same = mapped Number r c.map-in-Build.result (λ n y w. search rules) c.map-in-Build.ensures.cases in
    rw c.in-Build.is
    (numbered_made g.A.Alphabet.COUNT g.met.A.Alphabet.counted.0 g.D.Doer.rule first p.desk q.desk p.moves.now q.moves.now p.sets.now q.sets.now ask_build _ c.map-in-Build.result r h _ same (none_listed r, refl)
    (λ n. let kept = done.unchanged (inl (done.away n)) in (done.away n, kept.0, kept.1.0, kept.1.1)) (λ e. builds {b = account q h} (done.heard e h)) led)

pub returns-in-Read-clause-made : goal.returns-in-Read-clause-made
returns-in-Read-clause-made g c first h led =
    let done = c.read_into.ensures in
    rw c.in-Read.is
    (read_made g.A.Alphabet.COUNT g.met.A.Alphabet.counted.0 g.D.Doer.rule first c.args.plate.now.desk c.args.plate.now.moves.now c.args.plate.now.sets.now (seen g.A.Alphabet.classed c.in-Read.extent.now) c.in-Read.field-1 _ _
    c.read_into.result h _ done.away (λ e. done.heard e h) led)
