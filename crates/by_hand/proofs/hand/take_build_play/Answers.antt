use Rattle.std.proofs.Common.{[], sym, refl, ap, ◌∙◌, inl, rules}
use Rattle.meaning.specs.Alphabets.{seen}
use Rattle.meaning.specs.Runs.{Taken, takes, builds}
use Rattle.meaning.specs.Asked.{ask_take, ask_build, ask_play}
use Rattle.plate.specs.Desks.{answer_of}
use Rattle.plate.specs.Plates.{account}
use Rattle.runs.specs.declared.calling.Reply.TheVariants.{Number, Played}
use Rattle.runs.specs.Asking.{reply_of, plate_of}
use Rattle.runs.proofs.Making.{mapped, play_mapped, none_listed, with_cells, account_fresh, unheard, numbered_made, play_made}
use Rattle.runs.proofs.Opening.{opening}
use Rattle.by_hand.proofs.Growing.{none_yet, one_more, all_made}
use Rattle.by_hand.proofs.hand.take_build_play.Goals as goal

pub returns : goal.returns
returns g c =
    let count = g.A.Alphabet.COUNT in
    let some = g.met.A.Alphabet.counted.0 in
    let rule = g.D.Doer.rule in
    let first = g.D.Doer.state c.args.doer.now in
    let last = g.D.Doer.state c.play-play.new.doer in
    let extent = seen g.A.Alphabet.classed c.args.extent.now in
    let p = c.open-plate.result in
    let q = c.take-take.new.self in
    let z = c.build-build.new.self in
    let taken = c.take-take.ensures in
    let built = c.build-build.ensures in
    let played = c.play-play.ensures in
    let start = c.open-plate.ensures in
    let plate = plate_of p.desk.count in
    let take_told = mapped Number c.take-take.result c.map.result (λ n y w. search rules) c.map.ensures.cases in
    let build_told = mapped Number c.build-build.result c.map-2.result (λ n y w. search rules) c.map-2.ensures.cases in
    let play_told = ap reply_of (mapped (λ a. Played a.0 a.1 a.2 a.3) c.play-play.result c.map-3.result (λ a y w. search rules) c.map-3.ensures.cases) ∙ play_mapped c.play-play.result in
    let opened = none_yet count rule first plate p.moves.now p.sets.now (account p) (account_fresh p.desk p.moves.now p.sets.now start.empty.0 start.empty.1) in
    let one = one_more count rule first plate _ _ _ _ _ opened p.desk.count refl (ask_take c.args.line.now) [] [] (reply_of c.map.result) (account q) first
    (λ h led.
    numbered_made count some rule first p.desk q.desk p.moves.now q.moves.now p.sets.now q.sets.now _ [] c.map.result c.take-take.result h first take_told (none_listed c.take-take.result, refl)
    (unheard count some rule first p.desk q.desk p.moves.now q.moves.now p.sets.now q.sets.now _ c.take-take.result taken.away taken.refused taken.cells)
    (λ e. takes (with_cells (Taken count (account p h) c.args.line.now (answer_of c.take-take.result)) q.desk p.moves.now q.moves.now p.sets.now q.sets.now h taken.cells (taken.taken e p.moves.now p.sets.now h))) led) in
    let two = one_more count rule first plate _ _ _ _ _ one q.desk.count (ap plate_of (sym taken.counted)) ask_build [] [] (reply_of c.map-2.result) (account z) first
    (λ h led.
    numbered_made count some rule first q.desk z.desk q.moves.now z.moves.now q.sets.now z.sets.now _ [] c.map-2.result c.build-build.result h first build_told (none_listed c.build-build.result, refl)
    (λ n. let kept = built.unchanged (inl (built.away n)) in (built.away n, kept.0, kept.1.0, kept.1.1)) (λ e. builds {b = account z h} (built.heard e h)) led) in
    let three = one_more count rule first plate _ _ _ _ _ two z.desk.count (ap plate_of (sym (built.lines.2 ∙ taken.counted))) (ask_play extent) [] [] (reply_of c.map-3.result) (account z) last
    (λ h led.
    play_made count some rule first z.desk z.moves.now z.sets.now extent [] c.play-play.result _ h first last play_told
    (λ n. let (e, still) = played.away n in (e, ap g.D.Doer.state {x = c.play-play.new.doer} {y = c.args.doer.now} still)) (λ e. played.heard e h) led) in
    all_made count rule first plate _ _ _ _ _ _ _ _ _ _ (opening count p.desk.count _ _ _ _ some start.opens start.shut) three (λ h. (refl, search rules, search rules))
