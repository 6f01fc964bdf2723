use Rattle.std.proofs.Common.{◌≡◌, ◌+◌, ◌-◌, ◌<◌, ◌≤◌, [], ◌∷◌, ◌++◌, map, length, get_or, take, drop, sym, refl, ap, ◌∙◌, arith, rules, length-take}
use Rattle.std.proofs.lemmas.List.{take_more_set, drop-set-lt, drop-drop, get_or-take, map_more, map-append}
use Rattle.plate.specs.Plates.{account}
use Rattle.runs.specs.Asking.{asked_of, reply_of, plate_of}
use Rattle.runs.proofs.Dealing.{cells_asked, asked_all, answered_all}
use Rattle.runs.proofs.Making.{account_fresh}
use Rattle.runs.proofs.Opening.{opening}
use Rattle.runs.proofs.Underway.{running_none, running_more, running_ran}
use Rattle.runs.proofs.running.run.Goals as goal

pub loop-i-init : goal.loop-i-init
loop-i-init g c =
    let p = c.open-plate.result in
    let start = c.open-plate.ensures.empty in (
      running_none g.A.Alphabet.COUNT g.D.Doer.rule (g.D.Doer.state c.args.doer.now) (plate_of p.desk.count) p.moves.now p.sets.now c.args.lists.now
          (account p) (account_fresh p.desk p.moves.now p.sets.now start.0 start.1),
      refl {a = c.args.answers.now},
      refl {a = p.desk.count},
      (refl {a = p.moves.ghost_name}, refl {a = p.sets.ghost_name}),
    )

pub loop-i-preserved : goal.loop-i-preserved
loop-i-preserved g c =
    let (under, behind, counted, names) = c.loop-i.invariant in
    let made = c.make.ensures in
    let i = c.loop-i.i in
    let asks = asked_of g.A.Alphabet.classed in
    let call = c.call-item.result in
    let used = c.loop-i.used in
    let front = take used c.loop-i.lists in
    let left = drop used c.loop-i.lists in
    let many_calls = length-take c.min-made.result c.args.calls.now in
    let more : i < length c.args.calls.now = omega (arith, many_calls, c.loop-i-test.true) in
    let less : i < length c.loop-i.answers = omega (arith, many_calls, c.loop-i-test.true) in
    let is : call ≡ get_or c.args.calls.now i call = c.call-item.is ∙ get_or-take c.min-made.result c.args.calls.now i call (omega (arith, many_calls, c.loop-i-test.true)) in
    let many : (used + c.room.result) - used ≡ c.room.result = omega arith in (
      running_more _ _ _ _ _ _ _ _ _ _ _ _ under c.loop-i.plate.desk.count (ap plate_of (sym counted)) (asks call) c.room.result
          (c.room.ensures.value ∙ cells_asked g.A.Alphabet.classed call (length c.loop-i.lists - used))
          (take ((used + c.room.result) - used) left) c.make.new.list (ap (λ n. take n left) many) c.make.auto.list
          _ _ _ (reply_of c.make.result) _ _
          (map_more asks c.args.calls.now i call more ∙ ap (λ x. map asks (take i c.args.calls.now) ++ asks x ∷ []) (sym is))
          (ap (map reply_of) (take_more_set c.loop-i.answers i c.make.result less) ∙ map-append reply_of (take i c.loop-i.answers) (c.make.result ∷ []))
          (ap (λ n. front ++ (c.make.new.list ++ drop n left)) many)
          (λ h l. made.made _ h l),
      drop-set-lt (i + 1) c.loop-i.answers i c.make.result (omega arith)
          ∙ sym (drop-drop 1 i c.loop-i.answers) ∙ ap (drop 1) behind ∙ drop-drop 1 i c.args.answers.now,
      made.counted ∙ counted,
      (made.names.0 ∙ names.0, made.names.1 ∙ names.1),
    )

pub returns-clause-law : goal.returns-clause-law
returns-clause-law g c =
    let (under, behind, counted, names) = c.loop-i.invariant in
    let start = c.open-plate.ensures in
    let last : c.loop-i.i ≡ c.min-made.result = omega (arith, length-take c.min-made.result c.args.calls.now, c.loop-i-test.false) in
    let fits : c.loop-i.i ≤ length c.loop-i.answers = omega arith in
    running_ran _ _ _ (plate_of c.open-plate.result.desk.count) _ _ c.open-plate.result.moves.now c.open-plate.result.sets.now _ _ _ _ _ _ _ _ _ _ _ _
    (opening _ c.open-plate.result.desk.count _ _ _ _ g.met.A.Alphabet.counted.0 start.opens start.shut) under
    (asked_all (asked_of g.A.Alphabet.classed) reply_of c.args.calls.now c.args.answers.now c.loop-i.i (last ∙ c.min-made.ensures))
    (answered_all reply_of c.args.answers.now c.loop-i.answers c.loop-i.i fits behind) (λ h. (refl, search rules, search rules))
