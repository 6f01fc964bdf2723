use Rattle.std.proofs.Common.{◌≡◌, ◌+◌, ◌*◌, ◌<◌, List, length, get_or, sym, ap, ◌∙◌, arith, rules}
use Rattle.std.proofs.lemmas.Nat.{mul-add-lt}
use Rattle.meaning.specs.Words.{Line}
use Rattle.meaning.specs.States.{step, nowhere}
use Rattle.meaning.specs.Runs.{Mean}
use Rattle.plate.specs.Desks.{texts_of}
use Rattle.plate.specs.Filling.{met_of, TooMany}
use Rattle.plate.proofs.Standing.{beyond_set}
use Rattle.plate.proofs.Rows.{filling_nowhere, filling_numbered, filling_many, numbered_keeps}
use borrow.Author.Tests.{tests}
use Rattle.plate.proofs.desk.Desk.fill_row.Goals as goal
use Rattle.plate.proofs.desk.Desk.fill_row.Goals.{After-step-next, then-ne+in_ok-t, else-ne}

-- where the move leads
leads : (c : After-step-next) (ls : List Line) → Mean (texts_of c.args.self.now) ls → c.step-next.result ≡ step ls c.loop-c.c (get_or (met_of c.loop-c.numbering) c.args.s nowhere)
leads c ls m =
    let below : c.loop-c.c < 256 = omega (arith, c.args.self.now.counted, c.loop-c-test.true) in
    c.step-next.ensures ls m below ∙ ap (step ls c.loop-c.c) (sym c.loop-c.invariant.same)

pub loop-c-preserved : goal.loop-c-preserved
loop-c-preserved c =
    let count = c.args.self.now.count in
    let before = met_of c.loop-c.numbering in
    let i = c.loop-c.invariant in
    let place : c.args.s * count + c.loop-c.c < 64 * count
    = omega (arith, mul-add-lt c.args.s count c.loop-c.c 64 (omega (arith, i.known, c.loop-c.numbering.few)) c.loop-c-test.true) in
    let fits : c.args.s * count + c.loop-c.c < length c.loop-c.moves = omega (arith, c.requires.room, i.beyond.0) in
    let next = leads (goal.at.loop-c-preserved c).After-step-next in
    elim c.if-ne.branch [
      | then-ne+in_ok-t w ↦
          let t = w.in_ok-t.t in
          let keeps = numbered_keeps before c.step-next.result t (met_of w.number.new.self) w.in_ok-t.ensures c.args.s i.known in
          rw (w.numbering-is, w.moves-is) (record {
            filled = λ ls m some.
                filling_numbered count ls before c.loop-c.moves c.args.s c.loop-c.c (i.filled ls m some) i.known c.loop-c-test.true c.step-next.result t (met_of w.number.new.self)
                w.in_ok-t.ensures (next ls m) (search (rules, tests)) fits;
            beyond = beyond_set c.args.moves.now c.loop-c.moves (64 * count) (c.args.s * count + c.loop-c.c) (t + 1) place i.beyond;
            known = keeps.0;
            same = keeps.1 ∙ i.same;
          })
      | else-ne w ↦
          rw (w.numbering-is, w.moves-is) (record {
            filled = λ ls m some.
                filling_nowhere count ls before c.loop-c.moves c.args.s c.loop-c.c (i.filled ls m some) i.known c.loop-c-test.true c.loop-c.numbering.few
                (sym (next ls m) ∙ search (rules, tests));
            beyond = i.beyond;
            known = i.known;
            same = i.same;
          })
    ]

pub returns-in_err-t-clause-filled : goal.returns-in_err-t-clause-filled
returns-in_err-t-clause-filled c =
    let count = c.args.self.now.count in
    let i = c.loop-c.invariant in
    let many : TooMany count (texts_of c.args.self.now) = λ ls m some.
    filling_many count ls (met_of c.loop-c.numbering) c.loop-c.moves c.args.s c.loop-c.c (i.filled ls m some) i.known c.loop-c-test.true c.step-next.result
    (leads (goal.at.returns-in_err-t-clause-filled c).After-step-next ls m) c.in_err-t.ensures.1 (search (rules, tests)) c.in_err-t.ensures.0 in
    rw c.from_residual.ensures many
