use Rattle.std.proofs.Common.{◌≡◌, Err, ap, ◌∙◌}
use Rattle.std.proofs.lemmas.Result.{err_from_is_err_and}
use Rattle.sheet.specs.Refusals.{reported}
use Rattle.plate.proofs.Standing.{taken_eight, taken_refused, taken_added}
use Rattle.plate.proofs.desk.Desk.take.Goals as goal

pub returns-then-place-ge-MOST_LINES-clause-taken : goal.returns-then-place-ge-MOST_LINES-clause-taken
returns-then-place-ge-MOST_LINES-clause-taken g c e moves sets h = taken_eight c.args.self.now moves sets h g.A.Alphabet.COUNT c.args.line.now c.if-place-ge-MOST_LINES.true

pub returns-in_err-entry-clause-taken : goal.returns-in_err-entry-clause-taken
returns-in_err-entry-clause-taken g c e moves sets h =
    let p = err_from_is_err_and c.from_residual-in_err-entry.result c.from_residual-in_err-entry.ensures.1 in
    let answer : c.from_residual-in_err-entry.result ≡ Err c.in_err-entry.field-0.0 = p.1 ∙ ap Err p.2 in
    rw answer
    (taken_refused c.args.self.now moves sets h g.A.Alphabet.COUNT c.args.line.now c.if-place-ge-MOST_LINES.false (reported c.in_err-entry.field-0.0) c.in_err-entry.ensures)

pub returns-clause-taken : goal.returns-clause-taken
returns-clause-taken g c e moves sets h =
    taken_added c.args.self.now moves sets h g.A.Alphabet.COUNT c.args.line.now c.if-place-ge-MOST_LINES.false c.in_ok-entry.entry c.in_ok-entry.ensures.0 c.in_ok-entry.ensures.1
