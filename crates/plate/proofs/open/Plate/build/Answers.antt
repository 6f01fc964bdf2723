use Rattle.std.proofs.Common.{◌≡◌, Err, ap, ◌∙◌, arith}
use Rattle.std.proofs.lemmas.Result.{err_from_is_err_and}
use Rattle.sheet.specs.declared.refusal.Refusal.TheVariants.{TooManyStates}
use Rattle.meaning.specs.Runs.{empty}
use Rattle.plate.proofs.Standing.{no_texts}
use Rattle.plate.proofs.Made.{built_large, built_made}
use Rattle.plate.proofs.open.Plate.build.Goals as goal

pub returns-then-self-eq0-clause-heard : goal.returns-then-self-eq0-clause-heard
returns-then-self-eq0-clause-heard g c e h = empty (no_texts c.args.self.now.desk.entries c.args.self.now.desk.standing c.if-self-eq0.true)

pub returns-in_err-met-clause-heard : goal.returns-in_err-met-clause-heard
returns-in_err-met-clause-heard g c e h =
    let p = c.args.self.now in
    let (refusal, many, moves, sets) = c.in_err-met.ensures.many in
    let r = err_from_is_err_and c.from_residual-in_err-met.result c.from_residual-in_err-met.ensures.1 in
    let answer : c.from_residual-in_err-met.result ≡ Err TooManyStates = r.1 ∙ ap Err (r.2 ∙ refusal) in
    rw answer
    (built_large g.A.Alphabet.COUNT p.desk e p.moves.now c.fill.new.moves p.sets.now c.fill.new.sets h (omega (arith, c.if-self-eq0.false)) many moves sets)

pub returns-clause-heard : goal.returns-clause-heard
returns-clause-heard g c e h =
    let p = c.args.self.now in
    built_made g.A.Alphabet.COUNT p.desk e p.moves.now c.fill.new.moves p.sets.now c.fill.new.sets h c.in_ok-met.met c.in_ok-met.accepts
    c.in_ok-met.ensures.table c.in_ok-met.ensures.moves c.in_ok-met.ensures.sets
