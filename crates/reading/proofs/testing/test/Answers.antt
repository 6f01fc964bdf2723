use Rattle.std.proofs.lemmas.Result.{err_from_is_err_and}
use Rattle.reading.specs.Answers.{unready, no_line, few_cells}
use Rattle.reading.proofs.Verdicts.{unready_told, no_line_told, few_cells_told, word_told, codes_told}
use Rattle.reading.proofs.testing.test.Goals as goal

pub returns-in_err-ready-clause-heard : goal.returns-in_err-ready-clause-heard
returns-in_err-ready-clause-heard g c e h =
    let p = err_from_is_err_and c.from_residual.result c.from_residual.ensures.1 in
    rw (p.1, p.2) (unready_told c.args.plate.now g.A.Alphabet.classed c.args.extent.now c.args.line c.args.codes.now h g.A.Alphabet.COUNT _ e c.in_err-ready.ensures)

pub returns-in_err-ready-clause-cases : goal.returns-in_err-ready-clause-cases
returns-in_err-ready-clause-cases g c =
    let p = err_from_is_err_and c.from_residual.result c.from_residual.ensures.1 in
    rw (p.1, p.2) (unready c.in_err-ready.ensures)

pub returns-in_default-clause-heard : goal.returns-in_default-clause-heard
returns-in_default-clause-heard g c _ h =
    let r = c.in_ok-ready.ensures in
    no_line_told c.args.plate.now g.A.Alphabet.classed c.args.extent.now c.args.line c.args.codes.now h r.1 r.2 c.in_default.ensures

pub returns-in_default-clause-cases : goal.returns-in_default-clause-cases
returns-in_default-clause-cases g c =
    let r = c.in_ok-ready.ensures in
    no_line (record { open_for = r.0; built = r.1; short = r.2 }) c.in_default.ensures

pub returns-then-codes-extent-clause-heard : goal.returns-then-codes-extent-clause-heard
returns-then-codes-extent-clause-heard g c _ h =
    let r = c.in_ok-ready.ensures in
    few_cells_told c.args.plate.now g.A.Alphabet.classed c.args.extent.now c.args.line c.args.codes.now h r.1 r.2 c.in-Some.ensures.0 c.if-codes-extent.true

pub returns-then-codes-extent-clause-cases : goal.returns-then-codes-extent-clause-cases
returns-then-codes-extent-clause-cases g c =
    let r = c.in_ok-ready.ensures in
    few_cells (record { open_for = r.0; built = r.1; short = r.2 }) c.in-Some.ensures.0 c.if-codes-extent.true

pub returns-then-not-is_word-clause-heard : goal.returns-then-not-is_word-clause-heard
returns-then-not-is_word-clause-heard g c _ h =
    let r = c.in_ok-ready.ensures in
    let s = c.in-Some.ensures in
    word_told c.args.plate.now g.A.Alphabet.classed c.args.extent.now c.args.line c.args.codes.now h r.1 r.2 s.0 c.in-Some.entry.now s.1 c.if-codes-extent.false c.is_word.result
    c.is_word.ensures c.if-not-is_word.true

pub returns-clause-heard : goal.returns-clause-heard
returns-clause-heard g c _ h =
    let r = c.in_ok-ready.ensures in
    let s = c.in-Some.ensures in
    codes_told c.args.plate.now g.A.Alphabet.classed c.args.extent.now c.args.line c.args.codes.now h r.1 r.2 s.0 c.in-Some.entry.now s.1 c.if-codes-extent.false c.is_word.result
    c.is_word.ensures c.if-not-is_word.false c.write_codes.new.codes c.write_codes.ensures.beyond c.write_codes.ensures.word
