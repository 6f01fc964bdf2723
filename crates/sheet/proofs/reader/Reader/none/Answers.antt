use Rattle.std.proofs.Common.{◌+◌, arith}
use Rattle.std.proofs.lemmas.Result.{err_from_is_err_and}
use Rattle.sheet.proofs.Forming.{none_read}
use Rattle.sheet.proofs.reader.Reader.none.Goals as goal

pub returns-in_err-expect-clause-reads : goal.returns-in_err-expect-clause-reads
returns-in_err-expect-clause-reads c =
    let p = err_from_is_err_and c.from_residual.result c.from_residual.ensures.1 in
    λ left count t d is ts h m. rw (p.1, p.2) (c.in_err-expect.ensures.reads count t d _ _ ts left left (left + 1) h (omega arith, omega arith))

pub returns-clause-reads : goal.returns-clause-reads
returns-clause-reads c = λ left count t d is ts h m. none_read (c.in_ok-expect.ensures.reads count t d _ _ ts left left (left + 1) h (omega arith, omega arith)) m
