use Rattle.std.proofs.lemmas.Result.{err_from_is_err_and}
use Rattle.plate.specs.Cells.{away, unbuilt, long}
use Rattle.plate.proofs.open.Plate.ready.Goals as goal

pub returns-in_err-hears : goal.returns-in_err-hears
returns-in_err-hears g c =
    let p = err_from_is_err_and c.from_residual.result c.from_residual.ensures.1 in
    let e = c.in_err-hears.ensures in
    rw (p.1, p.2, e.0) (away e.1)

pub returns-then-not-self : goal.returns-then-not-self
returns-then-not-self g c = unbuilt c.in_ok-hears.ensures c.if-not-self.true

pub returns-then-extent-gt-LONGEST_EXTENT : goal.returns-then-extent-gt-LONGEST_EXTENT
returns-then-extent-gt-LONGEST_EXTENT g c = long c.in_ok-hears.ensures c.if-not-self.false c.if-extent-gt-LONGEST_EXTENT.true
