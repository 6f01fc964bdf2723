use Rattle.std.proofs.Common.{rules, true, false, map, sym, subst, arith}
use Rattle.std.proofs.lemmas.Iterator.{IsFirst-from_position, YieldsList-from_slice, YieldsList-from_zip}
use borrow.Author.Tests.{tests}
use Rattle.meaning.specs.Runs.{Mean}
use Rattle.sheet.specs.Entries.{text_of}
use Rattle.plate.proofs.Meant.{earliest_is, Marks}
use Rattle.plate.proofs.desk.Desk.accepting.Goals as goal

pub returns : goal.returns
returns c ls m =
    earliest_is c.lines.result.now ls (subst (λ es. Mean (map text_of es) ls) (sym c.lines.ensures.these) m) c.args.state c.position.result (omega arith)
    (IsFirst-from_position {s = c.zip.result} c.position.new.self _ c.position.result (Marks true) (Marks false) c.position.ensures.ran
    (YieldsList-from_zip (YieldsList-from_slice c.lines.result.now (search rules)) (YieldsList-from_slice c.args.state (search rules)))
    (λ x q k. search (rules, tests)) (λ x q k. search (rules, tests)))
