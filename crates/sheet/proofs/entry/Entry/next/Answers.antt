use Rattle.std.proofs.Common.{arith}
use Rattle.sheet.proofs.Entries.{record_sets}
use Rattle.sheet.proofs.entry.Entry.next.Goals as goal

pub returns : goal.returns
returns c l m h = c.next.ensures l (record_sets c.args.self.now l m) (omega arith)
