use Rattle.std.proofs.Common.{arith}
use Rattle.sheet.proofs.Entries.{record_sets}
use Rattle.sheet.proofs.entry.Entry.code.Goals as goal

pub returns : goal.returns
returns c l p m h o = c.code.ensures l p (record_sets c.args.self.now l m) (omega arith) o
