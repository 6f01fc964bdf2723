use Rattle.sheet.proofs.Entries.{record_opens}
use Rattle.sheet.proofs.entry.Entry.open.Goals as goal

pub returns : goal.returns
returns c l m = record_opens c.args.self.now l m
