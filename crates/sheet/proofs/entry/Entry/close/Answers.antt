use Rattle.sheet.proofs.Entries.{record_closes}
use Rattle.sheet.proofs.entry.Entry.close.Goals as goal

pub returns : goal.returns
returns c l m = record_closes c.args.self.now l m
