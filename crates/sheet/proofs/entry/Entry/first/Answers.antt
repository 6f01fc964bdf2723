use Rattle.sheet.proofs.Entries.{record_sets}
use Rattle.sheet.proofs.entry.Entry.first.Goals as goal

pub returns : goal.returns
returns c l m = c.first.ensures l (record_sets c.args.self.now l m)
