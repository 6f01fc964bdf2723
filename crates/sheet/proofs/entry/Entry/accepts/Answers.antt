use Rattle.sheet.proofs.Entries.{record_sets}
use Rattle.sheet.proofs.entry.Entry.accepts.Goals as goal

pub returns : goal.returns
returns c l m = c.accepts.ensures l (record_sets c.args.self.now l m)
