use Rattle.std.proofs.Common.{refl}
use Rattle.sheet.proofs.Lining.{starts}
use Rattle.sheet.proofs.reader.Parsed.read.Goals as goal

pub returns : goal.returns
returns c = c.line.ensures c.args.classes c.args.text.now c.new.result (starts _ refl) c.new.ensures.count c.new.ensures.follow
