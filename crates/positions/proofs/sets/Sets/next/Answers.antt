use Rattle.std.proofs.Common.{◌≤◌, length, arith, rules}
use Rattle.positions.specs.Masks.{held}
use Rattle.positions.specs.declared.sets.Sets.{Sets}
use Rattle.positions.proofs.Moved.{moved}
use Rattle.positions.proofs.Holding.{length-held}
use Rattle.positions.proofs.sets.Sets.next.Goals as goal

pub returns : goal.returns
returns c l o h =
    let s : Sets = c.args.self.now in
    let few : length (held s.symbols) ≤ 63 = omega (arith, length-held s.symbols (search rules), s.symbols.few) in
    moved l (held s.symbols) s.first s.follow c.args.set c.args.class c.fitting.result few o (c.fitting.ensures l o h) _ c.union.ensures
