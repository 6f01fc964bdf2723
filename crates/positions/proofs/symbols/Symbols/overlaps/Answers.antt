use Rattle.std.proofs.Common.{◌+◌, ◌-◌, subst, arith, rules}
use Rattle.positions.specs.Masks.{held, at}
use Rattle.positions.specs.Meets.{BesideAt}
use Rattle.positions.proofs.FromFn.{made_each}
use Rattle.positions.proofs.symbols.Symbols.overlaps.Goals as goal

pub returns : goal.returns
returns c p h =
    subst (λ q. BesideAt (held c.args.self.now) q (at c.from_fn.result p)) (omega arith)
    (made_each _ (λ i set. BesideAt (held c.args.self.now) (i + 1) set) _ 64 (λ i set f l e. search rules) _ c.from_fn.ensures.items (p - 1) (omega arith) 0)
