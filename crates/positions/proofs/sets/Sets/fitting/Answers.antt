use Rattle.std.proofs.Common.{◌≡◌, ℕ, true, get_or, sym, subst, rules}
use mathlib.Core.Logic.{∥∥₁_elim}
use denote.Struct.Props.{props}
use lib.Bits.{bit_and}
use Rattle.meaning.specs.Words.{Line}
use Rattle.meaning.specs.Positions.{has, FitsAt}
use Rattle.positions.specs.Masks.{held}
use Rattle.positions.specs.Of.{Fitting}
use Rattle.positions.specs.declared.sets.Sets.{Sets}
use Rattle.positions.proofs.Fitting.{fitting}
use Rattle.positions.proofs.sets.Sets.fitting.Goals as goal

fits_prop : (l : Line) (set p c : ℕ) → IsProp ((has set p ≡ true) × FitsAt l p c)
fits_prop l set p c = hlevel props

in_prop : (set p : ℕ) → IsProp (has set p ≡ true)
in_prop set p = hlevel props

pub returns : goal.returns
returns c l o h =
    let s : Sets = c.args.self.now in
    let e : c.map_or.result ≡ bit_and c.args.set (get_or s.holds c.args.class 0) = search rules in
    subst (Fitting l c.args.set c.args.class) (sym e) (λ p k. (
      λ m. ∥∥₁_elim s.masks (fits_prop l c.args.set p c.args.class) (λ t. (fitting l (held s.symbols) o.symbols_are s.holds c.args.set c.args.class t h p k).0 m),
      λ m. ∥∥₁_elim s.masks (in_prop _ p) (λ t. (fitting l (held s.symbols) o.symbols_are s.holds c.args.set c.args.class t h p k).1 m),
    ))
