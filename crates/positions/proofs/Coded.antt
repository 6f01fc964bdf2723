-- The lowest position of a set that fits a class. Assumes nothing.
use Rattle.std.proofs.Common.{◌≡◌, ℕ, ◌+◌, ◌<◌, ◌^◌, inl, inr, arith}
use lib.Count.{count_trailing_zeros}
use Rattle.std.proofs.lemmas.Bool.{cases_lt}
use Rattle.meaning.specs.Words.{Line}
use Rattle.positions.specs.Of.{Fitting, Lowest}
use Rattle.positions.proofs.Lowbit.{lowest_position}

-- it is where the trailing zeros end
pub lowest_is : (l : Line) (set c fit p : ℕ) → fit < 2 ^ 64 → Fitting l set c fit → Lowest l set c p → count_trailing_zeros 64 fit + 1 ≡ p
lowest_is l set c fit p word f low =
    let t : ℕ = count_trailing_zeros 64 fit + 1 in
    let (k, e) = lowest_position fit p word low.fits.0 ((f p low.fits.0).1 (low.is_in, low.fits)) in
    let (i, g) = (f t (omega arith)).0 e in
    elim (cases_lt t p) [ inl h ↦ absurd (low.lowest t h i g) | inr h ↦ omega arith ]
