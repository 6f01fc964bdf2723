-- How the positions of a set are taken from it one by one. Assumes nothing.
use Rattle.std.specs.Prelude.{◌≡◌, ℕ, ◌^◌, ◌<◌, ◌≤◌, false, Option, MatchOption, bit_or}
use Rattle.meaning.specs.Positions.{has}
use Rattle.positions.specs.declared.masks.Positions.{Positions}

-- `after` is `before` without its lowest bit, p
pub record TakenOut (before p after : ℕ) : Type 0 where
  pub low : p < 64
  pub lowest : (q : ℕ) → 1 ≤ q → q ≤ p → has before q ≡ false
  pub whole : before ≡ bit_or after (2 ^ p)
  pub less : after < before

-- the lowest position of a set is taken out, or the set is empty
abbrev pub TakesLowest : Positions → Option ℕ → Positions → Type 0
TakesLowest before p after = MatchOption p ((before.0 ≡ 0) × (after.0 ≡ 0)) (λ p. TakenOut before.0 p after.0)
