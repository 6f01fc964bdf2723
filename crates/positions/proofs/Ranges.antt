-- Ranges of classes. Assumes nothing.
use Rattle.std.proofs.Common.{◌≡◌, ℕ, ◌≤◌, true}
use Rattle.std.proofs.lemmas.Bool.{and_from, and_parts, le-leb, leb-true}
use Rattle.meaning.specs.declared.Symbol.{Symbol}
use Rattle.meaning.specs.Positions.{holds}

-- a class is in a symbol's range where it is between its ends
pub in_range : (s : Symbol) (c : ℕ) → s.low ≤ c → c ≤ s.high → holds s c ≡ true
in_range s c h k = and_from _ _ (le-leb _ _ h) (le-leb _ _ k)

pub range_of : (s : Symbol) (c : ℕ) → holds s c ≡ true → (s.low ≤ c) × (c ≤ s.high)
range_of s c e = let (h, k) = and_parts _ _ e in (leb-true _ _ h, leb-true _ _ k)
