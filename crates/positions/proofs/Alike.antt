-- Meetings with one code, as far as the search for a clash has come. Assumes nothing.
use Rattle.std.proofs.Common.{◌≡◌, ℕ, ◌<◌, ◌≤◌, true, List}
use Rattle.meaning.specs.declared.Symbol.{Symbol}
use Rattle.meaning.specs.Positions.{has}
use Rattle.positions.specs.Masks.{at, nth}

module _ (symbols : List Symbol) (known : List ℕ) where
  -- p and q have one code if they meet
  abbrev pub Alike : ℕ → ℕ → Type 0
  Alike p q = has (at known p) q ≡ true → (nth symbols p).code ≡ (nth symbols q).code

  -- p and each position behind it up to j are alike
  abbrev pub RowAlike : ℕ → ℕ → Type 0
  RowAlike p j = (q : ℕ) → p < q → q ≤ j → Alike p q

  -- so is each p up to i
  abbrev pub RowsAlike : ℕ → ℕ → Type 0
  RowsAlike count i = (p : ℕ) → 1 ≤ p → p ≤ i → RowAlike p count
