-- A table of sets in which positions are added at the places of a range, one by one. Assumes nothing.
use Rattle.std.proofs.Common.{◌≡◌, ℕ, ◌+◌, ◌<◌, ◌≤◌, ◌⊎◌, List, length, get_or, set, ap, ◌∙◌, inl, inr, arith, length-set}
use lib.Bits.{bit_or}
use Rattle.std.proofs.lemmas.Bool.{cases_eq}
use Rattle.std.proofs.lemmas.List.{get_or-set_same, get_or-set_other}

module _ (before : List ℕ) (low positions : ℕ) where
  -- the places from `low` to below i have the positions, and the others are as they were
  pub record MarkedFrom (after : List ℕ) (i : ℕ) : Type 0 where
    pub long : length after ≡ length before
    pub within : (k : ℕ) → low ≤ k → k < i → get_or after k 0 ≡ bit_or (get_or before k 0) positions
    pub outside : (k : ℕ) → (k < low) ⊎ (i ≤ k) → get_or after k 0 ≡ get_or before k 0

  -- the place i has them too
  pub marked_more : (after : List ℕ) (i : ℕ) → i < length after → low ≤ i → MarkedFrom after i → MarkedFrom (set after i (bit_or (get_or after i 0) positions)) (i + 1)
  marked_more after i h o m = record {
    long = simp length-set m.long;
    within = λ k l b. elim (cases_eq k i) [
      | inl e ↦ rw e (get_or-set_same after i _ 0 h ∙ ap (λ x. bit_or x positions) (m.outside i (inr (omega arith))))
      | inr n ↦ get_or-set_other after i k _ 0 n ∙ m.within k l (omega arith)
    ];
    outside = λ k s. get_or-set_other after i k _ 0 (λ e. elim s [ inl a ↦ absurd (omega (arith, e)) | inr a ↦ absurd (omega (arith, e)) ]) ∙ m.outside k (elim s [ inl a ↦ inl a | inr a ↦ inr (omega arith) ]);
  }
