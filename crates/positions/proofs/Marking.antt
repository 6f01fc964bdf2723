-- A set that is made position by position, and what a table has at a position. Assumes nothing.
use Rattle.std.proofs.Common.{◌≡◌, ℕ, ◌+◌, ◌-◌, ◌*◌, ◌%◌, ◌^◌, ◌<◌, ◌≤◌, true, ◌↔◌, List, length, get_or, set, sym, ap, ◌∙◌, subst, inl, inr, arith}
use lib.Bits.{bit_or}
use Rattle.std.proofs.lemmas.List.{get_or-set_same, get_or-set_other}
use Rattle.std.proofs.lemmas.Bool.{cases_eq}
use Rattle.std.proofs.lemmas.Nat.{one_shl}
use Rattle.meaning.specs.declared.Symbol.{Symbol}
use Rattle.meaning.specs.Positions.{has, no_symbol}
use Rattle.meaning.proofs.Masks.{in_or, in_left, in_right, in_one, one_in}
use Rattle.positions.specs.Masks.{at, nth}

-- what stands at a position, also after a write
pub at_is : (table : List ℕ) (i p : ℕ) → p ≡ i + 1 → at table p ≡ get_or table i 0
at_is table i p e = ap (λ k. get_or table k 0) (omega arith)

pub at_set_same : (table : List ℕ) (i v p : ℕ) → i < length table → p ≡ i + 1 → at (set table i v) p ≡ v
at_set_same table i v p h e = at_is (set table i v) i p e ∙ get_or-set_same table i v 0 h

pub at_set_other : (table : List ℕ) (i v p : ℕ) → 1 ≤ p → (p ≡ i + 1 → ⊥) → at (set table i v) p ≡ at table p
at_set_other table i v p h n = get_or-set_other table i (p - 1) v 0 (λ e. n (omega arith))

-- the position i + 1 is the place i
pub nth_next : (symbols : List Symbol) (i : ℕ) → nth symbols (i + 1) ≡ get_or symbols i no_symbol
nth_next symbols i = ap (λ k. get_or symbols k no_symbol) (omega arith)

module _ (P : ℕ → Type 0) where
  -- the set has the positions up to i of which P holds
  abbrev pub Marked : ℕ → ℕ → Type 0
  Marked i set = (q : ℕ) → 1 ≤ q → (has set q ≡ true) ↔ ((q ≤ i) × P q)

  marked_with : (i set : ℕ) → P (i + 1) → Marked i set → Marked (i + 1) (bit_or set (2 ^ i))
  marked_with i set p m q h = (
    λ e. elim (in_or set (2 ^ i) q (h, e)) [
      | inl a ↦ let (l, r) = (m q h).0 a.1 in (omega arith, r)
      | inr a ↦ let n = in_one i q a in (omega arith, subst P (sym n) p)
    ],
    λ (l, r). elim (cases_eq q (i + 1)) [
      | inl e ↦ (in_right set (2 ^ i) q (h, subst (λ n. has (2 ^ i) n ≡ true) (sym e) (one_in i).1)).1
      | inr n ↦ (in_left set (2 ^ i) q (h, (m q h).1 (omega arith, r))).1
    ],
  )

  pub marked_yes : (i set : ℕ) → i < 64 → P (i + 1) → Marked i set → Marked (i + 1) (bit_or set (1 * 2 ^ i % 2 ^ 64))
  marked_yes i set l p m = rw (one_shl i 64 l) (marked_with i set p m)

  pub marked_no : (i set : ℕ) → (P (i + 1) → ⊥) → Marked i set → Marked (i + 1) set
  marked_no i set n m q h = (
    λ e. let (l, r) = (m q h).0 e in (omega arith, r),
    λ (l, r). elim (cases_eq q (i + 1)) [
      | inl e ↦ absurd (n (subst P e r))
      | inr d ↦ (m q h).1 (omega arith, r)
    ],
  )
