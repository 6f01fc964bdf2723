-- The union of what a table has for the positions of a set, taken position by position. Assumes nothing.
use Rattle.std.proofs.Common.{◌≡◌, ℕ, ◌+◌, ◌^◌, ◌<◌, ◌≤◌, true, ◌⊎◌, List, get_or, sym, subst, inl, inr, arith}
use lib.Bits.{bit_or}
use Rattle.meaning.specs.Positions.{has}
use Rattle.meaning.proofs.Masks.{in_or, in_left, in_right, in_one, one_in}
use Rattle.positions.specs.Masks.{InUnion}

module _ (table : List ℕ) where
  -- the union for `set` is `all` and the union for `rest`
  abbrev pub Taken : ℕ → ℕ → ℕ → Type 0
  Taken set all rest = (q : ℕ) → 1 ≤ q → ((has all q ≡ true) ⊎ InUnion table rest q → InUnion table set q)
      × (InUnion table set q → (has all q ≡ true) ⊎ InUnion table rest q)

  union_more : (m k q : ℕ) → k < 64 → 1 ≤ q → (has (get_or table k 0) q ≡ true) ⊎ InUnion table m q → InUnion table (bit_or m (2 ^ k)) q
  union_more m k q l h u = elim u [
    | inl e ↦
        (k + 1, (omega arith, omega arith), (in_right m (2 ^ k) (k + 1) (one_in k)).1, subst (λ i. has (get_or table i 0) q ≡ true) (omega arith) e)
    | inr (p, o, e, f) ↦ (p, o, (in_left m (2 ^ k) p (o.0, e)).1, f)
  ]

  union_less : (m k q : ℕ) → InUnion table (bit_or m (2 ^ k)) q → (has (get_or table k 0) q ≡ true) ⊎ InUnion table m q
  union_less m k q (p, o, e, f) = elim (in_or m (2 ^ k) p (o.0, e)) [
    | inl i ↦ inr (p, o, i.1, f)
    | inr i ↦ let s = in_one k p i in inl (subst (λ i. has (get_or table i 0) q ≡ true) (omega arith) f)
  ]

  -- one position more
  pub taken_more : (set all rest m k : ℕ) → k < 64 → rest ≡ bit_or m (2 ^ k) → Taken set all rest → Taken set (bit_or all (get_or table k 0)) m
  taken_more set all rest m k l e t q h = (
    λ u. (t q h).0 (elim u [
      | inl a ↦ elim (in_or all (get_or table k 0) q (h, a)) [ inl b ↦ inl b.1 | inr b ↦ inr (back (inl b.1)) ]
      | inr i ↦ inr (back (inr i))
    ]),
    λ i. elim ((t q h).1 i) [
      | inl a ↦ inl (in_left all (get_or table k 0) q (h, a)).1
      | inr j ↦ elim (union_less m k q (subst (λ n. InUnion table n q) e j)) [
        | inl b ↦ inl (in_right all (get_or table k 0) q (h, b)).1
        | inr n ↦ inr n
      ]
    ],
  )
    where
      back : (has (get_or table k 0) q ≡ true) ⊎ InUnion table m q → InUnion table rest q
      back u = subst (λ n. InUnion table n q) (sym e) (union_more m k q l h u)
