-- Meetings that become more. Assumes nothing.
use Rattle.std.proofs.Common.{◌≡◌, ℕ, ◌+◌, ◌-◌, ◌^◌, ◌<◌, ◌≤◌, true, ◌⊎◌, List, length, get_or, set, sym, refl, ap, ◌∙◌, subst, inl, inr, arith}
use lib.Bits.{bit_and, bit_or, or_add_and, or_lt, and_le_r}
use lib.Pow.{pow-lt}
use Rattle.std.proofs.lemmas.List.Sums.{sum_by-set}
use Rattle.std.proofs.lemmas.Bool.{cases_eq}
use Rattle.meaning.specs.Positions.{has}
use Rattle.meaning.proofs.Masks.{in_or, in_left, in_right, in_one, one_in, in_zero}
use Rattle.positions.specs.declared.meeting.Meetings.{Meetings}
use Rattle.positions.specs.Masks.{at}
use Rattle.positions.specs.Meets.{Has, Row, Block, missing, Adds}
use Rattle.positions.proofs.Bits.{in_and, and_in}
use Rattle.positions.proofs.Marking.{at_is, at_set_same, at_set_other}

-- nothing new
pub adds_none : (New : ℕ → ℕ → Type 0) (m : Meetings) → ((p q : ℕ) → New p q → Has m.known p q) → Adds New m m
adds_none New m f = record { kept = λ p q h. h; all = f; only = λ p q h. inl h; rows = λ p h. h; grown = λ p q h. inl h; word = λ h. h; fewer = inl refl }

-- one after another
pub adds_both : (A B C : ℕ → ℕ → Type 0) (l m n : Meetings) → ((p q : ℕ) → A p q → C p q) → ((p q : ℕ) → B p q → C p q)
    → ((p q : ℕ) → C p q → A p q ⊎ B p q) → Adds A l m → Adds B m n → Adds C l n
adds_both A B C l m n f g e a b = record {
  kept = λ p q h. b.kept p q (a.kept p q h);
  all = λ p q h. elim (e p q h) [ inl x ↦ b.kept p q (a.all p q x) | inr y ↦ b.all p q y ];
  only = λ p q h. elim (b.only p q h) [ inl x ↦ elim (a.only p q x) [ inl y ↦ inl y | inr y ↦ inr (f p q y) ] | inr y ↦ inr (g p q y) ];
  rows = λ p h. b.rows p (a.rows p h);
  grown = λ p q h. elim (b.grown p q h) [ inl x ↦ elim (a.grown p q x) [ inl y ↦ inl y | inr y ↦ inr (b.rows p y) ] | inr y ↦ inr y ];
  word = λ h. b.word (a.word h);
  fewer = elim b.fewer [
    | inl x ↦ elim a.fewer [ inl y ↦ inl (x ∙ y) | inr y ↦ inr (subst (λ o. missing o.known < missing l.known) (sym x) y) ]
    | inr x ↦ elim a.fewer [ inl y ↦ inr (subst (λ o. missing n.known < missing o.known) y x) | inr y ↦ inr (omega arith) ]
  ];
}

-- a row that has the set already
pub adds_same : (m : Meetings) (i s : ℕ) → i < 64 → bit_or (get_or m.known i 0) s ≡ get_or m.known i 0 → Adds (Row (i + 1) s) m m
adds_same m i s h e = adds_none (Row (i + 1) s) m (λ p q (r, (o, k)). (
  (omega arith, omega arith),
  o,
  ap (λ n. has n q) (at_is m.known i p r ∙ sym e) ∙ (in_right (get_or m.known i 0) s q (o.0, k)).1,
))

-- a row that becomes more
pub adds_row : (m : Meetings) (i s : ℕ) → i < 64 → length m.known ≡ 64 → get_or m.known i 0 < 2 ^ 64
    → (bit_or (get_or m.known i 0) s ≡ get_or m.known i 0 → ⊥)
    → Adds (Row (i + 1) s) m (record { known = set m.known i (bit_or (get_or m.known i 0) s); rows = record { 0 = bit_or m.rows.0 (2 ^ i) } })
adds_row m i s h l f d = record {
  kept = λ p q (o, u, k). (o, u, kept p q o.0 u.0 k);
  all = λ p q (r, (u, k)). ((omega arith, omega arith), u, all p q r u.0 k);
  only = λ p q (o, u, k). elim (new p q o.0 u.0 k) [ inl x ↦ inl (o, u, x) | inr (r, x) ↦ inr (r, (u, x)) ];
  rows = λ p (o, k). (o, (in_left m.rows.0 (2 ^ i) p (o.0, k)).1);
  grown = λ p q (o, u, k). elim (new p q o.0 u.0 k) [
    | inl x ↦ inl (o, u, x)
    | inr (r, x) ↦ inr (o, (in_right m.rows.0 (2 ^ i) p (o.0, subst (λ n. has (2 ^ i) n ≡ true) (sym r) (one_in i).1)).1)
  ];
  word = λ w. or_lt 64 m.rows.0 (2 ^ i) w (pow-lt h);
  fewer = inr fewer;
}
  where
    x : ℕ
    x = get_or m.known i 0

    v : ℕ
    v = bit_or x s

    here : (p q : ℕ) → p ≡ i + 1 → has (at (set m.known i v) p) q ≡ has v q
    here p q e = ap (λ n. has n q) (at_set_same m.known i v p (omega arith) e)

    there : (p q : ℕ) → 1 ≤ p → (p ≡ i + 1 → ⊥) → has (at (set m.known i v) p) q ≡ has (at m.known p) q
    there p q o n = ap (λ n. has n q) (at_set_other m.known i v p o n)

    was : (p q : ℕ) → p ≡ i + 1 → has (at m.known p) q ≡ has x q
    was p q e = ap (λ n. has n q) (at_is m.known i p e)

    all : (p q : ℕ) → p ≡ i + 1 → 1 ≤ q → has s q ≡ true → has (at (set m.known i v) p) q ≡ true
    all p q e u k = here p q e ∙ (in_right x s q (u, k)).1

    kept : (p q : ℕ) → 1 ≤ p → 1 ≤ q → has (at m.known p) q ≡ true → has (at (set m.known i v) p) q ≡ true
    kept p q o u k = elim (cases_eq p (i + 1)) [
      | inl e ↦ here p q e ∙ (in_left x s q (u, sym (was p q e) ∙ k)).1
      | inr n ↦ there p q o n ∙ k
    ]

    new : (p q : ℕ) → 1 ≤ p → 1 ≤ q → has (at (set m.known i v) p) q ≡ true → (has (at m.known p) q ≡ true) ⊎ ((p ≡ i + 1) × (has s q ≡ true))
    new p q o u k = elim (cases_eq p (i + 1)) [
      | inl e ↦ elim (in_or x s q (u, sym (here p q e) ∙ k)) [ inl a ↦ inl (was p q e ∙ a.1) | inr a ↦ inr (e, a.1) ]
      | inr n ↦ inl (sym (there p q o n) ∙ k)
    ]

    fewer : missing (set m.known i v) < missing m.known
    fewer =
        let e = sum_by-set (λ n. 2 ^ 64 - n) m.known i v 0 (omega arith) in
        let a = or_add_and x s in
        let b = and_le_r x s in
        omega arith

-- the pairs of a block are those of the row of its lowest position, and of the block without it
module _ (table : List ℕ) (qs rest m k : ℕ) (low : k < 64) (e : rest ≡ bit_or m (2 ^ k)) where
  row_in : (p q : ℕ) → Row (k + 1) (bit_and qs (get_or table k 0)) p q → Block rest qs table p q
  row_in p q (r, (u, h)) =
      let (a, b) = in_and qs (get_or table k 0) q h in (
        ((omega arith, omega arith), ap (λ n. has n p) e ∙ (in_right m (2 ^ k) p (omega arith, ap (has (2 ^ k)) r ∙ (one_in k).1)).1),
        (u, a),
        ap (λ n. has n q) (at_is table k p r) ∙ b,
      )

  rest_in : (p q : ℕ) → Block m qs table p q → Block rest qs table p q
  rest_in p q ((o, h), u, b) = ((o, ap (λ n. has n p) e ∙ (in_left m (2 ^ k) p (o.0, h)).1), u, b)

  block_parts : (p q : ℕ) → Block rest qs table p q → Row (k + 1) (bit_and qs (get_or table k 0)) p q ⊎ Block m qs table p q
  block_parts p q ((o, h), (u, a), b) = elim (in_or m (2 ^ k) p (o.0, ap (λ n. has n p) (sym e) ∙ h)) [
    | inl x ↦ inr ((o, x.1), (u, a), b)
    | inr x ↦ let r = in_one k p x in inl (r, (u, and_in qs (get_or table k 0) q a (ap (λ n. has n q) (sym (at_is table k p r)) ∙ b)))
  ]

  -- so the row first and then the rest add the block
  pub adds_block : (a b c : Meetings) → Adds (Row (k + 1) (bit_and qs (get_or table k 0))) a b → Adds (Block m qs table) b c → Adds (Block rest qs table) a c
  adds_block a b c = adds_both (Row (k + 1) (bit_and qs (get_or table k 0))) (Block m qs table) (Block rest qs table) a b c row_in rest_in block_parts

-- an empty set has no pairs
pub adds_empty : (table : List ℕ) (qs : ℕ) (m : Meetings) → Adds (Block 0 qs table) m m
adds_empty table qs m = adds_none (Block 0 qs table) m (λ p q ((o, h), u, b). absurd (in_zero p (o.0, h)))
