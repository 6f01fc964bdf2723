-- The search for all meetings: what it knows at each turn, and at the end. Assumes nothing.
use Rattle.std.proofs.Common.{◌≡◌, ℕ, ◌+◌, ◌-◌, ◌*◌, ◌^◌, ◌<◌, true, ◌⊎◌, List, get_or, sym, ap, ◌∙◌, subst, inl, inr, arith}
use Rattle.std.proofs.lemmas.List.{get_or-replicate}
use lib.Bits.{bit_or}
use Rattle.meaning.specs.Positions.{has}
use Rattle.meaning.proofs.Masks.{in_or, in_one, in_zero}
use Rattle.positions.specs.declared.meeting.Meetings.{Meetings}
use Rattle.positions.specs.Masks.{at, Union}
use Rattle.positions.specs.Meets.{Within, Has, Block, missing, Nothing, Adds, InPairs, first_pair, next_pair, AllMeetings}
use Rattle.positions.proofs.Marking.{at_is}

has_nothing : (m : Meetings) (p q : ℕ) → Nothing m → Has m.known p q → ⊥
has_nothing m p q n (o, u, h) = in_zero q (u.0, ap (λ k. has k q) (sym (ap (λ t. at t p) n.known ∙ get_or-replicate 64 (p - 1) 0 0 (omega arith))) ∙ h)

-- the meetings without one of the rows
abbrev pub without : Meetings → ℕ → Meetings
without m rest = record { known = m.known; rows = record { 0 = rest } }

module _ (first : ℕ) (follow beside : List ℕ) where
  -- only true meetings are known, those of the first set are, and so are those behind a row that is not to be followed
  pub record Closing (m : Meetings) : Type 0 where
    pub sound : (p q : ℕ) → Has m.known p q → InPairs first follow beside p q
    pub firsts : (p q : ℕ) → Block first first beside p q → Has m.known p q
    pub closed : (p q p' q' : ℕ) → Has m.known p q → Block (at follow p) (at follow q) beside p' q' → Within m.rows.0 p ⊎ Has m.known p' q'

  pub closing_first : (none m : Meetings) → Nothing none → Adds (Block first first beside) none m → Closing m
  closing_first none m n a = record {
    sound = λ p q h. elim (a.only p q h) [ inl x ↦ absurd (has_nothing none p q n x) | inr b ↦ first_pair b ];
    firsts = a.all;
    closed = λ p q p' q' h b. elim (a.grown p q h) [ inl x ↦ absurd (has_nothing none p q n x) | inr r ↦ inl r ];
  }

  module _ (m n : Meetings) (rest k next : ℕ) (low : k < 64) (rows : m.rows.0 ≡ bit_or rest (2 ^ k)) (union : Union follow (get_or m.known k 0) next)
      (now : Closing m) (adds : Adds (Block (get_or follow k 0) next beside) (without m rest) n) where
    -- what is new comes from a meeting of the row
    behind : (p' q' : ℕ) → Block (get_or follow k 0) next beside p' q' → (q : ℕ) × Has m.known (k + 1) q × Block (at follow (k + 1)) (at follow q) beside p' q'
    behind p' q' ((o, h), (u, i), b) =
        let (q, r, s, t) = (union q' u.0).0 i in (
          q,
          ((omega arith, omega arith), r, subst (λ j. has (get_or m.known j 0) q ≡ true) (omega arith) s),
          ((o, subst (λ j. has (get_or follow j 0) p' ≡ true) (omega arith) h), (u, t), b),
        )

    -- and all that comes from the row is new or was known
    onward : (p q p' q' : ℕ) → p ≡ k + 1 → Has m.known p q → Block (at follow p) (at follow q) beside p' q' → Has n.known p' q'
    onward p q p' q' e (o, u, h) ((o', i), (u', j), b) = adds.all p' q' (
      (o', subst (λ x. has x p' ≡ true) (at_is follow k p e) i),
      (u', (union q' u'.0).1 (q, u, subst (λ x. has x q ≡ true) (at_is m.known k p e) h, j)),
      b,
    )

    pub closing_next : Closing n
    closing_next = record {
      sound = λ p q h. elim (adds.only p q h) [
        | inl x ↦ now.sound p q x
        | inr b ↦ let (r, x, d) = behind p q b in next_pair (now.sound (k + 1) r x) d
      ];
      firsts = λ p q b. adds.kept p q (now.firsts p q b);
      closed = λ p q p' q' h b. elim (adds.grown p q h) [
        | inl x ↦ elim (now.closed p q p' q' x b) [
          | inl (o, r) ↦ elim (in_or rest (2 ^ k) p (o.0, ap (λ i. has i p) (sym rows) ∙ r)) [
            | inl y ↦ inl (adds.rows p (o, y.1))
            | inr y ↦ inr (onward p q p' q' (in_one k p y) x b)
          ]
          | inr y ↦ inr (adds.kept p' q' y)
        ]
        | inr r ↦ inl r
      ];
    }

  pub closing_all : (m : Meetings) → m.rows.0 ≡ 0 → Closing m → AllMeetings first follow beside m.known
  closing_all m e now p q = (now.sound p q, back)
    where
      back : {p q : ℕ} → InPairs first follow beside p q → Has m.known p q
      back (first_pair {p = p} {q = q} b) = now.firsts p q b
      back (next_pair {p = p} {q = q} {p' = p'} {q' = q'} s b) = elim (now.closed p q p' q' (back s) b) [
        | inl (o, r) ↦ absurd (in_zero p (o.0, ap (λ i. has i p) (sym e) ∙ r))
        | inr h ↦ h
      ]

-- what is missing counts first, and then the rows
abbrev pub far : Meetings → ℕ
far m = missing m.known * 2 ^ 64 + m.rows.0
