-- The longest word at a place, of the earliest line that has it, as the symbols from there are looked at one by one. Assumes nothing.
use Rattle.std.proofs.Common.{◌≡◌, ℕ, ◌+◌, ◌<◌, ◌≤◌, ◌⊎◌, List, [], ◌∷◌, ◌++◌, length, take, drop, Some, None, Option, IfSome, MatchOption, sym, ap, ◌∙◌, subst, inl, inr, arith}
use Rattle.std.proofs.lemmas.Bool.{cases_lt, both_ways}
use Rattle.std.proofs.lemmas.List.{take-append-drop, take-take}
use Rattle.meaning.specs.declared.Piece.{Piece}
use Rattle.meaning.specs.Words.{Line, Clash}
use Rattle.meaning.specs.Pieces.{Nth, WordAt, Cut, NothingAt}
use Rattle.meaning.specs.ReadLaws.{AllClear}
use Rattle.meaning.proofs.Nths.{nth_at, nth_each}
use Rattle.meaning.proofs.Clashes.{one_word}
use Rattle.meaning.proofs.Found.{fit_ends, ends_fit}
use Rattle.plate.proofs.Walking.{Unmarked, TakenAfter, NoneAfter}

module _ (ls : List Line) (extent : List ℕ) (place : ℕ) where
  -- a word of the line j with m classes is no better than the piece: shorter, or as long and of no earlier line
  abbrev NoBetter : (j m : ℕ) → Piece → Type 0
  NoBetter j m p = (m < p.len) ⊎ ((m ≡ p.len) × (p.line ≤ j))

  -- of the words of at most n classes the longest, of the earliest line, or none where there is none
  abbrev pub Best : ℕ → Option Piece → Type 0
  Best n best =
      IfSome best (λ p. WordAt ls extent place p.line p.len)
      × ((j m : ℕ) → WordAt ls extent place j m → m ≤ n → MatchOption best ⊥ (NoBetter j m))

  pub best_none : Best 0 None
  best_none = (tt, λ j m w h. let s = w.some in absurd (omega arith))

  -- a line that has a word of m classes
  no_word : (j m : ℕ) (w : WordAt ls extent place j m) → Unmarked w.line (take m (drop place extent)) → ⊥
  no_word j m w e = both_ways _ e (fit_ends ls extent place w.line w.stands w)

  -- no line has a word of one class more
  pub best_same : (n : ℕ) (best : Option Piece) → NoneAfter ls (take (n + 1) (drop place extent)) → Best n best → Best (n + 1) best
  best_same n best none b = (
    b.0,
    λ j m w h. elim (cases_lt n m) [
      | inl o ↦
          let e : n + 1 ≡ m = omega arith in
          absurd (no_word j m w (subst (λ x. Unmarked w.line (take x (drop place extent))) e (none j w.line w.stands)))
      | inr o ↦ b.1 j m w o
    ],
  )

  -- the line i is the earliest that has one
  pub best_more : (n i : ℕ) → TakenAfter ls (take (n + 1) (drop place extent)) i → place + (n + 1) ≤ length extent → Best (n + 1) (Some (record { line = i; place = place; len = n + 1 }))
  best_more n i (below, marked, others) fits =
      let (l, s) = nth_at ls i below in (
        ends_fit ls extent place l s (omega arith) fits (marked l s),
        λ j m w h. elim (cases_lt m (n + 1)) [
          | inl o ↦ inl o
          | inr o ↦ elim (cases_lt j i) [
            | inl p ↦
                let e : n + 1 ≡ m = omega arith in
                absurd (no_word j m w (subst (λ x. Unmarked w.line (take x (drop place extent))) e (others j w.line p w.stands)))
            | inr p ↦ inr (omega arith, p)
          ]
        ],
      )

  -- the extent ends
  pub best_end : (n : ℕ) (best : Option Piece) → length extent ≤ place + n → Best n best → Best (length extent) best
  best_end n best h b = (b.0, λ j m w _. let i = w.inside in b.1 j m w (omega arith))

  -- no line has a longer word
  pub best_lost : (n c : ℕ) (best : Option Piece) → take (n + 1) (drop place extent) ≡ take n (drop place extent) ++ c ∷ []
      → ((β : List ℕ) (j : ℕ) (l : Line) → Nth ls j l → Unmarked l ((take n (drop place extent) ++ c ∷ []) ++ β)) → Best n best → Best (length extent) best
  best_lost n c best e f b = (
    b.0,
    λ j m w _. elim (cases_lt n m) [
      | inl o ↦ absurd (no_word j m w (subst (Unmarked w.line) (parts m o) (f (drop (n + 1) (take m (drop place extent))) j w.line w.stands)))
      | inr o ↦ b.1 j m w o
    ],
  )
    where
      parts : (m : ℕ) → n < m → (take n (drop place extent) ++ c ∷ []) ++ drop (n + 1) (take m (drop place extent)) ≡ take m (drop place extent)
      parts m o =
          ap (λ xs. xs ++ drop (n + 1) (take m (drop place extent))) (sym e ∙ sym (take-take (n + 1) m (drop place extent) (omega arith)))
          ∙ take-append-drop (n + 1) (take m (drop place extent))

  -- what is found where all was looked at
  pub best_found : (best : Option Piece) → AllClear ls → Best (length extent) best → MatchOption best (NothingAt ls extent place) (λ p. Cut ls extent place p.line p.len)
  best_found None clear b = λ j m w. let i = w.inside in b.1 j m w (omega arith)
  best_found (Some p) clear (w, b) = record {
    fits = w;
    one_coding = λ v o e. one_word w.line (nth_each (λ l. Clash l.expr → ⊥) ls p.line w.line w.stands clear) v w.word o w.of_line e;
    longest = λ j m x. let i = x.inside in b j m x (omega arith);
  }
