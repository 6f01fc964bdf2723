-- The codes of a word, place by place: the set that the classes before a place lead to has a position with the code there. Assumes nothing.
use Rattle.std.proofs.Common.{◌≡◌, ℕ, ◌+◌, ◌<◌, true, List, [], ◌∷◌, ◌++◌, map, length, get_or, take, set, sym, refl, ap, ◌∙◌, subst, subst₂, inl, inr, add-one, arith}
use lib.ListN.{length-map}
use Rattle.std.proofs.lemmas.List.{take_more, take_more_set, same_from_push}
use Rattle.std.proofs.lemmas.Bool.{cases_lt}
use Rattle.meaning.specs.Words.{Line, Word, Of, Clash, classes}
use Rattle.meaning.specs.Positions.{has, holds, line_symbols, symbol_at, first_set, move, move_all, FitsAt, Ends, begins, goes_on}
use Rattle.meaning.specs.Laws.{Ranged}
use Rattle.meaning.proofs.Masks.{In}
use Rattle.meaning.proofs.Moves.{in_move}
use Rattle.meaning.proofs.Law.{line_spelled}
use Rattle.meaning.proofs.Ending.{walk_ends}
use Rattle.meaning.proofs.Clashes.{one_code}
use Rattle.meaning.proofs.Least.{dec_true, least}
use Rattle.positions.specs.Of.{Lowest}

-- one class more
pub move_more : (l : Line) (set : ℕ) (α : List ℕ) (c : ℕ) → move_all l set (α ++ c ∷ []) ≡ move l (move_all l set α) c
move_more l set [] c = refl
move_more l set (d ∷ α) c = move_more l (move l set d) α c

pub moved_on : (l : Line) (α β : List ℕ) (c set next : ℕ) → set ≡ move_all l (first_set l) α → next ≡ move l set c → β ≡ α ++ c ∷ [] → next ≡ move_all l (first_set l) β
moved_on l α β c set next e d f = d ∙ ap (λ s. move l s c) e ∙ sym (ap (move_all l (first_set l)) f ∙ move_more l (first_set l) α c)

module _ (l : Line) where
  -- where a string of classes ends, the moves before its last class lead
  ended : {β : List ℕ} {p : ℕ} → Ends l β p → (α : List ℕ) × (c : ℕ) × (β ≡ α ++ c ∷ []) × In (move_all l (first_set l) α) p × FitsAt l p c
  ended (begins {c = c} h f) = ([], c, refl, (f.0, h), f)
  ended (goes_on {α = α} {p = p} {q = q} c m h f d) =
      let (γ, x, e, i, k) = ended m in
      (α, c, d, subst (λ s. In s q) (sym (ap (move_all l (first_set l)) e ∙ move_more l (first_set l) γ x)) (in_move l (move_all l (first_set l) γ) x q p i k (f.0, h)), f)

  -- p is in the set, and its range holds the class
  abbrev Held : ℕ → ℕ → ℕ → Type 0
  Held set c p = (has set p ≡ true) × FitsAt l p c

  dec_held : (set c p : ℕ) → Dec (Held set c p)
  dec_held set c p = elim (dec_true (has set p)) [
    | yes h ↦ elim (cases_lt 0 p) [
      | inl i ↦ elim (cases_lt (length (line_symbols l)) p) [
        | inl j ↦ no (λ (_, f). let k = f.1 in omega arith)
        | inr j ↦ elim (dec_true (holds (symbol_at l p) c)) [
          | yes k ↦ yes (h, (i, j, k))
          | no k ↦ no (λ (_, f). k f.2)
        ]
      ]
      | inr i ↦ no (λ (_, f). let k = f.0 in omega arith)
    ]
    | no h ↦ no (λ (k, _). h k)
  ]

  held_lowest : (set c q : ℕ) → Held set c q → (p : ℕ) × Lowest l set c p
  held_lowest set c q h =
      let (p, (k, low)) = least (Held set c) (dec_held set c) q h in
      (p, record { is_in = k.0; fits = k.1; lowest = λ r o i f. let j = low r (i, f) in omega arith })

  -- the lowest position at a place of a word has the code there
  pub code_at : Ranged l → (Clash l.expr → ⊥) → (w : Word) → Of l.expr w → (i : ℕ) → i < length w
      → (p : ℕ) × Lowest l (move_all l (first_set l) (take i (classes w))) (get_or (classes w) i 0) p × ((symbol_at l p).code ≡ get_or (map (λ x. x.code) w) i 0)
  code_at ranged clear w o i h =
      let (ps, k, j) = line_spelled l w o in
      let (q, m, d) = walk_ends l i ps w k j h in
      let (α, c, e, n, f) = ended m in
      let long : i < length (classes w) = omega (arith, length-map w (λ x. x.class)) in
      let same = same_from_push α (take i (classes w)) c (get_or (classes w) i 0) (sym e ∙ ap (λ y. take y (classes w)) (sym (add-one i)) ∙ take_more (classes w) i 0 long) in
      let set : ℕ = move_all l (first_set l) (take i (classes w)) in
      let is_in : has set q ≡ true = subst (λ γ. has (move_all l (first_set l) γ) q ≡ true) same.0 n.1 in
      let fits : FitsAt l q (get_or (classes w) i 0) = subst (FitsAt l q) same.1 f in
      let (p, low) = held_lowest set (get_or (classes w) i 0) q (is_in, fits) in
      (p, low, one_code l clear ranged (take i (classes w)) (get_or (classes w) i 0) p q low.is_in low.fits is_in fits ∙ sym d)

-- the codes that a word of the line is written with, whose classes are xs
module _ (l : Line) (w : Word) (xs : List ℕ) (same : classes w ≡ xs) where
  codes_length : length (map (λ x. x.code) w) ≡ length xs
  codes_length = length-map w (λ x. x.code) ∙ sym (length-map w (λ x. x.class)) ∙ ap length same

  -- one code more, that of the lowest position
  pub code_written : Ranged l → (Clash l.expr → ⊥) → Of l.expr w → (i c s v : ℕ) (codes : List ℕ) → i < length xs → i + 1 < length codes → get_or xs i 0 ≡ c
      → s ≡ move_all l (first_set l) (take i xs) → ((p : ℕ) → Lowest l s c p → v ≡ (symbol_at l p).code) → take (i + 1) codes ≡ l.open_code ∷ take i (map (λ x. x.code) w)
      → take (i + 1 + 1) (set codes (i + 1) v) ≡ l.open_code ∷ take (i + 1) (map (λ x. x.code) w)
  code_written ranged clear o i c s v codes h k e d f before =
      let long : i < length w = omega (arith, length-map w (λ x. x.class), ap length same) in
      let (p, low, n) = code_at l ranged clear w o i long in
      let here : v ≡ get_or (map (λ x. x.code) w) i 0 = f p (subst₂ (λ a b. Lowest l a b p) (ap (λ y. move_all l (first_set l) (take i y)) same ∙ sym d) (ap (λ y. get_or y i 0) same ∙ e) low) ∙ n in
      take_more_set codes (i + 1) v k ∙ ap (λ z. z ++ v ∷ []) before
      ∙ ap (λ z. l.open_code ∷ z) (ap (λ y. take i (map (λ x. x.code) w) ++ y ∷ []) here ∙ sym (take_more (map (λ x. x.code) w) i 0 (omega (arith, codes_length))))
