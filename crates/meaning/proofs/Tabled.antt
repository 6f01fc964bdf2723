-- Cells of the required content exist: lists that hold the states of lines and their moves. Assumes nothing.
use Rattle.std.proofs.Common.{◌≡◌, ℕ, zero, suc, ◌+◌, ◌*◌, ◌/◌, ◌%◌, ◌<◌, ◌≤◌, List, [], ◌∷◌, ◌++◌, length, get_or, drop, sym, refl, subst, subst₂, inl, inr, mod-lt, mul-zero, arith, length-append, length-drop}
use Rattle.std.proofs.lemmas.Nat.{div_below, mul-add-lt, div-mul-add, mod-mul-add}
use Rattle.std.proofs.lemmas.List.{get_or_append_left, get_or_push, length_push}
use Rattle.std.proofs.lemmas.Bool.{cases_lt}
use Rattle.meaning.specs.Words.{Line}
use Rattle.meaning.specs.States.{State, nowhere, States, LeadsTo, Tables}

-- a list of n numbers, each with P at its index
fill : (n : ℕ) (P : ℕ → ℕ → Type 0) → ((i : ℕ) → i < n → (v : ℕ) × P i v) → (xs : List ℕ) × (length xs ≡ n) × ((i : ℕ) → i < n → P i (get_or xs i 0))
fill zero P f = ([], refl, λ i h. absurd (omega arith))
fill (suc n) P f =
    let (xs, e, g) = fill n P (λ i h. f i (omega arith)) in
    let (v, p) = f n (omega arith) in (
      xs ++ v ∷ [],
      omega (arith, length_push xs v),
      λ i h. elim (cases_lt i n) [
        | inl k ↦ subst (λ y. P i y) (sym (get_or_append_left xs (v ∷ []) 0 i (omega arith))) (g i k)
        | inr k ↦ subst₂ (λ j y. P j y) (omega arith) (sym (get_or_push xs v 0 i (omega arith))) p
      ],
    )

drop_front : (xs ys : List ℕ) (n : ℕ) → length xs ≡ n → drop n (xs ++ ys) ≡ ys
drop_front [] ys zero e = refl
drop_front [] ys (suc n) e = absurd (omega arith)
drop_front (x ∷ xs) ys zero e = absurd (omega arith)
drop_front (x ∷ xs) ys (suc n) e = drop_front xs ys n (omega arith)

-- the cells with their first `used` ones written anew
pub record Rewritten (cells : List ℕ) (used : ℕ) (P : ℕ → ℕ → Type 0) : Type 0 where
  pub after : List ℕ
  pub as_long : length after ≡ length cells
  pub behind : drop used after ≡ drop used cells
  pub each : (i : ℕ) → i < used → P i (get_or after i 0)

rewrite : (cells : List ℕ) (used : ℕ) (P : ℕ → ℕ → Type 0) → used ≤ length cells → ((i : ℕ) → i < used → (v : ℕ) × P i v) → Rewritten cells used P
rewrite cells used P h f =
    let (xs, e, g) = fill used P f in
    record {
      after = xs ++ drop used cells;
      as_long = omega (arith, length-append xs (drop used cells), length-drop used cells);
      behind = drop_front xs (drop used cells) used e;
      each = λ i k. subst (λ y. P i y) (sym (get_or_append_left xs (drop used cells) 0 i (omega arith))) (g i k);
    }

wide : (i rows w : ℕ) → i < rows * w → 0 < w
wide i rows zero h = let e = mul-zero rows in absurd (omega arith)
wide i rows (suc w) h = omega arith

module _ (count : ℕ) (ls : List Line) (all : List State) (a : States count ls all) (few : length all ≤ 64) where
  abbrev rows : ℕ
  rows = length all

  abbrev MoveCell : ℕ → ℕ → Type 0
  MoveCell i v = (i < rows * count → LeadsTo ls all (i / count) (i % count) v) × (rows * count ≤ i → v ≡ 0)

  move_cell : (i : ℕ) → (v : ℕ) × MoveCell i v
  move_cell i = elim (cases_lt i (rows * count)) [
    | inl h ↦
        let k = wide i rows count h in
        elim (a.closed (i / count) (i % count) (div_below i count rows k h) (mod-lt i k)) [
          | inl e ↦ (0, ((λ _. inl (refl, e)), λ g. absurd (omega arith)))
          | inr (t, o, e) ↦ (t + 1, ((λ _. inr (t, refl, o, sym e)), λ g. absurd (omega arith)))
        ]
    | inr h ↦ (0, ((λ g. absurd (omega arith)), λ _. refl))
  ]

  abbrev SetCell : ℕ → ℕ → Type 0
  SetCell i v = (i < rows * 8 → v ≡ get_or (get_or all (i / 8) nowhere) (i % 8) 0) × (rows * 8 ≤ i → v ≡ 0)

  set_cell : (i : ℕ) → (v : ℕ) × SetCell i v
  set_cell i = elim (cases_lt i (rows * 8)) [
    | inl h ↦ (get_or (get_or all (i / 8) nowhere) (i % 8) 0, ((λ _. refl), λ g. absurd (omega arith)))
    | inr h ↦ (0, ((λ g. absurd (omega arith)), λ _. refl))
  ]

  module _ (moves sets : List ℕ) (m : Rewritten moves (64 * count) MoveCell) (s : Rewritten sets 512 SetCell) where
    pub tables : Tables count ls all m.after s.after
    tables = record {
      move_cells = λ r c h k. subst₂ (λ x y. LeadsTo ls all x y (get_or m.after (r * count + c) 0)) (div-mul-add r count c k) (mod-mul-add r count c k)
          ((m.each (r * count + c) (omega (arith, mul-add-lt r count c 64 (omega arith) k))).0 (omega (arith, mul-add-lt r count c rows h k)));
      other_moves = λ i h k. (m.each i k).1 h;
      set_cells = λ r c h k. subst₂ (λ x y. get_or s.after (r * 8 + c) 0 ≡ get_or (get_or all x nowhere) y 0) (div-mul-add r 8 c k) (mod-mul-add r 8 c k)
          ((s.each (r * 8 + c) (omega arith)).0 (omega arith));
      other_sets = λ i h k. (s.each i k).1 h;
    }

  pub moves_from : (moves : List ℕ) → 64 * count ≤ length moves → Rewritten moves (64 * count) MoveCell
  moves_from moves h = rewrite moves (64 * count) MoveCell h (λ i _. move_cell i)

  pub sets_from : (sets : List ℕ) → 512 ≤ length sets → Rewritten sets 512 SetCell
  sets_from sets h = rewrite sets 512 SetCell h (λ i _. set_cell i)
