-- The pairs that the search for meetings finds are the positions that meet, so what it finds first is the first clash. Assumes nothing.
use Rattle.std.proofs.Common.{◌≡◌, ℕ, ◌+◌, ◌<◌, ◌≤◌, true, ◌⊎◌, List, length, sym, ap, ◌∙◌, subst, inl, inr, arith}
use Rattle.std.proofs.lemmas.Bool.{cases_lt}
use Rattle.meaning.specs.declared.Symbol.{Symbol}
use Rattle.meaning.specs.Words.{Line}
use Rattle.meaning.specs.Positions.{has, holds, line_symbols, symbol_at, follow_set, FitsAt, Meet, FirstClash}
use Rattle.meaning.specs.Laws.{OneCode, InStep, both_first, both_next}
use Rattle.meaning.proofs.Pairs.{meet_step, step_meet}
use Rattle.positions.specs.Masks.{at, nth, Position, LineSets}
use Rattle.positions.specs.Meets.{Beside, InPairs, first_pair, next_pair, AllMeetings}
use Rattle.positions.proofs.Ranges.{in_range, range_of}
use Rattle.positions.proofs.Fitting.{symbol_is, length_is}
use Rattle.positions.proofs.Alike.{RowAlike, RowsAlike}

module _ (l : Line) (symbols : List Symbol) (first : ℕ) (follow : List ℕ) (few : length symbols ≤ 63) (sets : LineSets l symbols first follow) where
  at_line : (p : ℕ) → nth symbols p ≡ symbol_at l p
  at_line = symbol_is l symbols sets.symbols_are

  long : length symbols ≡ length (line_symbols l)
  long = length_is l symbols sets.symbols_are

  fits_from : (p c : ℕ) → 1 ≤ p → p ≤ length symbols → holds (nth symbols p) c ≡ true → FitsAt l p c
  fits_from p c h k e = (h, omega (arith, long), ap (λ s. holds s c) (sym (at_line p)) ∙ e)

  -- p is the position of a symbol
  abbrev Here : ℕ → Type 0
  Here p = (1 ≤ p) × (p ≤ length symbols)

  fits_here : (p c : ℕ) → FitsAt l p c → Here p
  fits_here p c f = (f.0, omega (arith, long))

  fits_holds : (p c : ℕ) → FitsAt l p c → holds (nth symbols p) c ≡ true
  fits_holds p c f = ap (λ s. holds s c) (at_line p) ∙ f.2

  position : (p : ℕ) → Here p → Position p
  position p h = (h.0, omega arith)

  follows : (p q : ℕ) → Here p → has (at follow p) q ≡ has (follow_set l p) q
  follows p q h = ap (λ s. has s q) (sets.follow_is p (position p h))

  module _ (beside : List ℕ) (overlaps : Beside symbols beside) where
    pairs_here : {p q : ℕ} → InPairs first follow beside p q → Here p × Here q
    pairs_here (first_pair {p = p} {q = q} ((o, h), (u, i), b)) = let (m, n, s) = (overlaps p o q u.0).0 b in ((o.0, m), (u.0, n))
    pairs_here (next_pair {p' = p} {q' = q} s ((o, h), (u, i), b)) = let (m, n, s) = (overlaps p o q u.0).0 b in ((o.0, m), (u.0, n))

    pairs_step : {p q : ℕ} → InPairs first follow beside p q → InStep l p q
    pairs_step (first_pair {p = p} {q = q} ((o, h), (u, i), b)) =
        let (m, n, (c, f, f', g)) = (overlaps p o q u.0).0 b in
        both_first c (ap (λ s. has s p) (sym sets.first_is) ∙ h) (ap (λ s. has s q) (sym sets.first_is) ∙ i) (fits_from p c o.0 m (in_range (nth symbols p) c f f'))
        (fits_from q c u.0 n g)
    pairs_step (next_pair {p = r} {q = t} {p' = p} {q' = q} s ((o, h), (u, i), b)) =
        let (m, n, (c, f, f', g)) = (overlaps p o q u.0).0 b in
        let (a, d) = pairs_here s in
        both_next c (pairs_step s) (sym (follows r p a) ∙ h) (sym (follows t q d) ∙ i) (fits_from p c o.0 m (in_range (nth symbols p) c f f')) (fits_from q c u.0 n g)

    step_here : {p q : ℕ} → InStep l p q → Here p × Here q
    step_here (both_first {p = p} {q = q} c h k f g) = (fits_here p c f, fits_here q c g)
    step_here (both_next {p' = p} {q' = q} c s h k f g) = (fits_here p c f, fits_here q c g)

    beside_from : (p q c : ℕ) → FitsAt l p c → FitsAt l q c → has (at beside p) q ≡ true
    beside_from p q c f g =
        let (a, b) = fits_here p c f in
        let (d, e) = fits_here q c g in
        let (i, j) = range_of (nth symbols p) c (fits_holds p c f) in
        (overlaps p (position p (a, b)) q d).1 (b, e, (c, i, j, fits_holds q c g))

    step_pairs : {p q : ℕ} → InStep l p q → InPairs first follow beside p q
    step_pairs (both_first {p = p} {q = q} c h k f g) = first_pair (
      (position p (fits_here p c f), ap (λ s. has s p) sets.first_is ∙ h),
      (position q (fits_here q c g), ap (λ s. has s q) sets.first_is ∙ k),
      beside_from p q c f g,
    )
    step_pairs (both_next {p = r} {q = t} {p' = p} {q' = q} c s h k f g) =
        let (a, b) = step_here s in
        next_pair (step_pairs s) (
          (position p (fits_here p c f), follows r p a ∙ h),
          (position q (fits_here q c g), follows t q b ∙ k),
          beside_from p q c f g,
        )

    module _ (known : List ℕ) (meetings : AllMeetings first follow beside known) where
      meet_known : (p q : ℕ) → Meet l p q → Here p × Here q × (has (at known p) q ≡ true)
      meet_known p q m =
          let s = meet_step l p q m in
          let (a, b) = step_here s in
          (a, b, ((meetings p q).1 (step_pairs s)).2)

      known_meet : (p q : ℕ) → Here p → Here q → has (at known p) q ≡ true → Meet l p q
      known_meet p q a b h = step_meet l (pairs_step ((meetings p q).0 (position p a, position q b, h)))

      one_code : (p q : ℕ) → Here p → Here q → (nth symbols p).code ≡ (nth symbols q).code → OneCode l p q
      one_code p q a b e = ap (λ s. s.code) (sym (at_line p)) ∙ e ∙ ap (λ s. s.code) (at_line q)

      code_one : (p q : ℕ) → Here p → Here q → OneCode l p q → (nth symbols p).code ≡ (nth symbols q).code
      code_one p q a b e = ap (λ s. s.code) (at_line p) ∙ e ∙ ap (λ s. s.code) (sym (at_line q))

      -- where all rows are alike there is no clash
      pub none_found : RowsAlike symbols known (length symbols) (length symbols) → (p q : ℕ) → p < q → Meet l p q → OneCode l p q
      none_found r p q o m = let (a, b, h) = meet_known p q m in one_code p q a b (r p a.0 a.1 q o b.1 h)

      -- where all before two meeting positions are alike, and they are not, they are the first clash
      pub first_found : (i j : ℕ) → i < j → j < length symbols → has (at known (i + 1)) (j + 1) ≡ true
          → ((nth symbols (i + 1)).code ≡ (nth symbols (j + 1)).code → ⊥) → RowsAlike symbols known (length symbols) i → RowAlike symbols known (i + 1) j
          → FirstClash l (i + 1) (j + 1)
      first_found i j o n h d rows row = record {
        order = omega arith;
        meet = known_meet (i + 1) (j + 1) a b h;
        differ = λ e. d (code_one (i + 1) (j + 1) a b e);
        lowest = λ p q k m e. let (c, f, g) = meet_known p q m in after p q k c f g (λ x. e (one_code p q c f x));
      }
        where
          a : Here (i + 1)
          a = (omega arith, omega arith)

          b : Here (j + 1)
          b = (omega arith, omega arith)

          after : (p q : ℕ) → p < q → Here p → Here q → has (at known p) q ≡ true → ((nth symbols p).code ≡ (nth symbols q).code → ⊥)
              → (i + 1 < p) ⊎ ((i + 1 ≡ p) × (j + 1 ≤ q))
          after p q k c f g e = elim (cases_lt i p) [
            | inl x ↦ elim (cases_lt (i + 1) p) [
              | inl y ↦ inl y
              | inr y ↦ elim (cases_lt j q) [
                | inl z ↦ inr (omega arith, omega arith)
                | inr z ↦ absurd (e (subst (λ r. RowAlike symbols known r j) (omega arith) row q k z g))
              ]
            ]
            | inr x ↦ absurd (e (rows p c.0 x q k f.1 g))
          ]
