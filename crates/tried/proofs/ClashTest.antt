-- Tests that a line does not clash, and that it clashes first at two positions, and what they tell. Assumes nothing.
use Rattle.std.proofs.Common.{◌≡◌, ℕ, zero, suc, ◌-◌, ◌*◌, ◌<◌, ◌≤◌, Bool, true, false, cond, not, ◌&&◌, ◌||◌, eqb, ltb, leb, ◌⊎◌, List, [], ◌∷◌, ◌++◌, length, take, sym, ◌∙◌, ap₂, inl, inr, arith}
use Rattle.std.proofs.lemmas.Bool.{true≢false, not-true, ltb-true, lt-ltb, leb-true, le-leb, eqb-true, eqb-false, ne_eqb, and_parts, and_from, or_cases, not_from_false}
use Rattle.meaning.specs.declared.Symbol.{Symbol}
use Rattle.meaning.specs.Words.{Line, Clash}
use Rattle.meaning.specs.Positions.{has, holds, line_symbols, symbol_at, first_set, follow_set, move_all, FitsAt, Meet, FirstClash}
use Rattle.meaning.specs.Laws.{OneCode, InStep, both_first, both_next}
use Rattle.meaning.proofs.Spelling.{holds_parts}
use Rattle.meaning.proofs.Clashes.{clash_meet, meet_clash, moved_meet}
use Rattle.meaning.proofs.Pairs.{meet_step}
use Rattle.tried.proofs.Below.{every, every_each, implies, implied, all_in, in_all, all_upto, upto_all}

-- two positions
abbrev Places : Type 0
Places = ℕ × ℕ

-- p and q are among the pairs
abbrev listed : List Places → ℕ → ℕ → Bool
listed [] p q = false
listed (x ∷ xs) p q = (eqb x.0 p && eqb x.1 q) || listed xs p q

-- the test passes at each pair
abbrev all_listed : List Places → (ℕ → ℕ → Bool) → Bool
all_listed [] f = true
all_listed (x ∷ xs) f = f x.0 x.1 && all_listed xs f

listed_all : (xs : List Places) (f : ℕ → ℕ → Bool) → all_listed xs f ≡ true → (p q : ℕ) → listed xs p q ≡ true → f p q ≡ true
listed_all [] f h p q k = absurd (true≢false (sym k))
listed_all (x ∷ xs) f h p q k =
    let m = and_parts (f x.0 x.1) (all_listed xs f) h in
    elim (or_cases (eqb x.0 p && eqb x.1 q) (listed xs p q) k) [
      | inl e ↦
          let n = and_parts (eqb x.0 p) (eqb x.1 q) e in
          sym (ap₂ f (eqb-true x.0 p n.0) (eqb-true x.1 q n.1)) ∙ m.0
      | inr e ↦ listed_all xs f m.1 p q e
    ]

-- p and q come no later than p' and q'
abbrev no_later : (p q p' q' : ℕ) → Bool
no_later p q p' q' = ltb p p' || (eqb p p' && leb q q')

no_later_true : (p q p' q' : ℕ) → no_later p q p' q' ≡ true → (p < p') ⊎ ((p ≡ p') × (q ≤ q'))
no_later_true p q p' q' h = elim (or_cases (ltb p p') (eqb p p' && leb q q') h) [
  | inl e ↦ inl (ltb-true p p' e)
  | inr e ↦ let k = and_parts (eqb p p') (leb q q') e in inr (eqb-true p p' k.0, leb-true q q' k.1)
]

-- the range is not empty
abbrev in_order : Symbol → Bool
in_order s = leb s.low s.high

module _ (l : Line) where
  -- how many positions there are
  abbrev size : ℕ
  size = length (line_symbols l)

  -- the ranges of p and q share a class
  abbrev overlap : (p q : ℕ) → Bool
  overlap p q = leb (symbol_at l p).low (symbol_at l q).high && leb (symbol_at l q).low (symbol_at l p).high

  -- one class leads to p of the set a and to q of the set b
  abbrev may : (a b p q : ℕ) → Bool
  may a b p q = (has a p && has b q) && overlap p q

  fits_may : (a b p q c : ℕ) → has a p ≡ true → has b q ≡ true → FitsAt l p c → FitsAt l q c → may a b p q ≡ true
  fits_may a b p q c h k f g =
      let m = holds_parts (symbol_at l p) c f.2 in
      let n = holds_parts (symbol_at l q) c g.2 in
      and_from _ _ (and_from _ _ h k) (and_from _ _
      (le-leb (symbol_at l p).low (symbol_at l q).high (omega arith)) (le-leb (symbol_at l q).low (symbol_at l p).high (omega arith)))

  -- whatever two positions one class leads to from the sets a and b are listed
  abbrev led : List Places → (a b : ℕ) → Bool
  led xs a b = all_upto size (λ p. all_upto size (λ q. implies (may a b p q) (listed xs p q)))

  led_listed : (xs : List Places) (a b p q c : ℕ) → led xs a b ≡ true → has a p ≡ true → has b q ≡ true → FitsAt l p c → FitsAt l q c → listed xs p q ≡ true
  led_listed xs a b p q c t h k f g =
      implied (may a b p q) (listed xs p q)
      (upto_all size (λ q. implies (may a b p q) (listed xs p q))
      (upto_all size (λ p. all_upto size (λ q. implies (may a b p q) (listed xs p q))) t p f.0 f.1) q g.0 g.1)
      (fits_may a b p q c h k f g)

  -- the pairs listed are closed under steps
  abbrev closed : List Places → Bool
  closed xs = led xs (first_set l) (first_set l) && all_listed xs (λ p q. led xs (follow_set l p) (follow_set l q))

  step_listed : (xs : List Places) → closed xs ≡ true → {p q : ℕ} → InStep l p q → listed xs p q ≡ true
  step_listed xs h (both_first {p = p} {q = q} c i j f g) =
      led_listed xs (first_set l) (first_set l) p q c (and_parts (led xs (first_set l) (first_set l)) _ h).0 i j f g
  step_listed xs h (both_next {p = p} {q = q} {p' = p'} {q' = q'} c s i j f g) =
      led_listed xs (follow_set l p) (follow_set l q) p' q' c
      (listed_all xs (λ p q. led xs (follow_set l p) (follow_set l q)) (and_parts (led xs (first_set l) (first_set l)) _ h).1 p q (step_listed xs h s)) i j f g

  -- xs, with those of the pairs of p and the positions up to q in front that one class leads to from a and b
  abbrev spread_row : (a b p q : ℕ) → List Places → List Places
  spread_row a b p zero xs = xs
  spread_row a b p (suc q) xs = spread_row a b p q (cond (may a b p (suc q) && not (listed xs p (suc q))) ((p, suc q) ∷ xs) xs)

  -- the same with the pairs of all positions up to p
  abbrev spread : (a b p : ℕ) → List Places → List Places
  spread a b zero xs = xs
  spread a b (suc p) xs = spread a b p (spread_row a b (suc p) size xs)

  -- what steps lead to from the pairs to do, at most n of them
  abbrev grow : ℕ → (todo xs : List Places) → List Places
  grow zero todo xs = xs
  grow (suc n) [] xs = xs
  grow (suc n) (x ∷ todo) xs =
      let ys = spread (follow_set l x.0) (follow_set l x.1) size xs in
      grow n (take (length ys - length xs) ys ++ todo) ys

  -- the pairs that steps lead to; `closed` tests that none is left out
  abbrev pairs : List Places
  pairs = let xs = spread (first_set l) (first_set l) size [] in grow (size * size) xs xs

  -- p and q have one code
  abbrev one_code : (p q : ℕ) → Bool
  one_code p q = eqb (symbol_at l p).code (symbol_at l q).code

  abbrev clear_among : List Places → Bool
  clear_among xs = closed xs && all_listed xs one_code

  clear_by_pairs : (xs : List Places) → clear_among xs ≡ true → Clash l.expr → ⊥
  clear_by_pairs xs h clash =
      let (p, q, o, m, d) = clash_meet l clash in
      let k = and_parts (closed xs) (all_listed xs one_code) h in
      d (eqb-true (symbol_at l p).code (symbol_at l q).code (listed_all xs one_code k.1 p q (step_listed xs k.0 (meet_step l p q m))))

  -- positions that meet have one code
  abbrev pub clear_test : Bool
  clear_test = clear_among pairs

  pub clear_by : clear_test ≡ true → Clash l.expr → ⊥
  clear_by = clear_by_pairs pairs

  -- p is a position whose range holds the class c
  abbrev fits : (p c : ℕ) → List Bool
  fits p c = leb 1 p ∷ leb p size ∷ holds (symbol_at l p) c ∷ []

  fits_true : (p c : ℕ) → every (fits p c) ≡ true → FitsAt l p c
  fits_true p c h = let (a, (b, (d, z))) = every_each (fits p c) h in (leb-true 1 p a, leb-true p size b, d)

  abbrev clash_tests : List Places → List ℕ → (c p q : ℕ) → List Bool
  clash_tests xs α c p q =
      all_in in_order (line_symbols l)
      ∷ ltb p q
      ∷ has (move_all l (first_set l) α) p
      ∷ every (fits p c)
      ∷ has (move_all l (first_set l) α) q
      ∷ every (fits q c)
      ∷ not (one_code p q)
      ∷ closed xs
      ∷ all_listed xs (λ p' q'. implies (ltb p' q' && not (one_code p' q')) (no_later p q p' q'))
      ∷ []

  clash_by_pairs : (xs : List Places) (α : List ℕ) (c p q : ℕ) → every (clash_tests xs α c p q) ≡ true → Clash l.expr × FirstClash l p q
  clash_by_pairs xs α c p q h =
      let (r, (a, (b, (d, (e, (f, (g, (i, (j, z))))))))) = every_each (clash_tests xs α c p q) h in
      let m : Meet l p q = moved_meet l α c p q b (fits_true p c d) e (fits_true q c f) in
      let n : OneCode l p q → ⊥ = eqb-false (symbol_at l p).code (symbol_at l q).code (not-true _ g) in (
        meet_clash l (in_all in_order (λ s. s.low ≤ s.high) (λ s. leb-true s.low s.high) (line_symbols l) r) p q m n,
        record {
          order = ltb-true p q a;
          meet = m;
          differ = n;
          lowest = λ p' q' o m' n'. no_later_true p q p' q'
              (implied (ltb p' q' && not (one_code p' q')) (no_later p q p' q')
              (listed_all xs (λ p' q'. implies (ltb p' q' && not (one_code p' q')) (no_later p q p' q')) j p' q' (step_listed xs i (meet_step l p' q' m')))
              (and_from _ _ (lt-ltb p' q' o) (not_from_false _ (ne_eqb (symbol_at l p').code (symbol_at l q').code n'))));
        },
      )

  -- α and then c lead to p and to q, whose codes differ, and no two positions before them meet with different codes
  abbrev pub clash_test : List ℕ → (c p q : ℕ) → Bool
  clash_test α c p q = every (clash_tests pairs α c p q)

  pub clash_by : (α : List ℕ) (c p q : ℕ) → clash_test α c p q ≡ true → Clash l.expr × FirstClash l p q
  clash_by = clash_by_pairs pairs
