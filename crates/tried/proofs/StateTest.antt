-- A test that a list is the numbering of the states of some lines, and what it tells. Assumes nothing.
use Rattle.std.proofs.Common.{◌≡◌, ℕ, zero, suc, pred, ◌<◌, Bool, true, not, ◌||◌, ltb, ◌⊎◌, List, [], ◌∷◌, length, get_or, ap, ◌∙◌, inl, inr, arith}
use Rattle.std.proofs.lemmas.Bool.{both_ways, not-true, ltb-true, or_cases}
use Rattle.meaning.specs.Words.{Line}
use Rattle.meaning.specs.States.{State, start, step, nowhere, Among, Met, States}
use Rattle.tried.proofs.Below.{every, every_each, all_below, below_all, any_below, below_any, below_none, same, same_true, true_same}

-- the state s is among the first n of `all`
abbrev among : List State → ℕ → State → Bool
among all n s = any_below n (λ i. same (get_or all i nowhere) s)

-- it is among them, or is empty in all lines
abbrev known : List State → ℕ → State → Bool
known all n s = same s nowhere || among all n s

known_true : (all : List State) (n : ℕ) (s : State) → known all n s ≡ true → (s ≡ nowhere) ⊎ Among all n s
known_true all n s h = elim (or_cases (same s nowhere) (among all n s) h) [
  | inl e ↦ inl (same_true s nowhere e)
  | inr e ↦ let (i, k, m) = below_any n (λ i. same (get_or all i nowhere) s) e in inr (i, k, same_true (get_or all i nowhere) s m)
]

-- the moves from the state i by the first n classes lead to the first j states or nowhere
abbrev leads_back : List Line → List State → ℕ → ℕ → ℕ → Bool
leads_back ls all j i n = all_below n (λ c. known all j (step ls c (get_or all i nowhere)))

-- the state j is met first by the move from the state i by the class c
abbrev met_tests : ℕ → List Line → List State → ℕ → ℕ → ℕ → List Bool
met_tests count ls all j i c =
    ltb i j
    ∷ ltb c count
    ∷ same (step ls c (get_or all i nowhere)) (get_or all j nowhere)
    ∷ not (among all j (get_or all j nowhere))
    ∷ not (same (get_or all j nowhere) nowhere)
    ∷ all_below i (λ k. leads_back ls all j k count)
    ∷ leads_back ls all j i c
    ∷ []

-- the state j + 1 is met by the move j of `moves`, each given by a state and a class
abbrev met_test : ℕ → List Line → List State → List (ℕ × ℕ) → ℕ → Bool
met_test count ls all moves j = every (met_tests count ls all (suc j) (get_or moves j (0, 0)).0 (get_or moves j (0, 0)).1)

-- `all` begins with the start state, each other one is met by its move, and every move leads back or nowhere
abbrev states_tests : ℕ → List Line → List State → List (ℕ × ℕ) → List Bool
states_tests count ls all moves =
    ltb 0 (length all)
    ∷ same (get_or all 0 nowhere) (start ls)
    ∷ all_below (pred (length all)) (met_test count ls all moves)
    ∷ all_below (length all) (λ i. leads_back ls all (length all) i count)
    ∷ []

module _ (count : ℕ) (ls : List Line) (all : List State) where
  back_true : (j i n : ℕ) → leads_back ls all j i n ≡ true → (c : ℕ) → c < n
      → (step ls c (get_or all i nowhere) ≡ nowhere) ⊎ Among all j (step ls c (get_or all i nowhere))
  back_true j i n h c k =
      known_true all j (step ls c (get_or all i nowhere)) (below_all n (λ c. known all j (step ls c (get_or all i nowhere))) h c k)

  met : (j i c : ℕ) → every (met_tests count ls all j i c) ≡ true → Met count ls all j
  met j i c h =
      let (a, (b, (d, (e, (f, (g, (k, z))))))) = every_each (met_tests count ls all j i c) h in
      record {
        «from» = i;
        class = c;
        earlier = ltb-true i j a;
        in_alphabet = ltb-true c count b;
        leads = same_true (step ls c (get_or all i nowhere)) (get_or all j nowhere) d;
        fresh = λ (m, n, o). below_none j (λ i. same (get_or all i nowhere) (get_or all j nowhere)) (not-true _ e) m n (true_same (get_or all m nowhere) (get_or all j nowhere) o);
        some = λ m. both_ways (same (get_or all j nowhere) nowhere) (not-true _ f) (true_same (get_or all j nowhere) nowhere m);
        first = λ m d n before. elim before [
          | inl o ↦ back_true j m count (below_all i (λ k. leads_back ls all j k count) g m o) d n
          | inr (o, q) ↦ back_true j m c (ap (λ r. leads_back ls all j r c) o ∙ k) d q
        ];
      }

  module _ (moves : List (ℕ × ℕ)) where
    met_at : all_below (pred (length all)) (met_test count ls all moves) ≡ true → (j : ℕ) → 0 < j → j < length all → Met count ls all j
    met_at h zero k m = absurd (omega arith)
    met_at h (suc j) k m =
        met (suc j) (get_or moves j (0, 0)).0 (get_or moves j (0, 0)).1 (below_all (pred (length all)) (met_test count ls all moves) h j (omega arith))

    pub states_by : every (states_tests count ls all moves) ≡ true → States count ls all
    states_by h =
        let (a, (b, (d, (e, z)))) = every_each (states_tests count ls all moves) h in
        record {
          numbers = record { starts = (ltb-true 0 (length all) a, same_true (get_or all 0 nowhere) (start ls) b); met = met_at d };
          closed = λ i c k m. back_true (length all) i count (below_all (length all) (λ i. leads_back ls all (length all) i count) e i k) c m;
        }
