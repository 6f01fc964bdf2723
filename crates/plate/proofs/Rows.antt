-- The table as it is filled, state by state and class by class. Assumes nothing.
use Rattle.std.proofs.Common.{◌≡◌, ℕ, ◌+◌, ◌*◌, ◌<◌, ◌≤◌, ◌≢◌, ◌⊎◌, List, [], ◌∷◌, ◌++◌, length, get_or, set, Some, sym, refl, ap, ◌∙◌, subst, inl, inr, arith, get_or-set_other, get_or-set_same}
use mathlib.Core.Logic.{⊎_map}
use Rattle.std.proofs.lemmas.Nat.{mul-add-lt}
use Rattle.std.proofs.lemmas.List.{get_or_append_left, get_or_push, length_push}
use Rattle.std.proofs.lemmas.Bool.{cases_lt}
use Rattle.meaning.specs.Words.{Line}
use Rattle.meaning.specs.States.{State, step, nowhere, Among, Before, Met, Numbers, States, MoreThan64, LeadsTo}
use Rattle.plate.specs.Filling.{Filling, Numbered}

-- one state more
among_more : (all : List State) (x s : State) (n : ℕ) → n ≤ length all → Among all n s → Among (all ++ x ∷ []) n s
among_more all x s n h (i, k, e) = (i, k, get_or_append_left all (x ∷ []) nowhere i (omega arith) ∙ e)

among_less : (all : List State) (x s : State) (n : ℕ) → n ≤ length all → Among (all ++ x ∷ []) n s → Among all n s
among_less all x s n h (i, k, e) = (i, k, sym (get_or_append_left all (x ∷ []) nowhere i (omega arith)) ∙ e)

-- a state keeps its number
pub numbered_keeps : (all : List State) (x : State) (t : ℕ) (after : List State) → Numbered all x (Some t) after → (s : ℕ) → s < length all
    → (s < length after) × (get_or after s nowhere ≡ get_or all s nowhere)
numbered_keeps all x t after n s h = elim n [
  | inl (k, e, same) ↦ (omega (arith, ap length same), ap (λ xs. get_or xs s nowhere) same)
  | inr (e, fresh, same) ↦ (omega (arith, ap length same, length_push all x), ap (λ xs. get_or xs s nowhere) same ∙ get_or_append_left all (x ∷ []) nowhere s h)
]

-- what is at or before (s, c)
before_more : (i d s c : ℕ) → Before i d s (c + 1) → Before i d s c ⊎ ((i ≡ s) × (d ≡ c))
before_more i d s c b = elim b [
  | inl h ↦ inl (inl h)
  | inr (e, h) ↦ elim (cases_lt d c) [
    | inl k ↦ inl (inr (e, k))
    | inr k ↦ inr (e, omega arith)
  ]
]

module _ (count : ℕ) where
  place_before : (i d s c : ℕ) → d < count → Before i d s c → i * count + d < s * count + c
  place_before i d s c k b = elim b [
    | inl h ↦ omega (arith, mul-add-lt i count d s h k)
    | inr (e, h) ↦ subst (λ j. i * count + d < j * count + c) e (omega arith)
  ]

module _ (count : ℕ) (ls : List Line) where
  -- the move leads nowhere, or to one of the first n states
  abbrev Known : List State → ℕ → State → Type 0
  Known all n s = (s ≡ nowhere) ⊎ Among all n s

  leads_known : (all : List State) (i d cell : ℕ) → LeadsTo ls all i d cell → Known all (length all) (step ls d (get_or all i nowhere))
  leads_known all i d cell h = elim h [
    | inl (e, f) ↦ inl f
    | inr (t, e, k, f) ↦ inr (t, k, sym f)
  ]

  leads_more : (all : List State) (x : State) (i d cell : ℕ) → i < length all → LeadsTo ls all i d cell → LeadsTo ls (all ++ x ∷ []) i d cell
  leads_more all x i d cell o h = elim h [
    | inl (e, f) ↦ inl (e, ap (step ls d) (get_or_append_left all (x ∷ []) nowhere i o) ∙ f)
    | inr (t, e, k, f) ↦ inr (t, e, omega (arith, length_push all x), ap (step ls d) (get_or_append_left all (x ∷ []) nowhere i o) ∙ f ∙ sym (get_or_append_left all (x ∷ []) nowhere t k))
  ]

  module _ (all : List State) (x : State) where
    known_more : (n i c : ℕ) → n ≤ length all → i < length all → Known all n (step ls c (get_or all i nowhere)) → Known (all ++ x ∷ []) n (step ls c (get_or (all ++ x ∷ []) i nowhere))
    known_more n i c h k w =
        subst (λ y. Known (all ++ x ∷ []) n (step ls c y)) (sym (get_or_append_left all (x ∷ []) nowhere i k))
        (⊎_map (λ e. e) (among_more all x (step ls c (get_or all i nowhere)) n h) w)

    met_more : (j : ℕ) → j < length all → Met count ls all j → Met count ls (all ++ x ∷ []) j
    met_more j h m =
        let e = get_or_append_left all (x ∷ []) nowhere j h in
        let k : m.«from» < length all = omega (arith, m.earlier) in
        record {
          «from» = m.«from»;
          class = m.class;
          earlier = m.earlier;
          in_alphabet = m.in_alphabet;
          leads = ap (step ls m.class) (get_or_append_left all (x ∷ []) nowhere m.«from» k) ∙ m.leads ∙ sym e;
          fresh = λ a. m.fresh (among_less all x (get_or all j nowhere) j (omega arith) (subst (Among (all ++ x ∷ []) j) e a));
          some = λ z. m.some (sym e ∙ z);
          first = λ i c o b. known_more j i c (omega arith) (omega arith) (m.first i c o b);
        }

    -- the state that a move meets
    module _ (s c : ℕ) (below : s < length all) (in_alphabet : c < count) (leads : step ls c (get_or all s nowhere) ≡ x) (fresh : Among all (length all) x → ⊥) (some : x ≡ nowhere → ⊥) (known : (i d : ℕ) → d < count → Before i d s c → Known all (length all) (step ls d (get_or all i nowhere))) where
      new_met : Met count ls (all ++ x ∷ []) (length all)
      new_met =
          let last = get_or_push all x nowhere (length all) refl in
          record {
            «from» = s;
            class = c;
            earlier = below;
            in_alphabet = in_alphabet;
            leads = ap (step ls c) (get_or_append_left all (x ∷ []) nowhere s below) ∙ leads ∙ sym last;
            fresh = λ a. fresh (among_less all x x (length all) (omega arith) (subst (Among (all ++ x ∷ []) (length all)) last a));
            some = λ z. some (sym last ∙ z);
            first = λ i d o b. known_more (length all) i d (omega arith) (omega arith) (known i d o b);
          }

      numbers_more : Numbers count ls all → Numbers count ls (all ++ x ∷ [])
      numbers_more a = record {
        starts = (omega (arith, length_push all x), get_or_append_left all (x ∷ []) nowhere 0 a.starts.0 ∙ a.starts.1);
        met = λ j h k. elim (cases_lt j (length all)) [
          | inl o ↦ met_more j o (a.met j h o)
          | inr o ↦
              let same : length all ≡ j = omega (arith, length_push all x) in
              subst (Met count ls (all ++ x ∷ [])) same new_met
        ];
      }

  module _ (all : List State) (moves : List ℕ) (s c : ℕ) (f : Filling count ls all moves s c) (below : s < length all) (in_alphabet : c < count) where
    known_before : (i d : ℕ) → d < count → Before i d s c → Known all (length all) (step ls d (get_or all i nowhere))
    known_before i d k b = leads_known all i d (get_or moves (i * count + d) 0) (f.cells i d k b)

    -- a move that leads nowhere
    pub filling_nowhere : length all ≤ 64 → step ls c (get_or all s nowhere) ≡ nowhere → Filling count ls all moves s (c + 1)
    filling_nowhere few e = record {
      numbers = f.numbers;
      within = inl below;
      cells = λ i d k b. elim (before_more i d s c b) [
        | inl o ↦ f.cells i d k o
        | inr (p, q) ↦
            inl (
              f.others (i * count + d) (omega (arith, ap (λ j. j * count) p)) (omega (arith, mul-add-lt i count d 64 (omega arith) k)),
              ap (λ j. step ls d (get_or all j nowhere)) p ∙ ap (λ j. step ls j (get_or all s nowhere)) q ∙ e,
            )
      ];
      others = λ i h k. f.others i (omega arith) k;
    }

    -- a move that leads to a state with a number
    pub filling_known : (t : ℕ) → s * count + c < length moves → t < length all → get_or all t nowhere ≡ step ls c (get_or all s nowhere)
        → Filling count ls all (set moves (s * count + c) (t + 1)) s (c + 1)
    filling_known t fits h e = record {
      numbers = f.numbers;
      within = inl below;
      cells = λ i d k b. elim (before_more i d s c b) [
        | inl o ↦
            let less = place_before count i d s c k o in
            let ne : i * count + d ≢ s * count + c = omega arith in
            subst (LeadsTo ls all i d) (sym (get_or-set_other moves (s * count + c) (i * count + d) (t + 1) 0 ne)) (f.cells i d k o)
        | inr (p, q) ↦
            let same : i * count + d ≡ s * count + c = omega (arith, ap (λ j. j * count) p) in
            inr (
              t,
              ap (λ j. get_or (set moves (s * count + c) (t + 1)) j 0) same ∙ get_or-set_same moves (s * count + c) (t + 1) 0 fits,
              h,
              ap (λ j. step ls d (get_or all j nowhere)) p ∙ ap (λ j. step ls j (get_or all s nowhere)) q ∙ sym e,
            )
      ];
      others = λ i h k. let ne : i ≢ s * count + c = omega arith in get_or-set_other moves (s * count + c) i (t + 1) 0 ne ∙ f.others i (omega arith) k;
    }

    module _ (x : State) (leads : x ≡ step ls c (get_or all s nowhere)) (fresh : Among all (length all) x → ⊥) (some : x ≡ nowhere → ⊥) where
      more_numbers : Numbers count ls (all ++ x ∷ [])
      more_numbers = numbers_more all x s c below in_alphabet (sym leads) fresh some known_before f.numbers

      -- a move that meets a state, before its cell is written
      pub filling_more : Filling count ls (all ++ x ∷ []) moves s c
      filling_more = record {
        numbers = more_numbers;
        within = inl (omega (arith, length_push all x));
        cells = λ i d k b. leads_more all x i d (get_or moves (i * count + d) 0) (omega arith) (f.cells i d k b);
        others = f.others;
      }

      -- and that finds no number for it
      pub filling_many : length all ≡ 64 → MoreThan64 count ls
      filling_many e = (all ++ x ∷ [], more_numbers, omega (arith, length_push all x))

  -- a move that leads somewhere, once the state behind it has a number
  pub filling_numbered : (all : List State) (moves : List ℕ) (s c : ℕ) → Filling count ls all moves s c → s < length all → c < count
      → (x : State) (t : ℕ) (after : List State) → Numbered all x (Some t) after → x ≡ step ls c (get_or all s nowhere) → (x ≡ nowhere → ⊥)
      → s * count + c < length moves → Filling count ls after (set moves (s * count + c) (t + 1)) s (c + 1)
  filling_numbered all moves s c f below in_alphabet x t after n leads some fits = elim n [
    | inl (h, e, same) ↦
        subst (λ xs. Filling count ls xs (set moves (s * count + c) (t + 1)) s (c + 1)) (sym same)
        (filling_known all moves s c f below in_alphabet t fits h (e ∙ leads))
    | inr (e, fresh, same) ↦
        subst (λ xs. Filling count ls xs (set moves (s * count + c) (t + 1)) s (c + 1)) (sym same)
        (filling_known (all ++ x ∷ []) moves s c (filling_more all moves s c f below in_alphabet x leads fresh some) (omega (arith, length_push all x)) in_alphabet t fits
        (omega (arith, length_push all x))
        (ap (λ j. get_or (all ++ x ∷ []) j nowhere) e ∙ get_or_push all x nowhere (length all) refl ∙ leads ∙ ap (step ls c) (sym (get_or_append_left all (x ∷ []) nowhere s below))))
  ]

  module _ (all : List State) (moves : List ℕ) where
    -- the last state
    pub filled_states : Filling count ls all moves (length all) 0 → States count ls all
    filled_states f = record {
      numbers = f.numbers;
      closed = λ i c h k. leads_known all i c (get_or moves (i * count + c) 0) (f.cells i c k (inl h));
    }
