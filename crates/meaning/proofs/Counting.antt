-- Lines have at most 64 states or more than 64: a numbering that is not complete has a next state. Assumes nothing.
use Rattle.std.proofs.Common.{◌≡◌, ℕ, zero, suc, ◌<◌, ◌≤◌, ◌⊎◌, List, [], ◌∷◌, ◌++◌, length, get_or, sym, refl, ap, ◌∙◌, subst, inl, inr, arith, length-append}
use mathlib.Core.Logic.Dec
use native.Mathlib.Decide.{ℕ_discrete, dec_lt}
use Rattle.std.proofs.lemmas.List.{get_or_append_left, get_or_at}
use Rattle.std.proofs.lemmas.Bool.{cases_lt}
use Rattle.meaning.specs.Words.{Line}
use Rattle.meaning.specs.States.{State, start, step, nowhere, Among, Before, Met, Numbers, States, MoreThan64}
use Rattle.meaning.proofs.Least.{dec_either, least, least_below, dec_below}

same_dec : (s t : List ℕ) → Dec (s ≡ t)
same_dec [] [] = yes refl
same_dec [] (y ∷ t) = no (λ e. omega (arith, ap length e))
same_dec (x ∷ s) [] = no (λ e. omega (arith, ap length e))
same_dec (x ∷ s) (y ∷ t) = both (ℕ_discrete x y) (same_dec s t)
  where
    both : Dec (x ≡ y) → Dec (s ≡ t) → Dec (x ∷ s ≡ y ∷ t)
    both (yes e) (yes f) = yes (cc)
    both (yes e) (no f) = no (λ h. f (cc))
    both (no e) d = no (λ h. e (cc))

module _ (count : ℕ) (ls : List Line) (all : List State) where
  -- where the class c leads from the state i
  abbrev led : ℕ → ℕ → State
  led i c = step ls c (get_or all i nowhere)

  -- no state, or one with a number
  abbrev Known : State → Type 0
  Known s = (s ≡ nowhere) ⊎ Among all (length all) s

  known_dec : (s : State) → Dec (Known s)
  known_dec s = dec_either (same_dec s nowhere) (dec_below (λ i. get_or all i nowhere ≡ s) (λ i. same_dec (get_or all i nowhere) s) (length all))

  -- the move leads to a state without a number
  abbrev New : ℕ → ℕ → Type 0
  New i c = (c < count) × (Known (led i c) → ⊥)

  new_dec : (i c : ℕ) → Dec (New i c)
  new_dec i c = Dec.and (dec_lt c count) (Dec.not (known_dec (led i c)))

  abbrev SomeNew : ℕ → Type 0
  SomeNew i = (c : ℕ) × (c < count) × New i c

  some_new_dec : (i : ℕ) → Dec (SomeNew i)
  some_new_dec i = dec_below (New i) (new_dec i) count

  known : (i c : ℕ) → c < count → (New i c → ⊥) → Known (led i c)
  known i c h n = elim (known_dec (led i c)) [ yes k ↦ k | no k ↦ absurd (n (h, k)) ]

  complete : Numbers count ls all → ((i c : ℕ) → i < length all → New i c → ⊥) → States count ls all
  complete a none = record { numbers = a; closed = λ i c h k. known i c k (none i c h) }

  module _ (a : Numbers count ls all) (i c : ℕ) (inside : i < length all) (new : New i c)
      (no_state : (j d : ℕ) → New j d → i ≤ j) (no_class : (d : ℕ) → New i d → c ≤ d) where
    abbrev more : List State
    more = all ++ led i c ∷ []

    keep : (j : ℕ) → j < length all → get_or more j nowhere ≡ get_or all j nowhere
    keep j h = get_or_append_left all (led i c ∷ []) nowhere j h

    last : get_or more (length all) nowhere ≡ led i c
    last = get_or_at all (led i c) [] nowhere (length all) refl

    -- what was known before the state n is known still
    still : (n j d : ℕ) → n ≤ length all → j < length all → (led j d ≡ nowhere) ⊎ Among all n (led j d)
        → (step ls d (get_or more j nowhere) ≡ nowhere) ⊎ Among more n (step ls d (get_or more j nowhere))
    still n j d h k = elim [
      | inl e ↦ inl (ap (step ls d) (keep j k) ∙ e)
      | inr (x, o, e) ↦ inr (x, o, keep x (omega arith) ∙ e ∙ ap (step ls d) (sym (keep j k)))
    ]

    old_met : (j : ℕ) → j < length all → Met count ls all j → Met count ls more j
    old_met j h m = record {
      «from» = m.«from»;
      class = m.class;
      earlier = m.earlier;
      in_alphabet = m.in_alphabet;
      leads = ap (step ls m.class) (keep m.«from» (omega (arith, m.earlier))) ∙ m.leads ∙ sym (keep j h);
      fresh = λ (x, o, e). m.fresh (x, o, sym (keep x (omega arith)) ∙ e ∙ keep j h);
      some = λ e. m.some (sym (keep j h) ∙ e);
      first = λ x d o b. still j x d (omega arith) (omega (arith, b, m.earlier)) (m.first x d o b);
    }

    new_met : Met count ls more (length all)
    new_met = record {
      «from» = i;
      class = c;
      earlier = inside;
      in_alphabet = new.0;
      leads = ap (step ls c) (keep i inside) ∙ sym last;
      fresh = λ (x, o, e). new.1 (inr (x, o, sym (keep x o) ∙ e ∙ last));
      some = λ e. new.1 (inl (sym last ∙ e));
      first = λ x d o b. still (length all) x d (omega arith) (omega (arith, b, inside)) (known x d o (before x d b));
    }
      where
        before : (x d : ℕ) → Before x d i c → New x d → ⊥
        before x d (inl h) n = let k = no_state x d n in omega arith
        before x d (inr (e, h)) n = let k = no_class d (subst (λ y. New y d) e n) in omega arith

    longer : Numbers count ls more
    longer = record {
      starts = (omega (arith, length-append all (led i c ∷ [])), keep 0 a.starts.0 ∙ a.starts.1);
      met = λ j o h. elim (cases_lt j (length all)) [
        | inl k ↦ old_met j k (a.met j o k)
        | inr k ↦ subst (λ n. Met count ls more n) (omega (arith, length-append all (led i c ∷ []))) new_met
      ];
    }

  -- a numbering is complete or has one state more
  next : Numbers count ls all → States count ls all ⊎ ((s : State) × Numbers count ls (all ++ s ∷ []))
  next a = elim (least_below SomeNew some_new_dec (length all)) [
    | inl (i, ((c, o, new), low)) ↦ elim (cases_lt i (length all)) [
      | inl h ↦
          let (d, (n, least_class)) = least (New i) (new_dec i) c new in
          inr (led i d, longer a i d h n (λ j e m. low j (e, m.0, m)) least_class)
      | inr h ↦ inl (complete a (λ j d k n. let m = low j (d, n.0, n) in omega arith))
    ]
    | inr none ↦ inl (complete a (λ j d k n. none j k (d, n.0, n)))
  ]

module _ (count : ℕ) (ls : List Line) where
  abbrev UpTo : ℕ → Type 0
  UpTo n = ((all : List State) × States count ls all × (length all ≤ n)) ⊎ ((all : List State) × Numbers count ls all × (length all ≡ suc n))

  counted : (n : ℕ) → UpTo n
  counted zero = inr (start ls ∷ [], record { starts = (omega arith, refl); met = λ j o h. absurd (omega arith) }, refl)
  counted (suc n) = elim (counted n) [
    | inl (all, s, h) ↦ inl (all, s, omega arith)
    | inr (all, a, e) ↦ elim (next count ls all a) [
      | inl s ↦ inl (all, s, omega arith)
      | inr (s, b) ↦ inr (all ++ s ∷ [], b, omega (arith, length-append all (s ∷ [])))
    ]
  ]

  pub at_most_or_more : ((all : List State) × States count ls all × (length all ≤ 64)) ⊎ MoreThan64 count ls
  at_most_or_more = elim (counted 64) [ inl s ↦ inl s | inr (all, a, e) ↦ inr (all, a, omega arith) ]
