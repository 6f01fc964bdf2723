-- Tests over all numbers below a bound and over lists, and what they tell. Assumes nothing.
use Rattle.std.proofs.Common.{◌≡◌, ℕ, zero, suc, ◌<◌, ◌≤◌, Bool, true, false, not, ◌&&◌, ◌||◌, eqb, List, [], ◌∷◌, sym, refl, ap, ◌∙◌, subst, ap₂, inl, inr, arith}
use Rattle.std.proofs.lemmas.Bool.{true≢false, both_ways, cases_lt, and_parts, and_from, or_cases, or_parts, eqb-true, eq-eqb}
use Rattle.meaning.specs.Words.{Each}

-- all of the tests pass
abbrev pub every : List Bool → Bool
every [] = true
every (b ∷ bs) = b && every bs

pub every_each : (bs : List Bool) → every bs ≡ true → Each (λ b. b ≡ true) bs
every_each [] h = tt
every_each (b ∷ bs) h = let k = and_parts b (every bs) h in (k.0, every_each bs k.1)

pub each_every : (bs : List Bool) → Each (λ b. b ≡ true) bs → every bs ≡ true
each_every [] h = refl
each_every (b ∷ bs) h = and_from b (every bs) h.0 (each_every bs h.1)

-- the first test fails or the second passes
abbrev pub implies : Bool → Bool → Bool
implies a b = not a || b

pub implied : (a b : Bool) → implies a b ≡ true → a ≡ true → b ≡ true
implied true b h e = h
implied false b h e = absurd (true≢false (sym e))

-- the test passes at each element
abbrev pub all_in : {A : Type 0} → (A → Bool) → List A → Bool
all_in f [] = true
all_in f (x ∷ xs) = f x && all_in f xs

pub in_all : {A : Type 0} (f : A → Bool) (P : A → Type 0) → ((x : A) → f x ≡ true → P x) → (xs : List A) → all_in f xs ≡ true → Each P xs
in_all f P g [] h = tt
in_all f P g (x ∷ xs) h = let k = and_parts (f x) (all_in f xs) h in (g x k.0, in_all f P g xs k.1)

-- the test passes at each number below n
abbrev pub all_below : ℕ → (ℕ → Bool) → Bool
all_below zero f = true
all_below (suc n) f = f n && all_below n f

pub below_all : (n : ℕ) (f : ℕ → Bool) → all_below n f ≡ true → (i : ℕ) → i < n → f i ≡ true
below_all zero f h i k = absurd (omega arith)
below_all (suc n) f h i k =
    let m = and_parts (f n) (all_below n f) h in
    elim (cases_lt i n) [ inl j ↦ below_all n f m.1 i j | inr j ↦ ap f (omega arith) ∙ m.0 ]

-- the test passes at each number from 1 to n
abbrev pub all_upto : ℕ → (ℕ → Bool) → Bool
all_upto n f = all_below n (λ i. f (suc i))

pub upto_all : (n : ℕ) (f : ℕ → Bool) → all_upto n f ≡ true → (p : ℕ) → 1 ≤ p → p ≤ n → f p ≡ true
upto_all n f h zero j k = absurd (omega arith)
upto_all n f h (suc i) j k = below_all n (λ i. f (suc i)) h i (omega arith)

-- the test passes at some number below n
abbrev pub any_below : ℕ → (ℕ → Bool) → Bool
any_below zero f = false
any_below (suc n) f = f n || any_below n f

pub below_any : (n : ℕ) (f : ℕ → Bool) → any_below n f ≡ true → (i : ℕ) × (i < n) × (f i ≡ true)
below_any zero f h = absurd (true≢false (sym h))
below_any (suc n) f h = elim (or_cases (f n) (any_below n f) h) [
  | inl e ↦ (n, omega arith, e)
  | inr e ↦ let (i, k, m) = below_any n f e in (i, omega arith, m)
]

pub below_none : (n : ℕ) (f : ℕ → Bool) → any_below n f ≡ false → (i : ℕ) → i < n → f i ≡ true → ⊥
below_none zero f h i k e = omega arith
below_none (suc n) f h i k e =
    let m = or_parts (f n) (any_below n f) h in
    elim (cases_lt i n) [ inl j ↦ below_none n f m.1 i j e | inr j ↦ both_ways (f i) (ap f (omega arith) ∙ m.0) e ]

-- two lists of numbers are one
abbrev pub same : List ℕ → List ℕ → Bool
same [] [] = true
same [] (y ∷ ys) = false
same (x ∷ xs) [] = false
same (x ∷ xs) (y ∷ ys) = eqb x y && same xs ys

pub same_true : (xs ys : List ℕ) → same xs ys ≡ true → xs ≡ ys
same_true [] [] h = refl
same_true [] (y ∷ ys) h = absurd (true≢false (sym h))
same_true (x ∷ xs) [] h = absurd (true≢false (sym h))
same_true (x ∷ xs) (y ∷ ys) h =
    let k = and_parts (eqb x y) (same xs ys) h in
    ap₂ (λ z zs. z ∷ zs) (eqb-true x y k.0) (same_true xs ys k.1)

same_self : (xs : List ℕ) → same xs xs ≡ true
same_self [] = refl
same_self (x ∷ xs) = ap₂ ◌&&◌ (eq-eqb x x refl) (same_self xs)

pub true_same : (xs ys : List ℕ) → xs ≡ ys → same xs ys ≡ true
true_same xs ys e = subst (λ zs. same xs zs ≡ true) e (same_self xs)
