-- The turns of the search for a piece: the state of a built plate and the best word, after each symbol. Assumes nothing.
use Rattle.std.proofs.Common.{◌≡◌, ℕ, zero, suc, ◌+◌, ◌*◌, ◌<◌, ◌≤◌, true, List, [], ◌∷◌, ◌++◌, length, get_or, take, drop, Some, None, Option, IfSome, sym, refl, subst, arith}
use Rattle.std.proofs.lemmas.Option.{IfSome_then}
use Rattle.meaning.specs.declared.Piece.{Piece}
use Rattle.meaning.specs.Words.{Line}
use Rattle.meaning.specs.Runs.{Mean}
use Rattle.plate.specs.Cells.{reached}
use Rattle.plate.specs.Desks.{accepts_of, texts_of, is_built}
use Rattle.plate.specs.declared.open.Plate.{Plate}
use Rattle.plate.proofs.Walking.{At, start_at, step_at, below_at, lost_at, none_at, taken_at}
use Rattle.reading.proofs.Best.{Best, best_none, best_same, best_more, best_lost}

-- what a move cell says
reached_some : (x t : ℕ) → Some t ≡ reached x → x ≡ t + 1
reached_some zero t e = let z : ◌≡◌ {A = ℕ} 0 1 = cc in absurd (omega arith)
reached_some (suc x) t e = let z : t ≡ x = cc in omega arith

reached_none : (x : ℕ) → None ≡ reached x → x ≡ 0
reached_none zero e = refl
reached_none (suc x) e = let z : ◌≡◌ {A = ℕ} 0 1 = cc in absurd (omega arith)

-- a piece at the place, of some of the n symbols behind it
abbrev pub Within : (place n : ℕ) → Option Piece → Type 0
Within place n best = IfSome best (λ p. (p.place ≡ place) × (0 < p.len) × (p.len ≤ n))

pub within_more : (place n : ℕ) (best : Option Piece) → Within place n best → Within place (n + 1) best
within_more place n best h = IfSome_then best h (λ p k. (k.0, k.1, omega (arith, k.2)))

pub within_all : (place n all : ℕ) (best : Option Piece) → place + n ≤ all → Within place n best → IfSome best (λ p. (p.place ≡ place) × (0 < p.len) × (place + p.len ≤ all))
within_all place n all best fits h = IfSome_then best h (λ p k. (k.0, k.1, omega (arith, k.2)))

module _ (p : Plate) (ls : List Line) (extent : List ℕ) (place : ℕ) where
  -- the state s is where the classes α lead
  abbrev pub Leads : ℕ → List ℕ → Type 0
  Leads s α = At p.desk.count (texts_of p.desk) p.moves.now p.sets.now (accepts_of p.desk) ls s α

  -- after n symbols from the place: the state, and the best word
  abbrev pub Looked : (n s : ℕ) → Option Piece → Type 0
  Looked n s best = Leads s (take n (drop place extent)) × Best ls extent place n best

  module _ (m : Mean (texts_of p.desk) ls) where
    pub looked_none : Looked 0 0 None
    looked_none = (start_at _ _ _ _ _ ls m, best_none ls extent place)

    module _ (built : is_built p.desk ≡ true) where
      -- a state that a plate has
      pub looked_below : (n s : ℕ) (best : Option Piece) → Looked n s best → s < 64
      looked_below n s best a = below_at _ _ _ _ _ ls m (p.built built) s (take n (drop place extent)) a.0

      module _ (n s c : ℕ) (best : Option Piece) (a : Looked n s best) (below : c < p.desk.count) (next : take (n + 1) (drop place extent) ≡ take n (drop place extent) ++ c ∷ []) where
        leads_on : (t : ℕ) → Some t ≡ reached (get_or p.moves.now (s * p.desk.count + c) 0) → Leads t (take (n + 1) (drop place extent))
        leads_on t e = subst (Leads t) (sym next) (step_at _ _ _ _ _ ls m s c t (take n (drop place extent)) a.0 below (reached_some _ t e))

        pub on_below : (t : ℕ) → Some t ≡ reached (get_or p.moves.now (s * p.desk.count + c) 0) → t < 64
        on_below t e = below_at _ _ _ _ _ ls m (p.built built) t (take (n + 1) (drop place extent)) (leads_on t e)

        -- no line has a word there
        pub looked_same : (t : ℕ) → Some t ≡ reached (get_or p.moves.now (s * p.desk.count + c) 0) → get_or (accepts_of p.desk) t None ≡ None → Looked (n + 1) t best
        looked_same t e d = (leads_on t e, best_same ls extent place n best (none_at _ _ _ _ _ ls m (p.built built) t (take (n + 1) (drop place extent)) (leads_on t e) d) a.1)

        -- the line j does
        pub looked_more : (t j : ℕ) → Some t ≡ reached (get_or p.moves.now (s * p.desk.count + c) 0) → get_or (accepts_of p.desk) t None ≡ Some j
            → place + (n + 1) ≤ length extent → Looked (n + 1) t (Some (record { line = j; place = place; len = n + 1 }))
        looked_more t j e d h = (leads_on t e, best_more ls extent place n j (taken_at _ _ _ _ _ ls m (p.built built) t j (take (n + 1) (drop place extent)) (leads_on t e) d) h)

        -- no line has a longer word
        pub looked_lost : None ≡ reached (get_or p.moves.now (s * p.desk.count + c) 0) → Best ls extent place (length extent) best
        looked_lost e =
            best_lost ls extent place n c best next
            (λ β j l. lost_at _ _ _ _ _ ls m (p.built built) s c (take n (drop place extent)) β a.0 below (reached_none _ e) j l)
            a.1
