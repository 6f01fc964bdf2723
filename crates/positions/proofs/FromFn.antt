-- An array made by a closure that no call changes. Assumes nothing.
use Rattle.std.proofs.Common.{◌≡◌, ℕ, zero, suc, ◌+◌, ◌<◌, ◌≤◌, List, get_or, sym, refl, subst, inl, inr, arith}
use Rattle.std.proofs.lemmas.Bool.{cases_eq}
use Rattle.std.specs.Array.{IsFromFnResult, IsFromFnResultFrom}
use denote.Param.Members.{Mut, Called}

module _ {F B : Type 0} (g : Mut F (ℕ × Unit {0}) B) (P : ℕ → B → Type 0) (f : F) (n : ℕ)
    (step : (i : ℕ) (y : B) (f' : F) → i < n → Called g f (i, tt) y f' → P i y × (f' ≡ f)) (ys : List B) where
  made_from : (i m k : ℕ) (h : F) → h ≡ f → IsFromFnResultFrom g h ys i m → i + m ≤ n → i ≤ k → k < i + m → (d : B) → P k (get_or ys k d)
  made_from i zero k h s c l a b d = absurd (omega arith)
  made_from i (suc m) k h s (q, y, e, call, rest) l a b d =
      let (p, t) = step i y q (omega arith) (subst (λ x. Called g x (i, tt) y q) s call) in
      elim (cases_eq k i) [
        | inl x ↦ subst (λ j. P j (get_or ys j d)) (sym x) (subst (P i) (sym (e.1 d)) p)
        | inr x ↦ made_from (i + 1) m k q t rest (omega arith) (omega arith) (omega arith) d
      ]

  -- what holds of each call's result holds of each element
  pub made_each : IsFromFnResult g f ys n → (k : ℕ) → k < n → (d : B) → P k (get_or ys k d)
  made_each c k l d = made_from 0 n k f refl c.each (omega arith) (omega arith) (omega arith) d
