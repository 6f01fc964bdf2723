-- Cells that are written from the first on: those below k are new, and the others as they were. Assumes nothing.
use Rattle.std.proofs.Common.{◌≡◌, ℕ, ◌+◌, ◌<◌, ◌≤◌, ◌≢◌, List, length, get_or, set, ◌∙◌, inl, inr, arith, get_or-set_other}
use Rattle.std.proofs.lemmas.List.{ext_get_or}
use Rattle.std.proofs.lemmas.List.Edits.{fill_by_more}
use Rattle.std.proofs.lemmas.Bool.{cases_lt}
use Rattle.plate.specs.Cells.{Turned}

module _ (f : ℕ → ℕ) (old : List ℕ) where
  pub turned_more : (xs : List ℕ) (k v : ℕ) → k < length xs → v ≡ f k → Turned k xs f old → Turned (k + 1) (set xs k v) f old
  turned_more xs k v h e t = (
    rw e (fill_by_more f xs k 0 h t.0),
    λ j i. let ne : j ≢ k = omega arith in get_or-set_other xs k j v 0 ne ∙ t.1 j (omega arith),
  )

  -- all that differs is written
  pub turned_all : (xs ys : List ℕ) (n : ℕ) → length xs ≡ length ys → ((j : ℕ) → f j ≡ get_or ys j 0) → ((j : ℕ) → n ≤ j → get_or old j 0 ≡ get_or ys j 0) → Turned n xs f old → xs ≡ ys
  turned_all xs ys n e is rest t = ext_get_or 0 xs ys e (λ j h. elim (cases_lt j n) [
    | inl i ↦ t.0 j i ∙ is j
    | inr i ↦ t.1 j i ∙ rest j i
  ])
