-- How the plate of a run is opened.
use Rattle.std.proofs.Common.{◌≡◌, ℕ, ◌*◌, ◌≤◌, ◌⊎◌, List, length, sym, ap, subst, inl, inr, ⊎_elim, arith}
use Rattle.std.proofs.lemmas.Bool.{cases_lt}
use Rattle.meaning.specs.Runs.{Plate, shut, open_for, Room, Opens, opens, stays_shut, cleared}
use Rattle.runs.specs.Asking.{plate_of}
use Rattle.runs.proofs.Making.{open_at}

-- whether the memories have the cells
room_or_not : (count : ℕ) (moves sets : List ℕ) → Room count moves sets ⊎ (Room count moves sets → ⊥)
room_or_not count moves sets =
    ⊎_elim (λ h. inr (λ r. omega (arith, r.0, h)))
    (λ h. ⊎_elim (λ k. inr (λ r. omega (arith, r.1, k))) (λ k. inl (h, k)) (cases_lt (length sets) 512))
    (cases_lt (length moves) (64 * count))

-- equal plates and cells are opened as well
opens_same : (count : ℕ) (moves sets : List ℕ) (plate plate' : Plate) (m m' s s' : List ℕ) → plate' ≡ plate → m' ≡ m → s' ≡ s → Opens count moves sets plate m s → Opens count moves sets plate' m' s'
opens_same count moves sets plate plate' m m' s s' p e f h =
    subst (λ x. Opens count moves sets x m' s') (sym p) (subst (λ x. Opens count moves sets plate x s') (sym e) (subst (λ x. Opens count moves sets plate m x) (sym f) h))

-- by the count that the desk has then
pub opening : (count n : ℕ) (moves sets zero_moves zero_sets : List ℕ) → 1 ≤ count
    → (Room count moves sets → (n ≡ count) × (zero_moves ≡ cleared moves (64 * count)) × (zero_sets ≡ cleared sets 512))
    → ((Room count moves sets → ⊥) → (n ≡ 0) × (zero_moves ≡ moves) × (zero_sets ≡ sets))
    → Opens count moves sets (plate_of n) zero_moves zero_sets
opening count n moves sets zero_moves zero_sets some room no_room =
    ⊎_elim
    (λ r. let (e, m, s) = room r in opens_same count moves sets (open_for count) (plate_of n) _ zero_moves _ zero_sets (open_at n count some e) m s (opens r))
    (λ r. let (e, m, s) = no_room r in opens_same count moves sets shut (plate_of n) _ zero_moves _ zero_sets (ap plate_of e) m s (stays_shut r))
    (room_or_not count moves sets)
