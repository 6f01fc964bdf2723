-- The positions of two sets that are in both. Assumes nothing.
use Rattle.std.proofs.Common.{◌≡◌, ℕ, ◌-◌, true, arith}
use lib.Bits.{bit_and}
use Rattle.std.proofs.lemmas.Bool.{eq-eqb, eqb-true}
use Rattle.std.proofs.lemmas.Nat.Bits.{bit_at_and, bit_at-lt}
use Rattle.meaning.specs.Positions.{has}

-- a position of both sets
pub in_and : (a b p : ℕ) → has (bit_and a b) p ≡ true → (has a p ≡ true) × (has b p ≡ true)
in_and a b p h =
    let both = bit_at_and a b (p - 1) in
    let m = bit_at-lt a (p - 1) in
    let n = bit_at-lt b (p - 1) in
    let e = eqb-true _ 1 h in
    (eq-eqb _ 1 (omega arith), eq-eqb _ 1 (omega arith))

pub and_in : (a b p : ℕ) → has a p ≡ true → has b p ≡ true → has (bit_and a b) p ≡ true
and_in a b p h k =
    let both = bit_at_and a b (p - 1) in
    let d = eqb-true _ 1 h in
    let e = eqb-true _ 1 k in
    eq-eqb _ 1 (omega arith)
