-- The lowest position of a mask, and the mask without it. Assumes nothing.
use Rattle.std.proofs.Common.{◌≡◌, ℕ, suc, ◌+◌, ◌-◌, ◌*◌, ◌/◌, ◌%◌, ◌^◌, ◌<◌, ◌≤◌, true, eqb, sym, ap, ◌∙◌, subst, inl, inr, add-zero, mul_assoc, add-mul, pow-suc, div-add-mod', mod-lt, arith, pow_pos}
use native.Mathlib.Nat.{mod_self}
use lib.Bits.{bit_and, bit_or, and_block, and_mask, and_self, or_shifted}
use lib.Count.{count_trailing_zeros}
use lib.Pow.{pow-lt}
use Rattle.std.specs.Int.{w64, bit_at}
use Rattle.std.proofs.lemmas.Bool.{cases_lt, eq-eqb, eqb-true}
use Rattle.std.proofs.lemmas.Nat.Bits.{bit_at-zero, bit_at-trailing_zeros, bit_at_cat_low, same_from_bits_below}
use Rattle.meaning.specs.Positions.{has}
use Rattle.positions.specs.Taking.{TakenOut}

-- the trailing zeros of a mask that has a position end at its lowest one
pub lowest_position : (n p : ℕ) → n < 2 ^ 64 → 1 ≤ p → has n p ≡ true → (count_trailing_zeros 64 n + 1 ≤ p) × (has n (count_trailing_zeros 64 n + 1) ≡ true)
lowest_position n p word h e =
    let here : bit_at n (p - 1) ≡ 1 = eqb-true _ 1 e in
    let none : n ≡ 0 → bit_at n (p - 1) ≡ 0 = λ z. ap (λ x. bit_at x (p - 1)) z ∙ bit_at-zero (p - 1) in
    let some : (n ≡ 0 → ⊥) = λ z. let x = none z in omega arith in
    let (l, s, below) = bit_at-trailing_zeros w64 n (omega arith) word in (
      elim (cases_lt (p - 1) (count_trailing_zeros 64 n)) [ inl k ↦ let x = below (p - 1) k in absurd (omega arith) | inr k ↦ omega arith ],
      eq-eqb _ 1 (subst (λ j. bit_at n j ≡ 1) (omega arith) s),
    )

-- a number whose lowest bit is t
odd_times : (n t : ℕ) → bit_at n t ≡ 1 → ((i : ℕ) → i < t → bit_at n i ≡ 0) → n ≡ n / 2 ^ t / 2 * 2 ^ suc t + 2 ^ t
odd_times n t s below =
    sym parts ∙ ap (λ x. n / 2 ^ t * 2 ^ t + x) none ∙ add-zero _ ∙ ap (λ x. x * 2 ^ t) odd ∙ add-mul (m * 2) 1 (2 ^ t)
    ∙ ap (λ x. x + 1 * 2 ^ t) (mul_assoc m 2 (2 ^ t)) ∙ omega (arith, ap (λ x. m * x) twice)
  where
    m : ℕ
    m = n / 2 ^ t / 2

    parts : n / 2 ^ t * 2 ^ t + n % 2 ^ t ≡ n
    parts = div-add-mod' n (2 ^ t)

    odd : n / 2 ^ t ≡ m * 2 + 1
    odd = sym (div-add-mod' (n / 2 ^ t) 2) ∙ ap (λ x. m * 2 + x) s

    none : n % 2 ^ t ≡ 0
    none = same_from_bits_below t (n % 2 ^ t) 0 (mod-lt n (pow_pos t)) (pow_pos t)
        (λ i l. sym (bit_at_cat_low (n / 2 ^ t) t (n % 2 ^ t) i l) ∙ ap (λ x. bit_at x i) parts ∙ below i l ∙ sym (bit_at-zero i))

    twice : 2 * 2 ^ t ≡ 2 ^ suc t
    twice = omega (arith, pow-suc 2 t)

-- without that bit it is an even multiple
odd_less : (m t : ℕ) → let n = m * 2 ^ suc t + 2 ^ t in (n ≡ bit_or (bit_and n (n - 1)) (2 ^ t)) × (bit_and n (n - 1) < n)
odd_less m t = (
  sym (ap (λ x. bit_or x (2 ^ t)) rest ∙ or_shifted m (suc t) (2 ^ t) low),
  subst (λ x. x < m * 2 ^ suc t + 2 ^ t) (sym rest) (omega (arith, pow_pos t)),
)
  where
    low : 2 ^ t < 2 ^ suc t
    low = pow-lt {i = t} {j = suc t} (omega arith)

    rest : bit_and (m * 2 ^ suc t + 2 ^ t) (m * 2 ^ suc t + 2 ^ t - 1) ≡ m * 2 ^ suc t
    rest =
        let p = pow_pos t in
        ap (bit_and (m * 2 ^ suc t + 2 ^ t)) (omega arith) ∙ and_block (suc t) m m (2 ^ t) (2 ^ t - 1) low (omega (arith, low))
        ∙ ap (λ x. x * 2 ^ suc t + bit_and (2 ^ t) (2 ^ t - 1)) (and_self m)
        ∙ ap (λ x. m * 2 ^ suc t + x) (and_mask (2 ^ t) t ∙ mod_self (2 ^ t)) ∙ add-zero (m * 2 ^ suc t)

-- the trailing zeros of a mask that is not empty are its lowest bit, and `n & (n - 1)` is without it
pub lowest_out : (n : ℕ) → n < 2 ^ 64 → (n ≡ 0 → ⊥) → TakenOut n (count_trailing_zeros 64 n) (bit_and n (n - 1))
lowest_out n word some =
    let t : ℕ = count_trailing_zeros 64 n in
    let (l, s, below) = bit_at-trailing_zeros w64 n (omega arith) word in
    let (e, f) = subst (λ x. (x ≡ bit_or (bit_and x (x - 1)) (2 ^ t)) × (bit_and x (x - 1) < x)) (sym (odd_times n t s below)) (odd_less (n / 2 ^ t / 2) t) in
    record { low = l; lowest = λ q h k. ap (λ x. eqb x 1) (below (q - 1) (omega arith)); whole = e; less = f }
