-- The masks of a line's classes have the positions that fit. Assumes nothing.
use Rattle.std.proofs.Common.{◌≡◌, ℕ, ◌<◌, List, length, get_or, sym, ap, ◌∙◌, arith}
use lib.Bits.{bit_and}
use Rattle.meaning.specs.declared.Symbol.{Symbol}
use Rattle.meaning.specs.Words.{Line}
use Rattle.meaning.specs.Positions.{holds, line_symbols, symbol_at}
use Rattle.positions.specs.Masks.{nth, ClassMasks}
use Rattle.positions.specs.Of.{Fitting}
use Rattle.positions.proofs.Bits.{in_and, and_in}

module _ (l : Line) (symbols : List Symbol) (s : symbols ≡ line_symbols l) where
  pub symbol_is : (p : ℕ) → nth symbols p ≡ symbol_at l p
  symbol_is p = ap (λ ss. nth ss p) s

  pub length_is : length symbols ≡ length (line_symbols l)
  length_is = ap length s

  pub fitting : (masks : List ℕ) (set c : ℕ) → ClassMasks symbols masks → c < 256 → Fitting l set c (bit_and set (get_or masks c 0))
  fitting masks set c m below p h = (
    λ e.
        let (i, j) = in_and set (get_or masks c 0) p e in
        let (k, n) = (m c p below h).0 j in
        (i, (h, omega (arith, length_is), ap (λ x. holds x c) (sym (symbol_is p)) ∙ n)),
    λ (i, (o, k, n)). and_in set (get_or masks c 0) p i ((m c p below h).1 (omega (arith, length_is), ap (λ x. holds x c) (symbol_is p) ∙ n)),
  )
