-- The lines that the texts of the cases write, and words of them. Assumes nothing.
use Rattle.std.proofs.Common.{ℕ, T, leb, [], ◌∷◌, refl, lit≤}
use Rattle.meaning.specs.Words.{Expr, sym, none, star, seq, alt, one, more, Line, Pair, Of}

abbrev on : (low high code : ℕ) → Expr
on low high code = sym (record { low = low; high = high; code = code })

-- the class c, then the class d
abbrev two : (c code d code' : ℕ) → Expr
two c code d code' = seq (more (on c c code) (one (on d d code')))

abbrev plain : Expr → Line
plain e = record { open_code = 0; close_code = 0; expr = e }

abbrev pub no_symbols : Line
no_symbols = plain none

-- with the code n on the `0` of the last way
abbrev pub three_ways : ℕ → Line
three_ways n = plain (alt (more (two 48 1 49 2) (more (two 48 1 50 3) (one (two 48 n 51 5)))))

abbrev pub two_ways : Line
two_ways = plain (alt (more (two 48 1 49 2) (one (two 48 1 50 3))))

abbrev pub third_way : Line
third_way = plain (two 48 4 51 5)

-- with the code n on the last b
abbrev pub abb : ℕ → Line
abb n = record {
  open_code = 7;
  close_code = 7;
  expr = seq (more (star (alt (more (on 97 97 7) (one (on 98 98 7))))) (more (on 97 97 7) (more (on 98 98 7) (one (on 98 98 n)))));
}

abbrev pub ranges : Line
ranges = plain (alt (more (on 48 57 1) (one (on 57 60 2))))

abbrev digit : Expr
digit = on 48 57 32

abbrev pub numeral : Line
numeral = record { open_code = 16; close_code = 0; expr = seq (more digit (one (star digit))) }

-- a pair of a word
abbrev pair : (class code : ℕ) → Pair
pair class code = record { class = class; code = code }

of_on : (low high code c : ℕ) → T (leb low c) → T (leb c high) → Of (on low high code) (pair c code ∷ [])
of_on low high code c h k = (c, lit≤ h, lit≤ k, refl)

of_digit : (c : ℕ) → T (leb 48 c) → T (leb c 57) → Of digit (pair c 32 ∷ [])
of_digit = of_on 48 57 32

pub word_03 : Of third_way.expr (pair 48 4 ∷ pair 51 5 ∷ [])
word_03 = (_, _, of_on 48 48 4 48 tt tt, of_on 51 51 5 51 tt tt, refl)

pub word_25 : Of numeral.expr (pair 50 32 ∷ pair 53 32 ∷ [])
word_25 = (_, _, of_digit 50 tt tt, (_ ∷ [], (of_digit 53 tt tt, tt), refl), refl)

pub word_250 : Of numeral.expr (pair 50 32 ∷ pair 53 32 ∷ pair 48 32 ∷ [])
word_250 = (_, _, of_digit 50 tt tt, (_ ∷ _ ∷ [], (of_digit 53 tt tt, (of_digit 48 tt tt, tt)), refl), refl)
