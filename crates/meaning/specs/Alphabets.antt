-- The alphabets: how many classes they have, and the class of a byte and of a piece. Assumes nothing.
use Rattle.std.specs.Prelude.{ℕ, ◌+◌, ◌<◌, ◌≤◌, cond, List, map, nat_lt}
use Rattle.meaning.specs.Bounds.{most_lines, most_classes}
use Rattle.meaning.specs.declared.Piece.{Piece}

-- a count of classes that an alphabet may have
abbrev pub Counted : ℕ → Type 0
Counted count = (1 ≤ count) × (count ≤ most_classes)

-- an alphabet: a count from 1 to 256, and a class below it for each symbol
abbrev pub Classed : (A : Type 0) → ℕ → (A → ℕ) → Type 0
Classed A count class = Counted count × ((x : A) → class x < count)

-- the classes of an extent
abbrev pub seen : {A : Type 0} → (A → ℕ) → List A → List ℕ
seen class xs = map class xs

-- how many classes bytes have
abbrev pub byte_count : ℕ
byte_count = most_classes

-- how many classes pieces have: one for each line of a plate, and one for all higher numbers
abbrev pub piece_count : ℕ
piece_count = most_lines + 1

-- a byte is its own class
abbrev pub byte_class : ℕ → ℕ
byte_class b = b

-- the class of a piece is its line's number, or one more than the highest
abbrev pub piece_class : Piece → ℕ
piece_class p = cond (nat_lt p.line most_lines) p.line most_lines

-- the class of every piece is below the count of pieces
abbrev pub PieceBelow : Type 0
PieceBelow = (p : Piece) → piece_class p < piece_count

-- bytes and pieces are alphabets; a byte is a number below 256
pub record AlphabetLaw : Type 0 where
  pub bytes : Classed ((b : ℕ) × (b < 256)) byte_count (λ b. byte_class b.0)
  pub pieces : Classed Piece piece_count piece_class
