-- Twelve worked cases over bytes, each said of the texts of its lines, and what they rule out. Assumes nothing.
use Rattle.std.specs.Prelude.{◌≡◌, ℕ, ◌-◌, ◌^◌, ◌≤◌, List, [], ◌∷◌, length, replicate, codes as ascii, bit_or}
use Rattle.meaning.specs.declared.Piece.{Piece}
use Rattle.meaning.specs.Bounds.{no_mark}
use Rattle.meaning.specs.Alphabets.{byte_count}
use Rattle.meaning.specs.Words.{Line, Each, Translates}
use Rattle.meaning.specs.Positions.{end_mark, follow_set}
use Rattle.meaning.specs.States.{State, States}
use Rattle.meaning.specs.Pieces.{Nth, Reading}
use Rattle.meaning.specs.Doers.{Given, Gives, tape_rule, tape_first, slip_rule, slip_first}
use Rattle.meaning.specs.Runs.{Refusal, Mean, TextRefused, TextAccepted, Plays}

-- the line of the empty word alone
abbrev pub no_symbols : List ℕ
no_symbols = ascii "(rule 0 0 (none))"

-- `01`, `02` or `03`, with the codes 1, 1 and 4 on the `0`
abbrev pub three_ways : List ℕ
three_ways = ascii "(rule 0 0 (alt (seq (sym 48 48 1) (sym 49 49 2)) (seq (sym 48 48 1) (sym 50 50 3)) (seq (sym 48 48 4) (sym 51 51 5))))"

-- the three ways, with the code 1 on each `0`
abbrev pub even_ways : List ℕ
even_ways = ascii "(rule 0 0 (alt (seq (sym 48 48 1) (sym 49 49 2)) (seq (sym 48 48 1) (sym 50 50 3)) (seq (sym 48 48 1) (sym 51 51 5))))"

-- the first two of the three ways
abbrev pub two_ways : List ℕ
two_ways = ascii "(rule 0 0 (alt (seq (sym 48 48 1) (sym 49 49 2)) (seq (sym 48 48 1) (sym 50 50 3))))"

-- the third of the three ways
abbrev pub third_way : List ℕ
third_way = ascii "(rule 0 0 (seq (sym 48 48 4) (sym 51 51 5)))"

-- (a|b)*abb, with the code 7 everywhere
abbrev pub abb : List ℕ
abb = ascii "(rule 7 7 (seq (star (alt (sym 97 97 7) (sym 98 98 7))) (sym 97 97 7) (sym 98 98 7) (sym 98 98 7)))"

-- (a|b)*abb, with the code 8 on the last b
abbrev pub uneven_abb : List ℕ
uneven_abb = ascii "(rule 7 7 (seq (star (alt (sym 97 97 7) (sym 98 98 7))) (sym 97 97 7) (sym 98 98 7) (sym 98 98 8)))"

-- two ranges, with the class 57 in both
abbrev pub ranges : List ℕ
ranges = ascii "(rule 0 0 (alt (sym 48 57 1) (sym 57 60 2)))"

-- a number in decimal, for register 0 of an order slip
abbrev pub numeral : List ℕ
numeral = ascii "(rule 16 0 (seq (sym 48 57 32) (star (sym 48 57 32))))"

-- the texts are accepted, and P holds of the lines that they write
abbrev pub Standing : List (List ℕ) → (List Line → Type 0) → Type 0
Standing ts P = (ls : List Line) × Each (TextAccepted byte_count) ts × Mean ts ls × P ls

-- the lines have n states
abbrev pub Count : List Line → ℕ → Type 0
Count ls n = (all : List State) × States byte_count ls all × (length all ≡ n)

-- a read into any list with room for the pieces lists them, and ends at a place for a reason
abbrev pub Lists : List Line → (extent : List ℕ) → List Piece → (place why : ℕ) → Type 0
Lists ls extent ps place why = (room : ℕ) → length ps ≤ room → Reading ls extent room ps place why

-- the line k translates the classes α to the codes β, and to no others
abbrev pub Codes : List Line → ℕ → (α β : List ℕ) → Type 0
Codes ls k α β = (l : Line) × Nth ls k l × Translates l α β × ((γ : List ℕ) → Translates l α γ → γ ≡ β)

-- refusal 6, with two positions
abbrev pub clash_at : (p q : ℕ) → Refusal
clash_at p q = record { number = 6; layer = 2; one = p; two = q }

-- the set of the positions listed
abbrev pub set_of : List ℕ → ℕ
set_of [] = 0
set_of (p ∷ ps) = bit_or (2 ^ (p - 1)) (set_of ps)

-- the follow sets of (a|b)*abb; 6 is the end mark
pub record AbbSets (l : Line) : Type 0 where
  pub after_1 : follow_set l 1 ≡ set_of (1 ∷ 2 ∷ 3 ∷ [])
  pub after_2 : follow_set l 2 ≡ set_of (1 ∷ 2 ∷ 3 ∷ [])
  pub after_3 : follow_set l 3 ≡ set_of (4 ∷ [])
  pub after_4 : follow_set l 4 ≡ set_of (5 ∷ [])
  pub after_5 : follow_set l 5 ≡ set_of (6 ∷ [])
  pub end : end_mark l ≡ 6

-- a piece, by the number of its line, its place and its length
abbrev pub piece : (line place len : ℕ) → Piece
piece line place len = record { line = line; place = place; len = len }

-- a code and its mark
abbrev pub give : (code mark : ℕ) → Given
give code mark = record { code = code; mark = mark }

-- the twelve cases
pub record Worked : Type 0 where
  -- 1: the line of the empty word alone has 1 state, and a read of `a` answers 0, 0, 1
  pub empty_word : Standing (no_symbols ∷ []) (λ ls. Count ls 1 × Lists ls (ascii "a") [] 0 1)
  -- 2: a read of an empty extent answers 0, 0, 0, whatever stands
  pub empty_extent : (ls : List Line) → Lists ls [] [] 0 0
  -- 3: a line with the codes 1, 1 and 4 on three ways out of `0` is refused 6 with 1 and 5
  pub two_codes : TextRefused byte_count three_ways (clash_at 1 5)
  -- 4: with the code 1 on every way the line is accepted
  pub one_code : TextAccepted byte_count even_ways
  -- 5: the first two ways of 3 as one line and the third as another are accepted, and have 4 states
  pub two_lines : Standing (two_ways ∷ third_way ∷ []) (λ ls. Count ls 4)
  -- 6: `03` is then a piece of line 1, with the codes 0 4 5 0
  pub second_line : Standing (two_ways ∷ third_way ∷ []) (λ ls.
      Lists ls (ascii "03") (piece 1 0 2 ∷ []) 2 0
      × Codes ls 1 (ascii "03") (0 ∷ 4 ∷ 5 ∷ 0 ∷ [])
      × Gives ls 1 (ascii "03") (give 0 no_mark ∷ give 4 48 ∷ give 5 51 ∷ give 0 no_mark ∷ []))
  -- 7: (a|b)*abb has the follow sets {1,2,3}, {1,2,3}, {4}, {5}, {6}, and 4 states
  pub follow_sets : Standing (abb ∷ []) (λ ls. ((l : Line) × Nth ls 0 l × AbbSets l) × Count ls 4)
  -- 8: a read of `abbab` lists one piece of 3, to the place 3, why 1
  pub one_piece : Standing (abb ∷ []) (λ ls. Lists ls (ascii "abbab") (piece 0 0 3 ∷ []) 3 1)
  -- 9: (a|b)*abb with the code 8 on its last b is refused 6 with 2 and 5
  pub late_clash : TextRefused byte_count uneven_abb (clash_at 2 5)
  -- 10: a line with two ranges that share a class is refused 6 with 1 and 2
  pub shared_class : TextRefused byte_count ranges (clash_at 1 2)
  -- 11: a play of `250` to a fresh slip answers 1, 3, 0, 0, and register 0 is then 250
  pub slip_filled : Standing (numeral ∷ []) (λ ls.
      Plays slip_rule ls (ascii "250") 0 slip_first (give 16 no_mark ∷ give 32 50 ∷ give 32 53 ∷ give 32 48 ∷ give 0 no_mark ∷ []) 1 3 0 0 (250 ∷ replicate 7 0))
  -- 12: a play of `25` to a tape of three cells answers 0, 0, 3, 3
  pub tape_full : Standing (numeral ∷ []) (λ ls.
      Plays tape_rule ls (ascii "25") 0 (tape_first 3) (give 16 no_mark ∷ give 32 50 ∷ give 32 53 ∷ []) 0 0 3 3 (record { room = 3; held = 16 ∷ 32 ∷ 32 ∷ [] }))

-- what the cases rule out, since every answer is one
pub record RuledOut : Type 0 where
  -- the line of 3 is not accepted
  pub no_refusal : TextAccepted byte_count three_ways → ⊥
  -- nor is it refused in another way
  pub other_refusal : (f : Refusal) → TextRefused byte_count three_ways f → f ≡ clash_at 1 5
  -- (a|b)*abb has no other number of states
  pub other_count : (n : ℕ) → Standing (abb ∷ []) (λ ls. Count ls n) → n ≡ 4
  -- no read of `abbab` into a list of one cell or more comes to its end
  pub to_the_end : (room : ℕ) (ps : List Piece) (why : ℕ) → 1 ≤ room → Standing (abb ∷ []) (λ ls. Reading ls (ascii "abbab") room ps 5 why) → ⊥
  -- no play of `250` to a fresh slip leaves another number in register 0
  pub other_number : (gs : List Given) (pieces stop codes why n : ℕ) (rest : List ℕ)
      → Standing (numeral ∷ []) (λ ls. Plays slip_rule ls (ascii "250") 0 slip_first gs pieces stop codes why (n ∷ rest)) → n ≡ 250
