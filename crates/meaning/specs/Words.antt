-- What a line of a sheet means: its words, their codes, and when a line clashes. Assumes nothing.
use Rattle.std.specs.Prelude.{◌≡◌, ℕ, ◌+◌, ◌<◌, ◌≤◌, ◌⊎◌, List, [], ◌∷◌, ◌++◌, map, length, take, slice_index}
use Rattle.meaning.specs.declared.Symbol.{Symbol}

mutual
  -- an expression: a symbol, nothing, a star, a sequence or a choice
  pub data Expr : Type 0 where
    sym : Symbol → Expr
    none : Expr
    star : Expr → Expr
    seq : Forms → Expr
    alt : Forms → Expr

  -- one expression or more
  pub data Forms : Type 0 where
    one : Expr → Forms
    more : Expr → Forms → Forms

-- a class, and the code that goes with it
pub record Pair : Type 0 where
  pub class : ℕ
  pub code : ℕ

-- a word: its pairs in order
abbrev pub Word : Type 0
Word = List Pair

-- words joined in order
abbrev pub all_joined : List Word → Word
all_joined [] = []
all_joined (w ∷ ws) = w ++ all_joined ws

-- P holds of every element
abbrev pub Each : {A : Type 0} → (A → Type 0) → List A → Type 0
Each P [] = Unit {0}
Each P (x ∷ xs) = P x × Each P xs

-- the words of an expression: `w` is one of them
abbrev mutual
  pub Of : Expr → Word → Type 0
  Of (sym s) w = (c : ℕ) × (s.low ≤ c) × (c ≤ s.high) × (w ≡ record { class = c; code = s.code } ∷ [])
  Of none w = w ≡ []
  Of (star e) w = (ws : List Word) × Each (Of e) ws × (w ≡ all_joined ws)
  Of (seq es) w = OfSeq es w
  Of (alt es) w = OfAlt es w

  -- a word of each form, joined in order
  pub OfSeq : Forms → Word → Type 0
  OfSeq (one e) w = Of e w
  OfSeq (more e es) w = (u : Word) × (v : Word) × Of e u × OfSeq es v × (w ≡ u ++ v)

  -- a word of some form
  pub OfAlt : Forms → Word → Type 0
  OfAlt (one e) w = Of e w
  OfAlt (more e es) w = Of e w ⊎ OfAlt es w

-- a line: its first and last codes, and its expression
pub record Line : Type 0 where
  pub open_code : ℕ
  pub close_code : ℕ
  pub expr : Expr

-- the classes of a word
abbrev pub classes : Word → List ℕ
classes w = map (λ p. p.class) w

-- the codes of a word of a line: the first code, those of its pairs, the last code
abbrev pub line_codes : Line → Word → List ℕ
line_codes l w = l.open_code ∷ (map (λ p. p.code) w ++ l.close_code ∷ [])

-- β are the codes of a word of the line whose classes are α
abbrev pub Translates : Line → List ℕ → List ℕ → Type 0
Translates l α β = (w : Word) × Of l.expr w × (classes w ≡ α) × (line_codes l w ≡ β)

-- two words of one expression agree in their classes through a place, and differ in the code there
pub record Clash (e : Expr) : Type 0 where
  pub left : Word
  pub right : Word
  pub left_of : Of e left
  pub right_of : Of e right
  pub place : ℕ
  pub in_left : place < length left
  pub in_right : place < length right
  pub agree : take (place + 1) (classes left) ≡ take (place + 1) (classes right)
  pub differ : slice_index (map (λ p. p.code) left) place ≡ slice_index (map (λ p. p.code) right) place → ⊥
