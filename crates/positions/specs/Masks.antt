-- The symbols and position sets of a line as arrays of numbers, with position p at place p - 1 and at bit p - 1. Assumes nothing.
use Rattle.std.specs.Prelude.{◌≡◌, ℕ, ◌+◌, ◌-◌, ◌<◌, ◌≤◌, Bool, true, ◌↔◌, List, length, take, bit_or, slice_index, slice_index_or}
use Rattle.meaning.specs.declared.Symbol.{Symbol}
use Rattle.positions.specs.Ranges.{Shared}
use Rattle.positions.specs.declared.symbols.Symbols.{Symbols}
use Rattle.meaning.specs.Bounds.{most_symbols, most_classes}
use Rattle.meaning.specs.Words.{Line}
use Rattle.meaning.specs.Positions.{has, given, holds, no_symbol, line_symbols, first_set, follow_set, nullable, firstpos, lastpos, followpos}

-- what a table of sets has for the position p
abbrev pub at : List ℕ → ℕ → ℕ
at table p = slice_index table (p - 1)

-- p is a position, the end mark included
abbrev pub Position : ℕ → Type 0
Position p = (1 ≤ p) × (p ≤ most_symbols + 1)

-- `after` is `before` with the positions of `next` behind those of `last`
abbrev pub Linked : List ℕ → ℕ → ℕ → List ℕ → Type 0
Linked before last next after = (p : ℕ) → Position p → at after p ≡ bit_or (at before p) (given (has last p) next)

-- q is in the union of what `table` has for the positions of `set`
abbrev pub InUnion : List ℕ → ℕ → ℕ → Type 0
InUnion table set q = (p : ℕ) × Position p × (has set p ≡ true) × (has (at table p) q ≡ true)

-- `r` is that union
abbrev pub Union : List ℕ → ℕ → ℕ → Type 0
Union table set r = (q : ℕ) → 1 ≤ q → (has r q ≡ true → InUnion table set q) × (InUnion table set q → has r q ≡ true)

-- the symbols that are held
abbrev pub held : Symbols → List Symbol
held s = take s.len s.array

-- what stands at the position p among symbols
abbrev pub nth : List Symbol → ℕ → Symbol
nth symbols p = slice_index_or symbols (p - 1) no_symbol

-- `set` has the positions of symbols whose range has a class from `low` to `high`
abbrev pub Overlapping : List Symbol → ℕ → ℕ → ℕ → Type 0
Overlapping symbols low high set = (p : ℕ) → 1 ≤ p → (has set p ≡ true) ↔ ((p ≤ length symbols) × Shared low high (nth symbols p))

-- for each class, the positions of symbols whose range holds it
abbrev pub ClassMasks : List Symbol → List ℕ → Type 0
ClassMasks symbols masks = (c p : ℕ) → c < most_classes → 1 ≤ p → (has (slice_index masks c) p ≡ true) ↔ ((p ≤ length symbols) × (holds (nth symbols p) c ≡ true))

-- what was read of a line's expression: its symbols, and its sets without the end mark
pub record ExpressionSets (l : Line) (symbols : List Symbol) (follow : List ℕ) (empty : Bool) (first last : ℕ) : Type 0 where
  pub symbols_are : symbols ≡ line_symbols l
  pub follow_is : (p : ℕ) → Position p → at follow p ≡ followpos l.expr 0 p
  pub empty_is : empty ≡ nullable l.expr
  pub first_is : first ≡ firstpos l.expr 0
  pub last_is : last ≡ lastpos l.expr 0

-- a line's symbols and its sets, with the end mark
pub record LineSets (l : Line) (symbols : List Symbol) (first : ℕ) (follow : List ℕ) : Type 0 where
  pub symbols_are : symbols ≡ line_symbols l
  pub first_is : first ≡ first_set l
  pub follow_is : (p : ℕ) → Position p → at follow p ≡ follow_set l p
