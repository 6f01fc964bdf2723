-- Ranges of classes. Assumes nothing.
use Rattle.std.specs.Prelude.{◌≡◌, ℕ, ◌<◌, ◌≤◌, true, List, bit_or, slice_index}
use Rattle.meaning.specs.declared.Symbol.{Symbol}
use Rattle.meaning.specs.Bounds.{most_classes}
use Rattle.meaning.specs.Positions.{holds, given}

-- some class from `low` to `high` lies in the symbol's range
abbrev pub Shared : ℕ → ℕ → Symbol → Type 0
Shared low high s = (c : ℕ) × (low ≤ c) × (c ≤ high) × (holds s c ≡ true)

-- `after` is `before` with the positions of `set` at each class in the symbol's range
abbrev pub RangeMarked : Symbol → ℕ → List ℕ → List ℕ → Type 0
RangeMarked s set before after = (c : ℕ) → c < most_classes → slice_index after c ≡ bit_or (slice_index before c) (given (holds s c) set)
