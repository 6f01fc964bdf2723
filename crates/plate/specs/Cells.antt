-- What the calls of a plate read and keep of its cells and its desk. Assumes nothing.
use Rattle.std.specs.Prelude.{◌≡◌, ℕ, zero, suc, ◌<◌, ◌≤◌, true, false, List, length, drop, Some, None, Option, ◌≢◌, slice_index}
use Rattle.sheet.specs.declared.refusal.Refusal.{Refusal}
use Rattle.sheet.specs.declared.refusal.Refusal.TheVariants.{NotOpen, NotBuilt, ExtentTooLong}
use Rattle.plate.specs.declared.desk.Desk.{Desk}
use Rattle.plate.specs.Desks.{is_built}

-- as many cells as before, and those from `used` on as they were
abbrev pub Beyond : (used : ℕ) → (before after : List ℕ) → Type 0
Beyond used before after = (length after ≡ length before) × (drop used after ≡ drop used before)

-- `after` has the values of f below k, and from k on what `before` has
abbrev pub Turned : (k : ℕ) → (after : List ℕ) → (f : ℕ → ℕ) → (before : List ℕ) → Type 0
Turned k after f before = ((j : ℕ) → j < k → slice_index after j ≡ f j) × ((j : ℕ) → k ≤ j → slice_index after j ≡ slice_index before j)

-- the table of lines, how many stand, and the count, as they were
abbrev pub SameLines : (before after : Desk) → Type 0
SameLines before after = (after.entries ≡ before.entries) × (after.standing ≡ before.standing) × (after.count ≡ before.count)

-- the state that a move cell has: none at 0, and else one less than the cell
abbrev pub reached : ℕ → Option ℕ
reached zero = None
reached (suc t) = Some t

-- why a call of the count `count` on an extent of `len` symbols is refused
pub data Unready (count : ℕ) (d : Desk) (len : ℕ) : Refusal → Type 0 where
  away : (d.count ≢ count) → Unready count d len NotOpen
  unbuilt : d.count ≡ count → is_built d ≡ false → Unready count d len NotBuilt
  long : d.count ≡ count → is_built d ≡ true → 32768 < len → Unready count d len ExtentTooLong
