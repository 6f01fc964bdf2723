-- A plate's table while it is filled: the states met so far, and the move cells of those that were gone through. Assumes nothing.
use Rattle.std.specs.Prelude.{◌≡◌, ℕ, ◌+◌, ◌*◌, ◌<◌, ◌≤◌, ◌⊎◌, List, [], ◌∷◌, ◌++◌, length, Some, None, Option, slice_index, slice_index_or}
use Rattle.meaning.specs.Bounds.{most_states, most_lines}
use Rattle.meaning.specs.Words.{Line}
use Rattle.meaning.specs.States.{State, nowhere, Among, Before, Numbers, LeadsTo, MoreThan64}
use Rattle.meaning.specs.Runs.{Mean}
use Rattle.plate.specs.Cells.{Beyond}
use Rattle.plate.specs.declared.numbering.Numbering.{Numbering}

-- the states met so far
abbrev pub met_of : Numbering → List State
met_of n = n.states.items

-- what a state's number is and what it leaves: the number it has, or the next one; none where all numbers are taken
abbrev pub Numbered : (before : List State) → State → Option ℕ → (after : List State) → Type 0
Numbered before s None after = (length before ≡ most_states) × (Among before (length before) s → ⊥) × (after ≡ before)
Numbered before s (Some t) after =
    ((t < length before) × (slice_index_or before t nowhere ≡ s) × (after ≡ before))
    ⊎ ((t ≡ length before) × (Among before (length before) s → ⊥) × (after ≡ before ++ s ∷ []))

-- the move cells hold the moves from each state and class before the state s and its class c, and 0 from there on
pub record Filling (count : ℕ) (ls : List Line) (all : List State) (moves : List ℕ) (s c : ℕ) : Type 0 where
  pub numbers : Numbers count ls all
  pub within : (s < length all) ⊎ ((s ≡ length all) × (c ≡ 0))
  pub cells : (i d : ℕ) → d < count → Before i d s c → LeadsTo ls all i d (slice_index moves (i * count + d))
  pub others : (i : ℕ) → s * count + c ≤ i → i < most_states * count → slice_index moves i ≡ 0

-- so it is for the lines that the texts write
abbrev pub Filled : (count : ℕ) → (texts : List (List ℕ)) → (all : List State) → (moves : List ℕ) → (s c : ℕ) → Type 0
Filled count texts all moves s c = (ls : List Line) → Mean texts ls → 0 < length ls → Filling count ls all moves s c

-- the lines that the texts write have more states than a plate has numbers for
abbrev pub TooMany : (count : ℕ) → (texts : List (List ℕ)) → Type 0
TooMany count texts = (ls : List Line) → Mean texts ls → 0 < length ls → MoreThan64 count ls

-- the set cells hold the sets of the first n states, eight cells for each, and those behind them what they held
pub record Laid (all : List State) (n : ℕ) (before after : List ℕ) : Type 0 where
  pub cells : (s k : ℕ) → s < n → k < most_lines → slice_index after (s * most_lines + k) ≡ slice_index (slice_index_or all s nowhere) k
  pub beyond : Beyond (n * most_lines) before after
