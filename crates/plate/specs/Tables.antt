-- The table of a built plate: its states, their cells, and for each state the line that is taken there. Assumes nothing.
use Rattle.std.specs.Prelude.{◌≡◌, ℕ, ◌<◌, ◌≤◌, true, false, List, length, Some, None, Option, slice_index, slice_index_or}
use Rattle.meaning.specs.Bounds.{most_states}
use Rattle.meaning.specs.Words.{Line}
use Rattle.meaning.specs.Positions.{has, end_mark}
use Rattle.meaning.specs.States.{State, nowhere, States, Tables}
use Rattle.meaning.specs.Pieces.{Nth}
use Rattle.meaning.specs.Runs.{Mean}

-- no line before the k-th has its end mark in the state
abbrev pub NoneBefore : List Line → State → ℕ → Type 0
NoneBefore ls s k = (j : ℕ) (m : Line) → j < k → Nth ls j m → has (slice_index s j) (end_mark m) ≡ false

-- the earliest of the lines whose set in the state has its end mark, or none
abbrev pub Earliest : List Line → State → Option ℕ → Type 0
Earliest ls s None = NoneBefore ls s (length ls)
Earliest ls s (Some k) = ((l : Line) × Nth ls k l × (has (slice_index s k) (end_mark l) ≡ true)) × NoneBefore ls s k

-- the cells and the lines taken are those of the states of the lines that the texts write
pub record BuiltTable (count : ℕ) (texts : List (List ℕ)) (moves sets : List ℕ) (accepts : List (Option ℕ)) : Type 0 where
  pub lines : List Line
  pub mean : Mean texts lines
  pub some : 0 < length lines
  pub all : List State
  pub states : States count lines all
  pub few : length all ≤ most_states
  pub tables : Tables count lines all moves sets
  pub earliest : (s : ℕ) → s < length all → Earliest lines (slice_index_or all s nowhere) (slice_index_or accepts s None)
