-- Which positions meet, as tables of sets with position p at place p - 1 and at bit p - 1. Assumes nothing.
use Rattle.std.specs.Prelude.{◌≡◌, ℕ, ◌-◌, ◌^◌, ◌<◌, ◌≤◌, true, ◌⊎◌, ◌↔◌, List, length, replicate, sum_by}
use Rattle.meaning.specs.declared.Symbol.{Symbol}
use Rattle.meaning.specs.Positions.{has}
use Rattle.positions.specs.declared.meeting.Meetings.{Meetings}
use Rattle.positions.specs.Masks.{at, Position, nth}
use Rattle.positions.specs.Ranges.{Shared}

-- `set` has the positions of symbols whose ranges share a class with that of the position p, if p has a symbol
abbrev pub BesideAt : List Symbol → ℕ → ℕ → Type 0
BesideAt symbols p set = (q : ℕ) → 1 ≤ q → (has set q ≡ true) ↔ ((p ≤ length symbols) × (q ≤ length symbols) × Shared (nth symbols p).low (nth symbols p).high (nth symbols q))

-- the table has that set for each position
abbrev pub Beside : List Symbol → List ℕ → Type 0
Beside symbols table = (p : ℕ) → Position p → BesideAt symbols p (at table p)

-- p is a position of the set
abbrev pub Within : ℕ → ℕ → Type 0
Within set p = Position p × (has set p ≡ true)

-- the table has the position q for the position p
abbrev pub Has : List ℕ → ℕ → ℕ → Type 0
Has table p q = Position p × Position q × (has (at table p) q ≡ true)

-- the pairs of one position with those of a set
abbrev pub Row : ℕ → ℕ → ℕ → ℕ → Type 0
Row i set p q = (p ≡ i) × Within set q

-- the pairs of two sets that the table has
abbrev pub Block : ℕ → ℕ → List ℕ → ℕ → ℕ → Type 0
Block ps qs table p q = Within ps p × Within qs q × (has (at table p) q ≡ true)

-- how far the rows of a table are from the highest number, in all
abbrev pub missing : List ℕ → ℕ
missing table = sum_by (λ set. 2 ^ 64 - set) table

-- no meetings
pub record Nothing (m : Meetings) : Type 0 where
  pub known : m.known ≡ replicate 64 0
  pub rows : m.rows.0 ≡ 0

-- `after` knows the meetings of `before` and the pairs of `New`, and has the rows that grew beside those that `before` has; it is `before` or misses less
pub record Adds (New : ℕ → ℕ → Type 0) (before after : Meetings) : Type 0 where
  pub kept : (p q : ℕ) → Has before.known p q → Has after.known p q
  pub all : (p q : ℕ) → New p q → Has after.known p q
  pub only : (p q : ℕ) → Has after.known p q → Has before.known p q ⊎ New p q
  pub rows : (p : ℕ) → Within before.rows.0 p → Within after.rows.0 p
  pub grown : (p q : ℕ) → Has after.known p q → Has before.known p q ⊎ Within after.rows.0 p
  pub word : before.rows.0 < 2 ^ 64 → after.rows.0 < 2 ^ 64
  pub fewer : (after ≡ before) ⊎ (missing after.known < missing before.known)

-- the pairs that two sets lead to in step, where the table `beside` has them
pub data InPairs (first : ℕ) (follow beside : List ℕ) : ℕ → ℕ → Type 0 where
  first_pair : {p q : ℕ} → Block first first beside p q → InPairs first follow beside p q
  next_pair : {p q p' q' : ℕ} → InPairs first follow beside p q → Block (at follow p) (at follow q) beside p' q' → InPairs first follow beside p' q'

-- `known` has those pairs
abbrev pub AllMeetings : ℕ → List ℕ → List ℕ → List ℕ → Type 0
AllMeetings first follow beside known = (p q : ℕ) → Has known p q ↔ InPairs first follow beside p q
