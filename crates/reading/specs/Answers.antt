-- What read and test answer. Assumes nothing.
use Rattle.std.specs.Prelude.{◌≡◌, ℕ, ◌+◌, ◌<◌, ◌≤◌, Bool, true, List, Ok, Err, Result}
use Rattle.meaning.specs.declared.Piece.{Piece}
use Rattle.meaning.specs.Runs.{Answer, listed, unread}
use Rattle.meaning.specs.Tests.{Verdict, word, declined}
use Rattle.reading.specs.declared.cutting.Why.{Why}
use Rattle.reading.specs.declared.cutting.Why.TheVariants.{End, NoPiece, ListFull, TurnedAway}
use Rattle.sheet.specs.declared.refusal.Refusal.{Refusal}
use Rattle.sheet.specs.declared.refusal.Refusal.TheVariants.{NoSuchLine, TooFewCodeCells}
use Rattle.sheet.specs.Refusals.{reported}
use Rattle.plate.specs.declared.desk.Desk.{Desk}
use Rattle.plate.specs.Desks.{is_built}
use Rattle.plate.specs.Cells.{Unready}

-- why a read or a play ended, as a number
abbrev pub why_number : Why → ℕ
why_number End = 0
why_number NoPiece = 1
why_number ListFull = 2
why_number TurnedAway = 3

-- what a read answers: the list as it leaves it, with what it tells, or with the refusal
abbrev pub read_answer : List Piece → Result (ℕ × ℕ × Why) Refusal → Answer
read_answer list (Ok a) = listed list a.0 a.1 (why_number a.2)
read_answer list (Err f) = unread list (reported f)

-- what a test answers
abbrev pub test_answer : Result Bool Refusal → Verdict
test_answer (Ok b) = word b
test_answer (Err f) = declined (reported f)

-- a plate that is ready for an extent of `len` symbols
pub record Ready (count : ℕ) (desk : Desk) (len : ℕ) : Type 0 where
  pub open_for : desk.count ≡ count
  pub built : is_built desk ≡ true
  pub short : len ≤ 32768

-- why a test is refused, in the order of its checks: as a read is, then for its line, then for its code cells
pub data Untested (count : ℕ) (desk : Desk) (len line cells : ℕ) : Refusal → Type 0 where
  unready : {f : Refusal} → Unready count desk len f → Untested count desk len line cells f
  no_line : Ready count desk len → desk.standing ≤ line → Untested count desk len line cells NoSuchLine
  few_cells : Ready count desk len → line < desk.standing → cells < len + 2 → Untested count desk len line cells TooFewCodeCells
