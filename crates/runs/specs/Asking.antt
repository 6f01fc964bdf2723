-- What the calls and the answers of a run stand for, and what one call does. Assumes nothing.
use Rattle.std.specs.Prelude.{◌≡◌, ℕ, zero, suc, min, List, [], ◌∷◌, Ok, Err, Result}
use Rattle.meaning.specs.declared.Piece.{Piece}
use Rattle.meaning.specs.Alphabets.{seen}
use Rattle.meaning.specs.Doers.{Given, Rule, Leads}
use Rattle.meaning.specs.Runs.{Call, take_line, strike_line, build_plate, read_extent, play_extent, Answer, numbered, listed, unread, played, Account, Plate, shut, open_for, Called}
use Rattle.meaning.specs.Asked.{Asked, ask_take, ask_strike, ask_build, ask_read, ask_play, gathered, Reply, no_for, number_of, read_to, played_to, told}
use Rattle.sheet.specs.declared.refusal.Refusal.{Refusal}
use Rattle.sheet.specs.Refusals.{reported}
use Rattle.reading.specs.Answers.{why_number}
use Rattle.runs.specs.declared.calling.Call.{Call as Asks}
use Rattle.runs.specs.declared.calling.Call.TheVariants.{Take, Strike, Build, Read as Reads, Play}
use Rattle.runs.specs.declared.calling.Reply.{Reply as Tells}
use Rattle.runs.specs.declared.calling.Reply.TheVariants.{Number, Read, Played}

-- what a call asks, its extent by the classes of its symbols
abbrev pub asked_of : {A : Type 0} → (classed : A → ℕ) → Asks A → Asked
asked_of classed (Take line) = ask_take line.now
asked_of classed Strike = ask_strike
asked_of classed Build = ask_build
asked_of classed (Reads extent room) = ask_read (seen classed extent.now) room
asked_of classed (Play extent) = ask_play (seen classed extent.now)

-- how many cells of the lists a call takes where `left` are left: a read those that it asks for, if there are as many
abbrev pub cells_of : {A : Type 0} → Asks A → (left : ℕ) → ℕ
cells_of (Take line) left = 0
cells_of Strike left = 0
cells_of Build left = 0
cells_of (Reads extent room) left = min room left
cells_of (Play extent) left = 0

-- what an answer tells, by numbers
abbrev pub reply_of : Result Tells Refusal → Reply
reply_of (Ok (Number n)) = number_of n
reply_of (Ok (Read pieces place why)) = read_to pieces place (why_number why)
reply_of (Ok (Played pieces place codes why)) = played_to pieces place codes (why_number why)
reply_of (Err f) = no_for (reported f)

-- what an answer tells of a read, with the list as the read leaves it
abbrev pub with_list : List Piece → Result Tells Refusal → Answer
with_list list (Ok (Number n)) = numbered n
with_list list (Ok (Read pieces place why)) = listed list pieces place (why_number why)
with_list list (Ok (Played pieces place codes why)) = played pieces place codes (why_number why)
with_list list (Err f) = unread list (reported f)

-- a plate, by the count that its desk has: shut at 0
abbrev pub plate_of : (count : ℕ) → Plate
plate_of zero = shut
plate_of (suc n) = open_for (suc n)

-- the call that is asked; a read has all the cells of the list
abbrev pub lent : Asked → List Piece → Call
lent (ask_take t) list = take_line t
lent ask_strike list = strike_line
lent ask_build list = build_plate
lent (ask_read extent room) list = read_extent extent list
lent (ask_play extent) list = play_extent extent

-- the list after a call: that of a read is in its answer, and any other call has none and leaves it as it was
abbrev pub Left : Asked → List Piece → Answer → List Piece → Type 0
Left (ask_take t) list answer list' = (gathered (answer ∷ []) ≡ []) × (list' ≡ list)
Left ask_strike list answer list' = (gathered (answer ∷ []) ≡ []) × (list' ≡ list)
Left ask_build list answer list' = (gathered (answer ∷ []) ≡ []) × (list' ≡ list)
Left (ask_read extent room) list answer list' = gathered (answer ∷ []) ≡ list'
Left (ask_play extent) list answer list' = (gathered (answer ∷ []) ≡ []) × (list' ≡ list)

-- one call on a plate whose desk has the count `desk_count`: what it does to the account, what it tells, its list, and the doer's state then
pub record Made (count : ℕ) {S : Type 0} (rule : Rule S) (first : S) (desk_count : ℕ) (before : Account) (asked : Asked) (list : List Piece) (reply : Reply)
    (after : List Given → Account) (list' : List Piece) (s : S) : Type 0 where
  pub answer : Answer
  pub history : List Given
  pub called : Called count rule first (plate_of desk_count) before (lent asked list) answer (after history)
  pub same_reply : reply ≡ told answer
  pub same_list : Left asked list answer list'
  pub leads : Leads rule first history s
