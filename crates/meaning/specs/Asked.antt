-- What a run promises of all that it is lent: calls, lists and cells for answers, as they are before and after. Assumes nothing.
use Rattle.std.specs.Prelude.{◌≡◌, ℕ, List, [], ◌∷◌, ◌++◌, map, length, take, drop}
use Rattle.meaning.specs.declared.Piece.{Piece}
use Rattle.meaning.specs.Doers.{Rule}
use Rattle.meaning.specs.Runs.{Refusal, Call, take_line, strike_line, build_plate, read_extent, play_extent, Answer, refused, numbered, listed, unread, played, Kept}

-- a call as the caller writes it: a read says how many cells of the lent lists are its own
pub data Asked : Type 0 where
  ask_take : List ℕ → Asked
  ask_strike : Asked
  ask_build : Asked
  ask_read : (extent : List ℕ) (room : ℕ) → Asked
  ask_play : (extent : List ℕ) → Asked

-- the calls, each read with the next cells of the lists as they were lent
abbrev pub dealt : List Asked → List Piece → List Call
dealt [] cells = []
dealt (ask_take t ∷ qs) cells = take_line t ∷ dealt qs cells
dealt (ask_strike ∷ qs) cells = strike_line ∷ dealt qs cells
dealt (ask_build ∷ qs) cells = build_plate ∷ dealt qs cells
dealt (ask_read extent room ∷ qs) cells = read_extent extent (take room cells) ∷ dealt qs (drop room cells)
dealt (ask_play extent ∷ qs) cells = play_extent extent ∷ dealt qs cells

-- the lists that the answers have, one behind the other
abbrev pub gathered : List Answer → List Piece
gathered [] = []
gathered (refused f ∷ rs) = gathered rs
gathered (numbered n ∷ rs) = gathered rs
gathered (listed list pieces place why ∷ rs) = list ++ gathered rs
gathered (unread list f ∷ rs) = list ++ gathered rs
gathered (played pieces place codes why ∷ rs) = gathered rs

-- an answer without the list: what a cell of the answers can hold
pub data Reply : Type 0 where
  no_for : Refusal → Reply
  number_of : ℕ → Reply
  read_to : (pieces place why : ℕ) → Reply
  played_to : (pieces place codes why : ℕ) → Reply

-- what the caller is told of an answer beside the list
abbrev pub told : Answer → Reply
told (refused f) = no_for f
told (numbered n) = number_of n
told (listed list pieces place why) = read_to pieces place why
told (unread list f) = no_for f
told (played pieces place codes why) = played_to pieces place codes why

-- what `run` promises of all that it was lent: as many calls are made as there are cells for their answers, and no other cell of the lists or of the answers is changed
pub record Ran (count : ℕ) {S : Type 0} (rule : Rule S) (first : S) (moves sets : List ℕ) (asked : List Asked) (lists : List Piece) (answers : List Reply)
    (moves' sets' : List ℕ) (s : S) (lists' : List Piece) (answers' : List Reply) : Type 0 where
  pub all : List Answer
  pub kept : Kept count rule first moves sets (dealt (take (length answers) asked) lists) all moves' sets' s
  pub same_answers : answers' ≡ map told all ++ drop (length all) answers
  pub same_lists : lists' ≡ gathered all ++ drop (length (gathered all)) lists
