-- What every run of calls keeps, on one plate from its opening on and one doer. Assumes nothing.
use Rattle.std.specs.Prelude.{◌≡◌, ℕ, ◌+◌, ◌*◌, ◌<◌, ◌≤◌, Bool, true, false, ◌⊎◌, List, [], ◌∷◌, ◌++◌, length, take, drop, replicate, Some, None, Option, ◌≢◌}
use Rattle.meaning.specs.Bounds.{most_lines, most_states, most_bytes, longest_extent}
use Rattle.meaning.specs.Words.{Line, Clash}
use Rattle.meaning.specs.Text.{Formed, written, Fault}
use Rattle.meaning.specs.Positions.{FirstClash}
use Rattle.meaning.specs.States.{States, MoreThan64, Tables, State}
use Rattle.meaning.specs.declared.Piece.{Piece}
use Rattle.meaning.specs.Pieces.{Cut, NothingAt, Reading}
use Rattle.meaning.specs.Doers.{Given, Rule, Leads, Gives}

-- a refusal, by its number, its layer and two details
pub record Refusal : Type 0 where
  pub number : ℕ
  pub layer : ℕ
  pub one : ℕ
  pub two : ℕ

-- a refusal whose details are 0 and 0
abbrev pub plain : ℕ → ℕ → Refusal
plain number layer = record { number = number; layer = layer; one = 0; two = 0 }

-- a call, by its arguments alone; an extent is given by its classes
pub data Call : Type 0 where
  take_line : List ℕ → Call
  strike_line : Call
  build_plate : Call
  read_extent : (extent : List ℕ) (list : List Piece) → Call
  play_extent : (extent : List ℕ) → Call

-- an answer; that of a read, refused or not, has the caller's list as the read leaves it
pub data Answer : Type 0 where
  refused : Refusal → Answer
  numbered : ℕ → Answer
  listed : (list : List Piece) (pieces place why : ℕ) → Answer
  unread : (list : List Piece) → Refusal → Answer
  played : (pieces place codes why : ℕ) → Answer

-- how a call that is refused is answered: the list of a read is as it was
abbrev pub answer_no : Call → Refusal → Answer
answer_no (take_line t) f = refused f
answer_no strike_line f = refused f
answer_no build_plate f = refused f
answer_no (read_extent extent list) f = unread list f
answer_no (play_extent extent) f = refused f

-- what is known from the calls made so far: the texts of the standing lines, whether the plate is built, what was given to the doer, and the cells of the two memories
pub record Account : Type 0 where
  pub texts : List (List ℕ)
  pub built : Bool
  pub history : List Given
  pub moves : List ℕ
  pub sets : List ℕ

-- the line that a text writes
abbrev pub Means : List ℕ → Line → Type 0
Means t l = Formed l × (t ≡ written l)

-- the lines that texts write, in order
abbrev pub Mean : List (List ℕ) → List Line → Type 0
Mean [] [] = Unit {0}
Mean [] (l ∷ ls) = ⊥
Mean (t ∷ ts) [] = ⊥
Mean (t ∷ ts) (l ∷ ls) = Means t l × Mean ts ls

-- what is known of a plate that was just opened
abbrev pub fresh : (moves sets : List ℕ) → Account
fresh moves sets = record { texts = []; built = false; history = []; moves = moves; sets = sets }

-- the account with other lines standing, not built
abbrev with_lines : Account → List (List ℕ) → Account
with_lines a ts = record { texts = ts; built = false; history = a.history; moves = a.moves; sets = a.sets }

-- the first `used` cells zero, the others as they were
abbrev pub cleared : List ℕ → ℕ → List ℕ
cleared cells used = replicate used 0 ++ drop used cells

-- a plate, by the count of the alphabet that it was opened for
pub data Plate : Type 0 where
  shut : Plate
  open_for : ℕ → Plate

-- the memories have the cells that a plate uses
abbrev pub Room : ℕ → List ℕ → List ℕ → Type 0
Room count moves sets = (most_states * count ≤ length moves) × (most_states * most_lines ≤ length sets)

-- what the check before an opening answers: nothing, or refusal 7
pub data Checks (count : ℕ) (moves sets : List ℕ) : Option Refusal → Type 0 where
  enough : Room count moves sets → Checks count moves sets None
  too_few : (Room count moves sets → ⊥) → Checks count moves sets (Some (plain 7 3))

-- what an opening makes of the two memories: a plate with its used cells 0, or a shut one and no change
pub data Opens (count : ℕ) (moves sets : List ℕ) : Plate → (moves' sets' : List ℕ) → Type 0 where
  opens : Room count moves sets → Opens count moves sets (open_for count) (cleared moves (most_states * count)) (cleared sets (most_states * most_lines))
  stays_shut : (Room count moves sets → ⊥) → Opens count moves sets shut moves sets

-- a text that is refused on its own account: for its size, for a fault, or since its line clashes
pub data TextRefused (count : ℕ) (t : List ℕ) : Refusal → Type 0 where
  size : (length t ≡ 0) ⊎ (most_bytes < length t) → TextRefused count t (plain 1 1)
  fault : {n k : ℕ} → 0 < length t → length t ≤ most_bytes → Fault count t n k → TextRefused count t (record { number = n; layer = 1; one = k; two = 0 })
  clash : {l : Line} {p q : ℕ} → 0 < length t → length t ≤ most_bytes → ((n k : ℕ) → Fault count t n k → ⊥) → Means t l → Clash l.expr → FirstClash l p q → TextRefused count t (record { number = 6; layer = 2; one = p; two = q })

-- a text that is accepted: nothing is wrong with it, and its line does not clash
pub record TextAccepted (count : ℕ) (t : List ℕ) : Type 0 where
  pub line : Line
  pub some : 0 < length t
  pub short : length t ≤ most_bytes
  pub faultless : (n k : ℕ) → Fault count t n k → ⊥
  pub means : Means t line
  pub clear : Clash line.expr → ⊥

-- what take does with a text: refusal 21, then the text's own refusal, else the line is added last
pub data Taken (count : ℕ) (a : Account) (t : List ℕ) : Answer → Account → Type 0 where
  eight : length a.texts ≡ most_lines → Taken count a t (refused (plain 21 3)) a
  turned_down : {f : Refusal} → length a.texts < most_lines → TextRefused count t f → Taken count a t (refused f) a
  added : length a.texts < most_lines → TextAccepted count t → Taken count a t (numbered (length a.texts)) (with_lines a (a.texts ++ t ∷ []))

-- what strike does: refusal 22, else the line taken last goes
pub data Struck (a : Account) : Answer → Account → Type 0 where
  none_stands : a.texts ≡ [] → Struck a (refused (plain 22 3)) a
  struck : (ts : List (List ℕ)) (t : List ℕ) → a.texts ≡ ts ++ t ∷ [] → Struck a (numbered (length ts)) (with_lines a ts)

-- what build does: refusal 22, then 23 with the used cells 0, else the used cells hold the states and their moves
pub data Built (count : ℕ) (a : Account) : Answer → Account → Type 0 where
  empty : a.texts ≡ [] → Built count a (refused (plain 22 3)) a
  large : {ls : List Line} → Mean a.texts ls → 0 < length ls → MoreThan64 count ls → Built count a (refused (plain 23 3)) (record { texts = a.texts; built = false; history = a.history; moves = cleared a.moves (most_states * count); sets = cleared a.sets (most_states * most_lines) })
  made : {ls : List Line} {all : List State} {moves sets : List ℕ} → Mean a.texts ls → 0 < length ls → States count ls all → length all ≤ most_states → Tables count ls all moves sets → length moves ≡ length a.moves → length sets ≡ length a.sets → drop (most_states * count) moves ≡ drop (most_states * count) a.moves → drop (most_states * most_lines) sets ≡ drop (most_states * most_lines) a.sets → Built count a (numbered (length all)) (record { texts = a.texts; built = true; history = a.history; moves = moves; sets = sets })

-- from a place and a state of the doer: what is given to it, the pieces played whole, the place behind them, the codes taken of a broken piece, why, and the state then
pub data Plays {S : Type 0} (rule : Rule S) (ls : List Line) (extent : List ℕ) : (place : ℕ) (s : S) → List Given → (pieces stop codes why : ℕ) → S → Type 0 where
  at_end : {place : ℕ} {s : S} → place ≡ length extent → Plays rule ls extent place s [] 0 place 0 0 s
  no_piece : {place : ℕ} {s : S} → place < length extent → NothingAt ls extent place → Plays rule ls extent place s [] 0 place 0 1 s
  broken : {place k n : ℕ} {s t : S} {gs gone : List Given} {g : Given} (rest : List Given) → Cut ls extent place k n → Gives ls k (take n (drop place extent)) gs → gs ≡ gone ++ g ∷ rest → Leads rule s gone t → rule t g.code g.mark ≡ None → Plays rule ls extent place s gone 0 place (length gone) 3 t
  whole : {place k n pieces stop codes why : ℕ} {s t u : S} {gs more : List Given} → Cut ls extent place k n → Gives ls k (take n (drop place extent)) gs → Leads rule s gs t → Plays rule ls extent (place + n) t more pieces stop codes why u → Plays rule ls extent place s (gs ++ more) (pieces + 1) stop codes why u

-- read and play refuse on a plate that is not built, then on a long extent
pub data Refuses (a : Account) (extent : List ℕ) : Refusal → Type 0 where
  unbuilt : a.built ≡ false → Refuses a extent (plain 24 3)
  long : a.built ≡ true → longest_extent < length extent → Refuses a extent (plain 8 4)

-- what read does with its list
pub data Listed (a : Account) (extent : List ℕ) (list : List Piece) : Answer → Type 0 where
  refuses : {f : Refusal} → Refuses a extent f → Listed a extent list (unread list f)
  read_out : {pieces : List Piece} {place why : ℕ} (ls : List Line) → a.built ≡ true → length extent ≤ longest_extent → Mean a.texts ls → Reading ls extent (length list) pieces place why → Listed a extent list (listed (pieces ++ drop (length pieces) list) (length pieces) place why)

module _ (count : ℕ) {S : Type 0} (rule : Rule S) (first : S) where
  -- what a call does on a plate that is open for its alphabet
  pub data Step (a : Account) : Call → Answer → Account → Type 0 where
    takes : {t : List ℕ} {r : Answer} {b : Account} → Taken count a t r b → Step a (take_line t) r b
    strikes : {r : Answer} {b : Account} → Struck a r b → Step a strike_line r b
    builds : {r : Answer} {b : Account} → Built count a r b → Step a build_plate r b
    reads : {extent : List ℕ} {list : List Piece} {r : Answer} → Listed a extent list r → Step a (read_extent extent list) r a
    refuses_play : {extent : List ℕ} {f : Refusal} → Refuses a extent f → Step a (play_extent extent) (refused f) a
    plays : {extent : List ℕ} (ls : List Line) {gs : List Given} {s t : S} {pieces place codes why : ℕ} → a.built ≡ true → length extent ≤ longest_extent → Mean a.texts ls → Leads rule first a.history s → Plays rule ls extent 0 s gs pieces place codes why t → Step a (play_extent extent) (played pieces place codes why) (record { texts = a.texts; built = a.built; history = a.history ++ gs; moves = a.moves; sets = a.sets })

  -- what a call does: refusal 25, before every other check, unless the plate is open for the call's count
  pub data Called (plate : Plate) (a : Account) : Call → Answer → Account → Type 0 where
    away : (c : Call) → (plate ≢ open_for count) → Called plate a c (answer_no c (plain 25 3)) a
    heard : {c : Call} {r : Answer} {b : Account} → plate ≡ open_for count → Step a c r b → Called plate a c r b

  -- calls in any order and number, each with its answer
  pub data Run (plate : Plate) (a : Account) : List Call → List Answer → Account → Type 0 where
    opened : Run plate a [] [] a
    then : {cs cs' : List Call} {rs rs' : List Answer} {b z : Account} (c : Call) (r : Answer) → Run plate a cs rs b → Called plate b c r z → cs' ≡ cs ++ c ∷ [] → rs' ≡ rs ++ r ∷ [] → Run plate a cs' rs' z

  -- what holds of every run, from the opening on
  pub record Kept (moves sets : List ℕ) (calls : List Call) (answers : List Answer) (moves' sets' : List ℕ) (s : S) : Type 0 where
    pub plate : Plate
    pub zero_moves : List ℕ
    pub zero_sets : List ℕ
    pub opening : Opens count moves sets plate zero_moves zero_sets
    pub account : Account
    pub run : Run plate (fresh zero_moves zero_sets) calls answers account
    pub same_moves : moves' ≡ account.moves
    pub same_sets : sets' ≡ account.sets
    pub leads : Leads rule first account.history s
