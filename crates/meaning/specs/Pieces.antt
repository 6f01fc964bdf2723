-- Where an extent is cut, by the words of the standing lines. Assumes nothing.
use Rattle.std.specs.Prelude.{◌≡◌, ℕ, ◌+◌, ◌<◌, ◌≤◌, ◌⊎◌, List, [], ◌∷◌, ◌++◌, length, take, drop}
use Rattle.meaning.specs.declared.Piece.{Piece}
use Rattle.meaning.specs.Words.{Line, Word, Of, classes}

-- x is the k-th of xs, from 0
abbrev pub Nth : {A : Type 0} → List A → ℕ → A → Type 0
Nth xs k x = (front : List _) × (back : List _) × (xs ≡ front ++ x ∷ back) × (length front ≡ k)

-- the line k has a word of the length n > 0 at `place`
pub record WordAt (ls : List Line) (extent : List ℕ) (place k n : ℕ) : Type 0 where
  pub line : Line
  pub stands : Nth ls k line
  pub word : Word
  pub of_line : Of line.expr word
  pub some : 0 < n
  pub inside : place + n ≤ length extent
  pub same : classes word ≡ take n (drop place extent)

-- the longest word of any line there, of the lines that have it the earliest, and one string of codes for its classes
pub record Cut (ls : List Line) (extent : List ℕ) (place k n : ℕ) : Type 0 where
  pub fits : WordAt ls extent place k n
  pub one_coding : (v : Word) → Of fits.line.expr v → classes v ≡ classes fits.word → v ≡ fits.word
  pub longest : (j m : ℕ) → WordAt ls extent place j m → (m < n) ⊎ ((m ≡ n) × (k ≤ j))

-- pieces that adjoin, from one place to another
pub data Cuts (ls : List Line) (extent : List ℕ) : ℕ → List Piece → ℕ → Type 0 where
  none : {place : ℕ} → Cuts ls extent place [] place
  one_more : {place k n stop : ℕ} {ps : List Piece} → Cut ls extent place k n → Cuts ls extent (place + n) ps stop → Cuts ls extent place (record { line = k; place = place; len = n } ∷ ps) stop

-- no line has a word at `place`
abbrev pub NothingAt : List Line → List ℕ → ℕ → Type 0
NothingAt ls extent place = (k n : ℕ) → WordAt ls extent place k n → ⊥

-- why a read into a list of `room` records ends, with `listed` of them filled: 0 at the extent's end, 1 where no piece begins, 2 where one begins and the list is full
pub data Why (ls : List Line) (extent : List ℕ) (room listed place : ℕ) : ℕ → Type 0 where
  at_end : place ≡ length extent → Why ls extent room listed place 0
  no_piece : place < length extent → NothingAt ls extent place → Why ls extent room listed place 1
  full : {k n : ℕ} → Cut ls extent place k n → listed ≡ room → Why ls extent room listed place 2

-- what read answers: the pieces listed, the place reached and why
pub record Reading (ls : List Line) (extent : List ℕ) (room : ℕ) (pieces : List Piece) (place why : ℕ) : Type 0 where
  pub cuts : Cuts ls extent 0 pieces place
  pub fits : length pieces ≤ room
  pub ends : Why ls extent room (length pieces) place why
