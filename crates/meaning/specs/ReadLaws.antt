-- What is proved of how an extent is cut, read and played: there is a way, and one. Assumes nothing.
use Rattle.std.specs.Prelude.{◌≡◌, ℕ, ◌+◌, ◌≤◌, Bool, ◌⊎◌, List, [], ◌∷◌, ◌++◌, map, length, take, drop}
use Rattle.meaning.specs.Words.{Line, Each, Clash, Translates}
use Rattle.meaning.specs.declared.Piece.{Piece}
use Rattle.meaning.specs.Pieces.{Nth, WordAt, Cut, Cuts, NothingAt, Reading}
use Rattle.meaning.specs.Doers.{Given, Rule, Leads, Gives, Does}
use Rattle.meaning.specs.Runs.{Plays}

-- a place has at most one cut, pieces from a place agree as far as both go, and a read has at most one answer
pub record ReadingLaw : Type 0 where
  pub cut : (ls : List Line) (extent : List ℕ) (place k n j m : ℕ) → Cut ls extent place k n → Cut ls extent place j m → (k ≡ j) × (n ≡ m)
  pub cuts : (ls : List Line) (extent : List ℕ) (place : ℕ) (ps qs : List Piece) (s t : ℕ) → Cuts ls extent place ps s → Cuts ls extent place qs t
      → length ps ≤ length qs → (rest : List Piece) × (qs ≡ ps ++ rest) × Cuts ls extent s rest t
  pub reading : (ls : List Line) (extent : List ℕ) (room : ℕ) (ps qs : List Piece) (s t v w : ℕ) → Reading ls extent room ps s v → Reading ls extent room qs t w
      → (ps ≡ qs) × (s ≡ t) × (v ≡ w)

-- the lengths of pieces, added up
abbrev pub total : List Piece → ℕ
total [] = 0
total (p ∷ ps) = p.len + total ps

-- pieces adjoin: their lengths add up to the way from the first place to the last, and that is inside the extent
pub record AdjoinLaw : Type 0 where
  pub adds : (ls : List Line) (extent : List ℕ) (place stop : ℕ) (ps : List Piece) → Cuts ls extent place ps stop → place + total ps ≡ stop
  pub inside : (ls : List Line) (extent : List ℕ) (room : ℕ) (ps : List Piece) (place why : ℕ) → Reading ls extent room ps place why → (total ps ≡ place) × (place ≤ length extent)

-- no line clashes
abbrev pub AllClear : List Line → Type 0
AllClear ls = Each (λ l. Clash l.expr → ⊥) ls

-- over lines that do not clash a piece begins where a word fits, whether one does is decided, and every read has an answer; a piece gives something, and that is its line's one translation
pub record PieceLaw : Type 0 where
  pub cut : (ls : List Line) (extent : List ℕ) (place j m : ℕ) → AllClear ls → WordAt ls extent place j m → (k : ℕ) × (n : ℕ) × Cut ls extent place k n
  pub decided : (ls : List Line) (extent : List ℕ) (place : ℕ) → AllClear ls → ((k : ℕ) × (n : ℕ) × Cut ls extent place k n) ⊎ NothingAt ls extent place
  pub reading : (ls : List Line) (extent : List ℕ) (room : ℕ) → AllClear ls → (ps : List Piece) × (place : ℕ) × (why : ℕ) × Reading ls extent room ps place why
  pub gives : (ls : List Line) (extent : List ℕ) (place k n : ℕ) → Cut ls extent place k n → (gs : List Given) × Gives ls k (take n (drop place extent)) gs
  pub translated : (ls : List Line) (k : ℕ) (α : List ℕ) (gs : List Given) → Gives ls k α gs
      → (l : Line) × Nth ls k l × Translates l α (map (λ g. g.code) gs) × ((β : List ℕ) → Translates l α β → β ≡ map (λ g. g.code) gs)

-- two plays agree in what was given, the four numbers of the answer, and the doer's state
abbrev pub PlayedAlike : {S : Type 0} → (gs hs : List Given) (pieces pieces' stop stop' codes codes' why why' : ℕ) (t u : S) → Type 0
PlayedAlike gs hs pieces pieces' stop stop' codes codes' why why' t u = (gs ≡ hs) × (pieces ≡ pieces') × (stop ≡ stop') × (codes ≡ codes') × (why ≡ why') × (t ≡ u)

-- what a piece gives, what a doer does, where a rule leads and what a play does is one; and over lines that do not clash every play has an outcome
pub record PlayLaw (S : Type 0) : Type 0 where
  pub gives : (ls : List Line) (k : ℕ) (α : List ℕ) (gs hs : List Given) → Gives ls k α gs → Gives ls k α hs → gs ≡ hs
  pub does : (rule : Rule S) (s : S) (code mark : ℕ) (a b : Bool) (t u : S) → Does rule s code mark a t → Does rule s code mark b u → (a ≡ b) × (t ≡ u)
  pub leads : (rule : Rule S) (s : S) (gs : List Given) (t u : S) → Leads rule s gs t → Leads rule s gs u → t ≡ u
  pub plays : (rule : Rule S) (ls : List Line) (extent : List ℕ) (place : ℕ) (s : S)
      (gs hs : List Given) (pieces pieces' stop stop' codes codes' why why' : ℕ) (t u : S)
      → Plays rule ls extent place s gs pieces stop codes why t → Plays rule ls extent place s hs pieces' stop' codes' why' u
      → PlayedAlike gs hs pieces pieces' stop stop' codes codes' why why' t u
  pub played : (rule : Rule S) (ls : List Line) (extent : List ℕ) (s : S) → AllClear ls
      → (gs : List Given) × (pieces : ℕ) × (stop : ℕ) × (codes : ℕ) × (why : ℕ) × (t : S) × Plays rule ls extent 0 s gs pieces stop codes why t
