-- What is proved of texts, openings, runs of calls and tests: the calls alone decide every answer and every cell. Assumes nothing.
use Rattle.std.specs.Prelude.{◌≡◌, ℕ, ◌⊎◌, List, map, Option}
use Rattle.meaning.specs.Words.{Line, Each}
use Rattle.meaning.specs.Text.{WellFormed}
use Rattle.meaning.specs.declared.Piece.{Piece}
use Rattle.meaning.specs.Positions.{FirstClash}
use Rattle.meaning.specs.Doers.{Rule}
use Rattle.meaning.specs.Runs.{Refusal, plain, Call, Answer, answer_no, Account, Means, Mean, Plate, Room, Checks, Opens, TextRefused, TextAccepted, Step, Called, Run, Kept}
use Rattle.meaning.specs.Asked.{Asked, Reply, Ran}
use Rattle.meaning.specs.Tests.{Verdict, Tests}

-- that a text is a line, or texts are lines, is known in at most one way
pub record MeaningLaw : Type 0 where
  pub line : (t : List ℕ) → IsProp ((l : Line) × Means t l)
  pub lines : (ts : List (List ℕ)) → IsProp ((ls : List Line) × Mean ts ls)
  pub formed : (t : List ℕ) → IsProp (WellFormed t)

-- a line has one first clash, and an opening and the check before it one outcome
pub record RefusalLaw : Type 0 where
  pub clash : (l : Line) (p q r s : ℕ) → FirstClash l p q → FirstClash l r s → (p ≡ r) × (q ≡ s)
  pub check : (count : ℕ) (moves sets : List ℕ) (f g : Option Refusal) → Checks count moves sets f → Checks count moves sets g → f ≡ g
  pub opening : (count : ℕ) (moves sets : List ℕ) (p q : Plate) (moves₁ moves₂ sets₁ sets₂ : List ℕ)
      → Opens count moves sets p moves₁ sets₁ → Opens count moves sets q moves₂ sets₂ → (p ≡ q) × (moves₁ ≡ moves₂) × (sets₁ ≡ sets₂)

-- a text is refused on its own account or accepted, never both, and in one way
pub record TextLaw : Type 0 where
  pub either : (count : ℕ) (t : List ℕ) → ((f : Refusal) × TextRefused count t f) ⊎ TextAccepted count t
  pub never_both : (count : ℕ) (t : List ℕ) (f : Refusal) → TextRefused count t f → TextAccepted count t → ⊥
  pub one_refusal : (count : ℕ) (t : List ℕ) (f g : Refusal) → TextRefused count t f → TextRefused count t g → f ≡ g

-- on memories that are too small for a plate every call is refused 25, and nothing changes
abbrev pub ShutLaw : Type 0 → Type 0
ShutLaw S = (count : ℕ) (rule : Rule S) (first : S) (moves sets : List ℕ) (cs : List Call) → (Room count moves sets → ⊥)
    → Kept count rule first moves sets cs (map (λ c. answer_no c (plain 25 3)) cs) moves sets first

-- calls, and what is lent for them, have one outcome; of doers whose states are of the type S
pub record RunLaw (S : Type 0) : Type 0 where
  pub mean : (ts : List (List ℕ)) (ls ms : List Line) → Mean ts ls → Mean ts ms → ls ≡ ms
  pub step : (count : ℕ) (rule : Rule S) (first : S) (a : Account) (c : Call) (r r' : Answer) (b b' : Account)
      → Step count rule first a c r b → Step count rule first a c r' b' → (r ≡ r') × (b ≡ b')
  pub called : (count : ℕ) (rule : Rule S) (first : S) (p : Plate) (a : Account) (c : Call) (r r' : Answer) (b b' : Account)
      → Called count rule first p a c r b → Called count rule first p a c r' b' → (r ≡ r') × (b ≡ b')
  pub run : (count : ℕ) (rule : Rule S) (first : S) (p : Plate) (a : Account) (cs : List Call) (rs rs' : List Answer) (z z' : Account)
      → Run count rule first p a cs rs z → Run count rule first p a cs rs' z' → (rs ≡ rs') × (z ≡ z')
  pub kept : (count : ℕ) (rule : Rule S) (first : S) (moves sets : List ℕ) (cs : List Call)
      (rs rs' : List Answer) (moves₁ moves₂ sets₁ sets₂ : List ℕ) (s t : S)
      → Kept count rule first moves sets cs rs moves₁ sets₁ s → Kept count rule first moves sets cs rs' moves₂ sets₂ t
      → (rs ≡ rs') × (moves₁ ≡ moves₂) × (sets₁ ≡ sets₂) × (s ≡ t)
  pub ran : (count : ℕ) (rule : Rule S) (first : S) (moves sets : List ℕ) (asked : List Asked) (lists : List Piece) (answers : List Reply)
      (moves₁ moves₂ sets₁ sets₂ : List ℕ) (s t : S) (lists₁ lists₂ : List Piece) (answers₁ answers₂ : List Reply)
      → Ran count rule first moves sets asked lists answers moves₁ sets₁ s lists₁ answers₁
      → Ran count rule first moves sets asked lists answers moves₂ sets₂ t lists₂ answers₂
      → (moves₁ ≡ moves₂) × (sets₁ ≡ sets₂) × (s ≡ t) × (lists₁ ≡ lists₂) × (answers₁ ≡ answers₂)

-- every run has an outcome, whatever the calls and the memories
abbrev pub OutcomeLaw : Type 0 → Type 0
OutcomeLaw S = (count : ℕ) (rule : Rule S) (first : S) (moves sets : List ℕ) (cs : List Call)
    → (rs : List Answer) × (moves' : List ℕ) × (sets' : List ℕ) × (s : S) × Kept count rule first moves sets cs rs moves' sets' s

-- the calls decide the account of a run, from the opening on
abbrev pub AccountLaw : Type 0 → Type 0
AccountLaw S = (count : ℕ) (rule : Rule S) (first : S) (moves sets : List ℕ) (cs : List Call)
    (rs rs' : List Answer) (moves₁ moves₂ sets₁ sets₂ : List ℕ) (s t : S)
    (h : Kept count rule first moves sets cs rs moves₁ sets₁ s) (k : Kept count rule first moves sets cs rs' moves₂ sets₂ t)
    → h.account ≡ k.account

-- a test has one verdict, and leaves the code cells in one way
abbrev pub TestLaw : Type 0
TestLaw = (p : Plate) (count : ℕ) (a : Account) (k : ℕ) (extent cells : List ℕ) (v w : Verdict) (after after' : List ℕ)
    → Tests p count a k extent cells v after → Tests p count a k extent cells w after' → (v ≡ w) × (after ≡ after')

-- over texts that were accepted every test has a verdict
abbrev pub VerdictLaw : Type 0
VerdictLaw = (p : Plate) (count : ℕ) (a : Account) (k : ℕ) (extent cells : List ℕ) → Each (TextAccepted count) a.texts
    → (v : Verdict) × (after : List ℕ) × Tests p count a k extent cells v after
