-- What drafts and sets hold of a line. Assumes nothing.
use Rattle.std.specs.Prelude.{◌≡◌, ℕ, ◌<◌, ◌≤◌, true, ◌↔◌, Option, MatchOption}
use Rattle.positions.specs.declared.draft.Draft.{Draft}
use Rattle.positions.specs.declared.part.Part.{Part}
use Rattle.positions.specs.declared.sets.Sets.{Sets}
use Rattle.positions.specs.Masks.{held, ExpressionSets, LineSets}
use Rattle.meaning.specs.Laws.{OneCode}
use Rattle.meaning.specs.Words.{Line}
use Rattle.meaning.specs.Positions.{has, FitsAt, Meet, FirstClash}

-- the draft is that of the line's whole expression
abbrev pub Drafted : Line → Draft → Part → Type 0
Drafted l d part = ExpressionSets l (held d.symbols) d.follow part.nullable part.first part.last

-- the sets are those of the line
abbrev pub SetsOf : Line → Sets → Type 0
SetsOf l s = LineSets l (held s.symbols) s.first s.follow

-- `fit` has the positions of `set` whose range holds the class
abbrev pub Fitting : Line → ℕ → ℕ → ℕ → Type 0
Fitting l set class fit = (p : ℕ) → 1 ≤ p → (has fit p ≡ true) ↔ ((has set p ≡ true) × FitsAt l p class)

-- p is the lowest position of `set` whose range holds the class
pub record Lowest (l : Line) (set class p : ℕ) : Type 0 where
  pub is_in : has set p ≡ true
  pub fits : FitsAt l p class
  pub lowest : (q : ℕ) → q < p → has set q ≡ true → FitsAt l q class → ⊥

-- the first clash, or none where meeting positions have one code
abbrev pub ClashFound : Line → Option (ℕ × ℕ) → Type 0
ClashFound l r = MatchOption r ((p q : ℕ) → p < q → Meet l p q → OneCode l p q) (λ pq. FirstClash l pq.0 pq.1)
