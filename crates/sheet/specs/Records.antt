-- What the record of a line holds. Assumes nothing.
use Rattle.std.specs.Prelude.{◌≡◌, ℕ, List}
use Rattle.meaning.specs.Words.{Line, Clash}
use Rattle.meaning.specs.Laws.{Ranged}
use Rattle.meaning.specs.Runs.{Means}
use Rattle.positions.specs.declared.sets.Sets.{Sets}
use Rattle.positions.specs.Of.{SetsOf}

-- the record of the line l: the text that writes it, its two codes and its position sets; the line does not clash
pub record Records (l : Line) (text : List ℕ) (opening closing : ℕ) (sets : Sets) : Type 0 where
  pub means : Means text l
  pub opens : opening ≡ l.open_code
  pub closes : closing ≡ l.close_code
  pub sets_of : SetsOf l sets
  pub ranged : Ranged l
  pub clear : Clash l.expr → ⊥
