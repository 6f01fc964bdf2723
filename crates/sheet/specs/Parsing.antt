-- What the text layer makes of a whole text. Assumes nothing.
use Rattle.std.specs.Prelude.{◌≡◌, ℕ, List, [], replicate, Result, MatchResult}
use Rattle.meaning.specs.Words.{Line}
use Rattle.meaning.specs.Text.{Fault}
use Rattle.meaning.specs.TextLaws.{InLimits}
use Rattle.meaning.specs.Runs.{Means}
use Rattle.meaning.proofs.Scan.{start}
use Rattle.positions.specs.declared.draft.Draft.{Draft}
use Rattle.positions.specs.Of.{Drafted}
use Rattle.sheet.specs.declared.reader.Parsed.{Parsed}
use Rattle.positions.specs.declared.part.Part.{Part}
use Rattle.sheet.specs.declared.reader.Reader.{Reader}
use Rattle.sheet.specs.declared.refusal.Refusal.{Refusal}
use Rattle.sheet.specs.Reading.{Stands, Tells}

-- the text writes a line with nothing wrong, of which these are the codes, the draft and the sets
pub record LineRead (count : ℕ) (t : List ℕ) (opening closing : ℕ) (draft : Draft) (part : Part) : Type 0 where
  pub line : Line
  pub means : Means t line
  pub faultless : (n k : ℕ) → Fault count t n k → ⊥
  pub in_limits : InLimits count line
  pub opens : opening ≡ line.open_code
  pub closes : closing ≡ line.close_code
  pub drafted : Drafted line draft part

-- a text is a line with nothing wrong, or its first fault is told
abbrev pub Parses : ℕ → List ℕ → Result Parsed Refusal → Type 0
Parses count t r = MatchResult r (λ p. LineRead count t p.opening p.closing p.draft p.part) (Tells count t)

-- from its start on, with an empty draft, a text is read as a line, or its first fault is told
abbrev pub ReadsLine : Reader → Result Parsed Refusal → Type 0
ReadsLine a r = (count : ℕ) (t : List ℕ) (d : Draft) → Stands count t d a start [] 16 → d.symbols.len ≡ 0 → d.follow ≡ replicate 64 0 → Parses count t r
