-- What an expression adds to a draft. Assumes nothing.
use Rattle.std.specs.Prelude.{◌≡◌, ℕ, ◌+◌, ◌++◌, length, bit_or}
use Rattle.meaning.specs.Words.{Expr, star, seq, alt, Forms, more}
use Rattle.meaning.specs.Positions.{symbols, nullable, firstpos, lastpos, followpos}
use Rattle.positions.specs.declared.draft.Draft.{Draft}
use Rattle.positions.specs.Masks.{held, at, Position}
use Rattle.sheet.specs.declared.reader.Join.{Join}
use Rattle.sheet.specs.declared.reader.Join.TheVariants.{Seq, Alt}
use Rattle.positions.specs.declared.part.Part.{Part}

-- `after` is `before` with the expression e behind it, and the part has the sets of e
pub record Added (e : Expr) (before after : Draft) (part : Part) : Type 0 where
  pub count_is : after.symbols.len ≡ before.symbols.len + length (symbols e)
  pub symbols_are : held after.symbols ≡ held before.symbols ++ symbols e
  pub follow_is : (p : ℕ) → Position p → at after.follow p ≡ bit_or (at before.follow p) (followpos e before.symbols.len p)
  pub nullable_is : part.nullable ≡ nullable e
  pub first_is : part.first ≡ firstpos e before.symbols.len
  pub last_is : part.last ≡ lastpos e before.symbols.len

-- the forms of a list as one expression
abbrev pub joins : Join → Forms → Expr
joins Seq es = seq es
joins Alt es = alt es

-- a form is added any number of times where it was added once
abbrev pub AddsStar : Draft → Draft → (once whole : Part) → Type 0
AddsStar d after once whole = (e : Expr) (before : Draft) → Added e before d once → Added (star e) before after whole

-- a form and the rest of its list are added where each of them was
abbrev pub AddsMore : Join → Draft → Draft → (one rest whole : Part) → Type 0
AddsMore join d after one rest whole =
    (e : Expr) (es : Forms) (before middle : Draft)
    → Added e before middle one → Added (joins join es) middle d rest → Added (joins join (more e es)) before after whole
