use Rattle.std.proofs.Common.{ℕ, ◌+◌, List, ◌∷◌, refl, arith}
use Rattle.std.proofs.lemmas.Result.{err_from_is_err_and}
use Rattle.positions.specs.declared.draft.Draft.{Draft}
use Rattle.meaning.specs.Text.{action, low, high, Token, number}
use Rattle.meaning.proofs.Scan.{Item, blank, close, stop_token, numeral, behind}
use Rattle.sheet.specs.Reading.{Stands}
use Rattle.sheet.proofs.Numerals.{takes_code, takes_low, takes_high}
use Rattle.sheet.proofs.reader.Reader.range.Goals as goal
use Rattle.sheet.proofs.reader.Reader.range.Goals.{In_ok-low, In_ok-high}

module _ (count : ℕ) (t : List ℕ) (d : Draft) (is : List Item) (ts : List Token) (left : ℕ) where
  -- behind LO
  behind_low : (c : In_ok-low) → Stands count t d c.args.self.now (numeral low blank ∷ is) ts left → Stands count t d c.number.new.self (behind low c.in_ok-low.low is) (stop_token blank ∷ number low c.in_ok-low.low ∷ ts) left
  behind_low c h = c.in_ok-low.ensures.reads count t d low blank is ts left left h refl (takes_low count c.args.self.now.classes h.counts) refl

  -- behind HI
  behind_high : (c : In_ok-high) → Stands count t d c.args.self.now (numeral low blank ∷ is) ts left → Stands count t d c.number-2.new.self (numeral action close ∷ is) (stop_token blank ∷ number (high c.in_ok-low.low) c.in_ok-high.high ∷ stop_token blank ∷ number low c.in_ok-low.low ∷ ts) left
  behind_high c h =
      let s = behind_low (goal.at.In_ok-high c).In_ok-low h in
      c.in_ok-high.ensures.reads count t d (high c.in_ok-low.low) blank (numeral action close ∷ is) _ left left s refl (takes_high count c.from.result c.number.new.self.classes c.in_ok-low.low c.from.ensures s.counts) refl

pub returns-in_err-low-clause-reads : goal.returns-in_err-low-clause-reads
returns-in_err-low-clause-reads c =
    let p = err_from_is_err_and c.from_residual.result c.from_residual.ensures.1 in
    λ count t d is ts left h. rw (p.1, p.2) (c.in_err-low.ensures.reads count t d low blank is ts left left h refl (takes_low count c.args.self.now.classes h.counts) refl)

pub returns-in_err-high-clause-reads : goal.returns-in_err-high-clause-reads
returns-in_err-high-clause-reads c =
    let p = err_from_is_err_and c.from_residual-in_err-high.result c.from_residual-in_err-high.ensures.1 in
    λ count t d is ts left h.
    let s = behind_low count t d is ts left (goal.at.returns-in_err-high-clause-reads c).In_ok-low h in
    rw (p.1, p.2) (c.in_err-high.ensures.reads count t d (high c.in_ok-low.low) blank (numeral action close ∷ is) _ left left s refl (takes_high count c.from.result c.number.new.self.classes c.in_ok-low.low c.from.ensures s.counts) refl)

pub returns-in_err-code-clause-reads : goal.returns-in_err-code-clause-reads
returns-in_err-code-clause-reads c =
    let p = err_from_is_err_and c.from_residual-in_err-code.result c.from_residual-in_err-code.ensures.1 in
    λ count t d is ts left h.
    rw (p.1, p.2) (c.in_err-code.ensures.reads count t d action close is _ left (left + 1) (behind_high count t d is ts left (goal.at.returns-in_err-code-clause-reads c).In_ok-high h) refl (takes_code count) (omega arith))

pub returns-clause-reads : goal.returns-clause-reads
returns-clause-reads c = λ count t d is ts left h.
    c.in_ok-code.ensures.reads count t d action close is _ left (left + 1) (behind_high count t d is ts left (goal.at.returns-clause-reads c).In_ok-high h) refl (takes_code count) (omega arith)
