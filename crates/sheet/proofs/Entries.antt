-- What the record of a line says of its line, with nothing hidden. Assumes nothing.
use Rattle.std.proofs.Common.{◌≡◌, ℕ, ◌≤◌, List, [], ◌∷◌, sym, refl, ap, ◌∙◌, subst}
use mathlib.Core.Logic.{∥∥₁_elim}
use std.HLevel.{⊥_prop}
use base.Stored.{Coded-set, coded_list}
use denote.Struct.Props.{props}
use Rattle.meaning.specs.Words.{Line, Each, Clash}
use Rattle.meaning.specs.Laws.{Ranged}
use Rattle.meaning.specs.Positions.{line_symbols}
use Rattle.meaning.specs.Runs.{Means}
use Rattle.meaning.specs.declared.Symbol.{Symbol}
use Rattle.meaning.specs.contracts.Symbol.{the_row as the_symbol}
use Rattle.meaning.proofs.Means.{one_line_meant}
use Rattle.positions.specs.declared.sets.Sets.{Sets}
use Rattle.positions.specs.Of.{SetsOf}
use Rattle.sheet.specs.declared.entry.Entry.{Entry}
use Rattle.sheet.specs.Entries.{text_of}
use Rattle.sheet.specs.Records.{Records}

same_number : (m n : ℕ) → IsProp (m ≡ n)
same_number m n = hlevel props

same_symbols : (xs ys : List Symbol) → IsProp (xs ≡ ys)
same_symbols xs ys = Coded-set (coded_list the_symbol.coded) xs ys

-- the sets of a line are its sets in one way
sets_prop : (l : Line) (s : Sets) → IsProp (SetsOf l s)
sets_prop l s p q = λ i. record {
  symbols_are = same_symbols _ _ p.symbols_are q.symbols_are i;
  first_is = same_number _ _ p.first_is q.first_is i;
  follow_is = λ k h. same_number _ _ (p.follow_is k h) (q.follow_is k h) i;
}

ranged_prop : (xs : List Symbol) → IsProp (Each (λ s. s.low ≤ s.high) xs)
ranged_prop [] p q = refl
ranged_prop (x ∷ xs) p q = λ i. (low_prop p.0 q.0 i, ranged_prop xs p.1 q.1 i)
  where
    low_prop : IsProp (x.low ≤ x.high)
    low_prop = hlevel props

-- the line of a record
pub line_of : (e : Entry) → (l : Line) × Means (text_of e) l
line_of e = ∥∥₁_elim e.is (one_line_meant (text_of e)) (λ r. (r.0, r.1.means))

-- the same of the line that the text means
at_line : (e : Entry) (l : Line) → Means (text_of e) l → (r : (k : Line) × Records k (text_of e) e.opening e.closing e.sets) → r.0 ≡ l
at_line e l m r = ap (λ x. x.0) (one_line_meant (text_of e) (r.0, r.1.means) (l, m))

module _ (e : Entry) (l : Line) (m : Means (text_of e) l) where
  pub record_opens : e.opening ≡ l.open_code
  record_opens = ∥∥₁_elim e.is (same_number _ _) (λ r. r.1.opens ∙ ap (λ k. k.open_code) (at_line e l m r))

  pub record_closes : e.closing ≡ l.close_code
  record_closes = ∥∥₁_elim e.is (same_number _ _) (λ r. r.1.closes ∙ ap (λ k. k.close_code) (at_line e l m r))

  pub record_sets : SetsOf l e.sets
  record_sets = ∥∥₁_elim e.is (sets_prop l e.sets) (λ r. subst (λ k. SetsOf k e.sets) (at_line e l m r) r.1.sets_of)

  pub record_ranged : Ranged l
  record_ranged = ∥∥₁_elim e.is (ranged_prop (line_symbols l)) (λ r. subst Ranged (at_line e l m r) r.1.ranged)

  pub record_clear : Clash l.expr → ⊥
  record_clear x = ∥∥₁_elim e.is ⊥_prop (λ r. r.1.clear (subst (λ k. Clash k.expr) (sym (at_line e l m r)) x))
