-- The record of a line that was read, and the verdict on its text. Assumes nothing.
use Rattle.std.proofs.Common.{◌≡◌, ℕ, ◌<◌, ◌≤◌, true, List, [], ◌∷◌, ◌++◌, length, replicate, codes as ascii, sym, refl, ap, ◌∙◌, subst, arith}
use Rattle.std.proofs.lemmas.Fmt.{decimal_digit}
use Rattle.meaning.specs.declared.Symbol.{Symbol}
use Rattle.meaning.specs.Words.{Line, none, Each, Clash}
use Rattle.meaning.specs.Laws.{Ranged, OneCode}
use Rattle.meaning.specs.Positions.{line_symbols, Meet, FirstClash}
use Rattle.meaning.specs.Text.{written}
use Rattle.meaning.specs.TextLaws.{InRange, InLimits}
use Rattle.meaning.specs.Runs.{Means, TextRefused, fault, clash, TextAccepted}
use Rattle.meaning.proofs.Clashes.{clash_meet, meet_clash}
use Rattle.positions.specs.declared.draft.Draft.{Draft}
use Rattle.positions.specs.declared.sets.Sets.{Sets}
use Rattle.positions.specs.Of.{SetsOf, Drafted}
use Rattle.positions.specs.declared.part.Part.{Part}
use Rattle.sheet.specs.declared.refusal.Refusal.{Refusal}
use Rattle.sheet.specs.Refusals.{reported}
use Rattle.sheet.specs.Reading.{Tells}
use Rattle.sheet.specs.Parsing.{LineRead}
use Rattle.sheet.specs.Records.{Records}
use Rattle.sheet.proofs.Joining.{added_none}
use Rattle.sheet.proofs.Lining.{drafted}

ranged_each : (count : ℕ) (ss : List Symbol) → Each (InRange count) ss → Each (λ s. s.low ≤ s.high) ss
ranged_each count [] h = tt
ranged_each count (s ∷ ss) h = (h.0.0, ranged_each count ss h.1)

pub ranged_from : (count : ℕ) (l : Line) → InLimits count l → Ranged l
ranged_from count l h = ranged_each count (line_symbols l) h.ranges

-- where meeting positions have one code, the line does not clash
pub clear_from : (l : Line) → ((p q : ℕ) → p < q → Meet l p q → OneCode l p q) → Clash l.expr → ⊥
clear_from l h x = let r = clash_meet l x in r.4 (h r.0 r.1 r.2 r.3)

module _ (count : ℕ) (t : List ℕ) (some : 0 < length t) (short : length t ≤ 1024) where
  pub refused_fault : (f : Refusal) → Tells count t f → TextRefused count t (reported f)
  refused_fault f r = subst (TextRefused count t) (sym r.3) (fault some short r.2)

  module _ {m n : ℕ} {draft : Draft} {part : Part} (r : LineRead count t m n draft part) where
    pub refused_clash : (p q : ℕ) → FirstClash r.line p q → TextRefused count t (record { number = 6; layer = 2; one = p; two = q })
    refused_clash p q x = clash some short r.faultless r.means (meet_clash r.line (ranged_from count r.line r.in_limits) p q x.meet x.differ) x

    pub accepted : ((p q : ℕ) → p < q → Meet r.line p q → OneCode r.line p q) → TextAccepted count t
    accepted x = record { line = r.line; some = some; short = short; faultless = r.faultless; means = r.means; clear = clear_from r.line x }

-- the record of a line that was read and does not clash
pub records : (count : ℕ) (t kept : List ℕ) {m n : ℕ} {draft : Draft} {part : Part} (sets : Sets) (r : LineRead count t m n draft part) → kept ≡ t → SetsOf r.line sets → ((p q : ℕ) → p < q → Meet r.line p q → OneCode r.line p q) → Records r.line kept m n sets
records count t kept sets r e s x = record {
  means = subst (λ w. Means w r.line) (sym e) r.means;
  opens = r.opens;
  closes = r.closes;
  sets_of = s;
  ranged = ranged_from count r.line r.in_limits;
  clear = clear_from r.line x;
}

-- the line `(rule 0 0 (none))`
abbrev pub blank_line : Line
blank_line = record { open_code = 0; close_code = 0; expr = none }

pub blank_means : Means (written blank_line) blank_line
blank_means = ((tt, (omega arith, (tt, (omega arith, (tt, (tt, (tt, tt))))))), refl)

-- how it is written
pub blank_written : written blank_line ≡ ascii "(rule 0 0 (none))"
blank_written = ap (λ w. ascii "(rule " ++ (w ++ (ascii " " ++ (w ++ ascii " (none))")))) (decimal_digit 0 (omega arith))

pub blank_drafted : (d : Draft) → d.symbols.len ≡ 0 → d.follow ≡ replicate 64 0 → Drafted blank_line d (record { nullable = true; first = 0; last = 0 })
blank_drafted d c f = drafted 0 0 (added_none d) c f

pub blank_records : (kept : List ℕ) (sets : Sets) → kept ≡ ascii "(rule 0 0 (none))" → SetsOf blank_line sets → Records blank_line kept 0 0 sets
blank_records kept sets e s = record {
  means = subst (λ w. Means w blank_line) (blank_written ∙ sym e) blank_means;
  opens = refl;
  closes = refl;
  sets_of = s;
  ranged = tt;
  clear = λ x. omega (arith, x.in_left, ap length x.left_of);
}
