-- Every text is refused on its own account or accepted: it has a fault, or a line that clashes or does not. Assumes nothing.
use Rattle.std.proofs.Common.{ℕ, ◌<◌, ◌≤◌, ◌⊎◌, List, [], ◌∷◌, length, subst, inl, inr, arith}
use Rattle.std.proofs.lemmas.Bool.{cases_lt}
use Rattle.meaning.specs.Bounds.{most_bytes}
use Rattle.meaning.specs.declared.Symbol.{Symbol}
use Rattle.meaning.specs.Words.{Each}
use Rattle.meaning.specs.Text.{WellFormed, Wrong, Fault}
use Rattle.meaning.specs.TextLaws.{InRange}
use Rattle.meaning.specs.Runs.{Refusal, TextRefused, size, fault, clash, TextAccepted}
use Rattle.meaning.proofs.Verdict.{judged}
use Rattle.meaning.proofs.Limits.{in_limits}
use Rattle.meaning.proofs.FirstClash.{clash_first, clashes}

ranged_from : (count : ℕ) (ss : List Symbol) → Each (InRange count) ss → Each (λ s. s.low ≤ s.high) ss
ranged_from count [] h = tt
ranged_from count (s ∷ ss) h = (h.0.0, ranged_from count ss h.1)

module _ (count : ℕ) (t : List ℕ) where
  abbrev Answered : Type 0
  Answered = ((f : Refusal) × TextRefused count t f) ⊎ TextAccepted count t

  module _ (some : 0 < length t) (short : length t ≤ most_bytes) where
    faultless : WellFormed t → ((n k : ℕ) → Wrong count t n k → ⊥) → Answered
    faultless (l, formed, same) none =
        let none' : (n k : ℕ) → Fault count t n k → ⊥ = λ n k f. none n k f.wrong in
        let limits = in_limits count l formed (subst (λ x. (n k : ℕ) → Wrong count x n k → ⊥) same none) in
        elim (clashes l (ranged_from count _ limits.ranges)) [
          | inl c ↦ let (p, q, first) = clash_first l c in inl (_, clash some short none' (formed, same) c first)
          | inr clear ↦ inr (record { line = l; some = some; short = short; faultless = none'; means = (formed, same); clear = clear })
        ]

    sized : Answered
    sized = elim (judged count t) [
      | inl (n, k, f) ↦ inl (_, fault some short f)
      | inr (w, none) ↦ faultless w none
    ]

  pub text_judged : Answered
  text_judged = elim (cases_lt 0 (length t)) [
    | inl some ↦ elim (cases_lt most_bytes (length t)) [
      | inl long ↦ inl (_, size (inr long))
      | inr short ↦ sized some short
    ]
    | inr none ↦ inl (_, size (inl (omega arith)))
  ]
