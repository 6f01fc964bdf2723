use Rattle.std.proofs.Common.{◌≡◌, ℕ, ◌+◌, ◌≤◌, true, List, length, get_or, sym, refl, ap, ◌∙◌, subst, inl, inr, arith}
use Rattle.std.proofs.lemmas.Bool.{cases_eq, both_ways}
use Rattle.meaning.specs.declared.Symbol.{Symbol}
use Rattle.meaning.specs.Words.{Line}
use Rattle.meaning.specs.Positions.{has, no_symbol}
use Rattle.positions.specs.Masks.{nth, LineSets}
use Rattle.positions.specs.Of.{SetsOf}
use Rattle.positions.specs.Meets.{Beside}
use Rattle.positions.proofs.Alike.{Alike, RowsAlike}
use Rattle.positions.proofs.Walking.{behind, item_is, length-behind}
use Rattle.positions.proofs.Marking.{at_is, nth_next}
use Rattle.positions.proofs.Clashing.{none_found, first_found}
use Rattle.positions.proofs.sets.Sets.clash.Goals as goal
use Rattle.positions.proofs.sets.Sets.clash.Goals.{At-loop-p, At-loop-i, else-has-via-then-has+else-a-b, else-has-via-else-has}

-- what stands at the inner walk's index
item : (c : At-loop-i) → get_or (behind c.as_slice-symbols.result.now (c.loop-p.p + 1)) c.loop-i.i no_symbol ≡ nth c.as_slice-symbols.result.now (c.loop-p.p + 1 + c.loop-i.i + 1)
item c = item_is c.as_slice-symbols.result.now (c.loop-p.p + 1) c.loop-i.i no_symbol ∙ sym (nth_next c.as_slice-symbols.result.now (c.loop-p.p + 1 + c.loop-i.i))

-- the line's sets, and the symbols that take a byte in common
known_sets : (c : At-loop-p) (l : Line) → SetsOf l c.args.self.now
    → (length c.as_slice-symbols.result.now ≤ 63) × LineSets l c.as_slice-symbols.result.now c.args.self.now.first c.args.self.now.follow × Beside c.as_slice-symbols.result.now c.overlaps.result
known_sets c l o = (
  omega (arith, c.as_slice-symbols.ensures.len, c.as_slice-symbols.ensures.few),
  subst (λ ss. LineSets l ss c.args.self.now.first c.args.self.now.follow) (sym c.as_slice-symbols.ensures.value) o,
  subst (λ ss. Beside ss c.overlaps.result) (sym c.as_slice-symbols.ensures.value) c.overlaps.ensures,
)

pub returns-then-a-b : goal.returns-then-a-b
returns-then-a-b c l o =
    let symbols : List Symbol = c.as_slice-symbols.result.now in
    let known : List ℕ = c.all_meetings-known.result in
    let q : ℕ = c.loop-p.p + 1 + c.loop-i.i in
    let b = item (goal.at.returns-then-a-b c).At-loop-i in
    let (few, sets, overlaps) = known_sets (goal.at.returns-then-a-b c).At-loop-p l o in
    first_found l symbols c.args.self.now.first c.args.self.now.follow few sets c.overlaps.result overlaps known c.all_meetings-known.ensures c.loop-p.p q (omega arith)
    (omega (arith, length-behind symbols (c.loop-p.p + 1), c.loop-i-test.true))
    (ap (λ s. has s (q + 1)) (at_is known c.loop-p.p (c.loop-p.p + 1) refl) ∙ sym c.has.ensures ∙ c.if-has.true)
    (λ d. c.if-a-b.true (ap (λ s. s.code) (sym (nth_next symbols c.loop-p.p)) ∙ d ∙ ap (λ s. s.code) (sym b))) c.loop-p.invariant c.loop-i.invariant

pub loop-i-preserved : goal.loop-i-preserved
loop-i-preserved c q h k m =
    let symbols : List Symbol = c.as_slice-symbols.result.now in
    let known : List ℕ = c.all_meetings-known.result in
    let j : ℕ = c.loop-p.p + 1 + c.loop-i.i in
    let b = item (goal.at.loop-i-preserved c).At-loop-i in
    elim (cases_eq q (j + 1)) [
      | inl x ↦
          elim c.else-has.branch [
            | else-has-via-then-has+else-a-b w ↦ ap (λ s. s.code) (nth_next symbols c.loop-p.p) ∙ w.if-a-b.false ∙ ap (λ s. s.code) (b ∙ ap (nth symbols) (sym x))
            | else-has-via-else-has w ↦
                absurd (both_ways c.has.result w.if-has.false (c.has.ensures ∙ subst (λ i. has (get_or known c.loop-p.p 0) i ≡ true) x (ap (λ s. has s q) (sym (at_is known c.loop-p.p (c.loop-p.p + 1) refl)) ∙ m)))
          ]
      | inr x ↦ c.loop-i.invariant q h (omega arith) m
    ]

pub loop-p-preserved : goal.loop-p-preserved
loop-p-preserved c p h k q o l m =
    let symbols : List Symbol = c.as_slice-symbols.result.now in
    let all = length-behind symbols (c.loop-p.p + 1) in
    elim (cases_eq p (c.loop-p.p + 1)) [
      | inl x ↦ subst (λ j. Alike symbols c.all_meetings-known.result j q) (sym x) (c.loop-i.invariant q (omega arith) (omega (arith, all, c.loop-i-test.false))) m
      | inr x ↦ c.loop-p.invariant p h (omega arith) q o l m
    ]

pub returns : goal.returns
returns c l o =
    let symbols : List Symbol = c.as_slice-symbols.result.now in
    let known : List ℕ = c.all_meetings-known.result in
    let (few, sets, overlaps) = known_sets (goal.at.returns c).At-loop-p l o in
    none_found l symbols c.args.self.now.first c.args.self.now.follow few sets c.overlaps.result overlaps known c.all_meetings-known.ensures
    (subst (RowsAlike symbols known (length symbols)) (omega arith) c.loop-p.invariant)
