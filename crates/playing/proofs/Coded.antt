-- The codes that the record of a line has for the classes of a word, place by place. Assumes nothing.
use Rattle.std.proofs.Common.{◌≡◌, ℕ, ◌+◌, ◌<◌, List, [], ◌∷◌, ◌++◌, map, length, get_or, take, sym, ap, ◌∙◌, subst₂, arith}
use lib.ListN.{length-map}
use Rattle.meaning.specs.Words.{Line, Word, Of, classes}
use Rattle.meaning.specs.Positions.{first_set, symbol_at, move, move_all}
use Rattle.meaning.specs.Runs.{Means}
use Rattle.positions.specs.Of.{Lowest}
use Rattle.sheet.specs.declared.entry.Entry.{Entry}
use Rattle.sheet.specs.Entries.{text_of}
use Rattle.sheet.proofs.Entries.{record_clear as clear, record_ranged as ranged}
use Rattle.reading.proofs.Classes.{class_at, class_more}
use Rattle.reading.proofs.Coding.{code_at, moved_on}
use Rattle.playing.proofs.Led.{rest_of, Comes, comes_at}

-- from here on the symbols xs have the classes of a word of the record's line, and x is that at the place i
module _ (e : Entry) (l : Line) (m : Means (text_of e) l) (w : Word) (o : Of l.expr w) {X : Type 0} (f : X → ℕ) (xs : List X) (same : classes w ≡ map f xs) where
  pub word_length : length w ≡ length xs
  word_length = sym (length-map w (λ p. p.class)) ∙ ap length same ∙ length-map xs f

  module _ (i : ℕ) (x : X) (h : i < length xs) (is : x ≡ get_or xs i x) (set class : ℕ) (at : set ≡ move_all l (first_set l) (take i (classes w))) (value : class ≡ f x) where
    class_here : get_or (classes w) i 0 ≡ class
    class_here = ap (λ ys. get_or ys i 0) same ∙ class_at f xs i x class h is value 0

    pub code_comes : (code : ℕ) → ((p : ℕ) → Lowest l set class p → code ≡ (symbol_at l p).code) → Comes (rest_of l w) i code class
    code_comes code coded =
        let inside : i < length w = omega (arith, word_length) in
        let (p, low, d) = code_at l (ranged e l m) (clear e l m) w o i inside in
        comes_at l w i code class inside (coded p (subst₂ (λ s c. Lowest l s c p) (sym at) class_here low) ∙ d) (sym class_here)

    pub set_next : (next : ℕ) → next ≡ move l set class → next ≡ move_all l (first_set l) (take (i + 1) (classes w))
    set_next next n =
        moved_on l (take i (classes w)) (take (i + 1) (classes w)) class set next at n
        (ap (take (i + 1)) same ∙ class_more f xs i x class h is value ∙ ap (λ ys. take i ys ++ class ∷ []) (sym same))
