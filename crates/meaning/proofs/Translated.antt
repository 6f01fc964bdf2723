-- What a piece gives is its line's one translation of its classes. Assumes nothing.
use Rattle.std.proofs.Common.{◌≡◌, ℕ, List, [], ◌∷◌, ◌++◌, map, sym, refl, ap, ◌∙◌}
use Rattle.meaning.specs.Bounds.{no_mark}
use Rattle.meaning.specs.Words.{Line, Word, line_codes, Translates}
use Rattle.meaning.specs.Pieces.{Nth}
use Rattle.meaning.specs.Doers.{Given, gives, Gives}

abbrev code_of : Given → ℕ
code_of g = g.code

given_codes : (l : Line) (w : Word) → map code_of (gives l w) ≡ line_codes l w
given_codes l w = ap (λ x. l.open_code ∷ x) (go w)
  where
    go : (v : Word) → map code_of (map (λ p. record { code = p.code; mark = p.class }) v ++ record { code = l.close_code; mark = no_mark } ∷ []) ≡ map (λ p. p.code) v ++ l.close_code ∷ []
    go [] = refl
    go (p ∷ v) = ap (λ x. p.code ∷ x) (go v)

pub translated : (ls : List Line) (k : ℕ) (α : List ℕ) (gs : List Given) → Gives ls k α gs
    → (l : Line) × Nth ls k l × Translates l α (map code_of gs) × ((β : List ℕ) → Translates l α β → β ≡ map code_of gs)
translated ls k α gs g = (
  g.line,
  g.stands,
  (g.word, g.of_line, g.spelled, sym (given_codes g.line g.word) ∙ ap (map code_of) g.given),
  λ β t. sym t.3 ∙ sym (given_codes g.line t.0) ∙ ap (map code_of) (g.only t.0 t.1 t.2),
)
