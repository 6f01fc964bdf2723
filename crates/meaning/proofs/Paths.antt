-- The words of a line are the labels of its paths: the walks of Walks, at the position sets of a line. Assumes nothing.
use Rattle.std.proofs.Common.{ℕ, ◌≤◌, ◌↔◌, List, [], ◌∷◌}
use Rattle.meaning.specs.Words.{Expr, Line, Word, Of}
use Rattle.meaning.specs.Positions.{symbol_at}
use Rattle.meaning.specs.Laws.{PathFrom, PathOver, Labelled}
use Rattle.meaning.proofs.Walks.{Chain, Walk}
use Rattle.meaning.proofs.Sets.{Sets}
use Rattle.meaning.proofs.Spelling.{Labels}
use Rattle.meaning.proofs.Law.{line_spelled, line_word}

module _ (e : Expr) where
  from_chain : (p : ℕ) (ps : List ℕ) → Chain (Sets e 0) p ps → PathFrom e p ps
  from_chain p [] h = h.1
  from_chain p (q ∷ ps) h = (h.0.1.0, h.0.1.1, from_chain q ps h.1)

  to_chain : (p : ℕ) (ps : List ℕ) → 1 ≤ p → PathFrom e p ps → Chain (Sets e 0) p ps
  to_chain p [] o h = (o, h)
  to_chain p (q ∷ ps) o h = ((o, (h.0, h.1)), to_chain q ps h.0 h.2)

  from_walk : (ps : List ℕ) → Walk (Sets e 0) ps → PathOver e ps
  from_walk [] h = h
  from_walk (p ∷ ps) h = (h.0.0, h.0.1, from_chain p ps h.1)

  to_walk : (ps : List ℕ) → PathOver e ps → Walk (Sets e 0) ps
  to_walk [] h = h
  to_walk (p ∷ ps) h = ((h.0, h.1), to_chain p ps h.0 h.2)

module _ (l : Line) where
  from_labels : (ps : List ℕ) (w : Word) → Labels (symbol_at l) ps w → Labelled l ps w
  from_labels [] [] h = tt
  from_labels [] (x ∷ w) h = absurd h
  from_labels (p ∷ ps) [] h = absurd h
  from_labels (p ∷ ps) (x ∷ w) h = (h.0, h.1, from_labels ps w h.2)

  to_labels : (ps : List ℕ) (w : Word) → Labelled l ps w → Labels (symbol_at l) ps w
  to_labels [] [] h = tt
  to_labels [] (x ∷ w) h = absurd h
  to_labels (p ∷ ps) [] h = absurd h
  to_labels (p ∷ ps) (x ∷ w) h = (h.0, h.1, to_labels ps w h.2)

  pub path_law_lem : (w : Word) → Of l.expr w ↔ ((ps : List ℕ) × PathOver l.expr ps × Labelled l ps w)
  path_law_lem w = (
    (λ o. let (ps, h, k) = line_spelled l w o in (ps, from_walk l.expr ps h, from_labels ps w k)),
    λ (ps, h, k). line_word l w (ps, to_walk l.expr ps h, to_labels ps w k),
  )
