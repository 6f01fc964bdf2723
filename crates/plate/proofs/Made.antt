-- The table once it is filled. Assumes nothing.
use Rattle.std.proofs.Common.{◌≡◌, ℕ, ◌+◌, ◌-◌, ◌*◌, ◌<◌, ◌≤◌, true, false, List, length, get_or, None, Option, sym, refl, ap, ◌∙◌, subst, subst₂, inl, arith}
use Rattle.std.proofs.lemmas.List.{get_or-drop}
use Rattle.meaning.specs.Words.{Line}
use Rattle.meaning.specs.States.{State, nowhere, Tables}
use Rattle.meaning.specs.Doers.{Given}
use Rattle.meaning.specs.Runs.{Mean, cleared, plain, refused, numbered, Built, large, made}
use Rattle.plate.specs.declared.desk.Desk.{Desk}
use Rattle.plate.specs.Desks.{texts_of, account_of}
use Rattle.plate.specs.Cells.{Beyond}
use Rattle.plate.specs.Tables.{Earliest, BuiltTable}
use Rattle.plate.specs.Filling.{Filling, Filled, Laid, TooMany}
use Rattle.plate.proofs.Meant.{lines_of, lines_length}
use Rattle.plate.proofs.Rows.{filled_states}

-- a cell behind those that were written
beyond_at : (n i : ℕ) (before after : List ℕ) → n ≤ i → Beyond n before after → get_or after i 0 ≡ get_or before i 0
beyond_at n i before after h b =
    let here : n + (i - n) ≡ i = omega arith in
    ap (λ k. get_or after k 0) (sym here) ∙ sym (get_or-drop n after (i - n) 0) ∙ ap (λ xs. get_or xs (i - n) 0) b.1
    ∙ get_or-drop n before (i - n) 0 ∙ ap (λ k. get_or before k 0) here

-- the lines that stand are some
pub lines_some : (d : Desk) → 1 ≤ d.standing → 0 < length (lines_of d).0
lines_some d h =
    let (ls, m) = lines_of d in
    let fits : d.standing ≤ length d.entries = omega (arith, d.few, d.full) in
    omega (arith, lines_length d.entries d.standing fits ls m)

-- the table of the lines that stand on d; all are its states, the set cells held old, and accepts are the lines that are taken
pub table_made : (d : Desk) (all : List State) (moves old sets : List ℕ) (accepts : List (Option ℕ)) → 1 ≤ d.standing → length all ≤ 64
    → Filled d.count (texts_of d) all moves (length all) 0 → Laid all (length all) old sets → ((i : ℕ) → i < 512 → get_or old i 0 ≡ 0)
    → ((ls : List Line) → Mean (texts_of d) ls → (s : ℕ) → s < length all → Earliest ls (get_or all s nowhere) (get_or accepts s None))
    → (b : BuiltTable d.count (texts_of d) moves sets accepts) × (length all ≡ length b.all)
table_made d all moves old sets accepts h few f t z e =
    let (ls, m) = lines_of d in
    let some = lines_some d h in
    let filling : Filling d.count ls all moves (length all) 0 = f ls m some in
    let tables : Tables d.count ls all moves sets = record {
      move_cells = λ s c k o. filling.cells s c o (inl k);
      other_moves = λ i k o. filling.others i (omega arith) o;
      set_cells = λ s k o p. t.cells s k o p;
      other_sets = λ i k o. beyond_at (length all * 8) i old sets k t.beyond ∙ z i o;
    } in
    (record { lines = ls; mean = m; some = some; all = all; states = filled_states d.count ls all moves filling; few = few; tables = tables; earliest = e ls m }, refl)

module _ (count : ℕ) (d : Desk) (open_for : d.count ≡ count) (moves moves' sets sets' : List ℕ) (h : List Given) where
  -- what build does where there are too many states
  pub built_large : 1 ≤ d.standing → TooMany d.count (texts_of d) → moves' ≡ cleared moves (64 * d.count) → sets' ≡ cleared sets 512
      → Built count (account_of d moves sets h) (refused (plain 23 3)) (record { texts = texts_of d; built = false; history = h; moves = moves'; sets = sets' })
  built_large some many p q =
      let (ls, m) = lines_of d in
      let result : ℕ → List ℕ → List ℕ → Type 0 = λ k ms ss. Built k (account_of d moves sets h) (refused (plain 23 3)) (record { texts = texts_of d; built = false; history = h; moves = ms; sets = ss }) in
      subst (λ k. result k moves' sets') open_for
      (subst₂ (result d.count) (sym p) (sym q) (large m (lines_some d some) (many ls m (lines_some d some))))

  -- what it does else
  pub built_made : (n : ℕ) (accepts : List (Option ℕ)) → (b : BuiltTable d.count (texts_of d) moves' sets' accepts) × (n ≡ length b.all)
      → Beyond (64 * d.count) moves moves' → Beyond 512 sets sets'
      → Built count (account_of d moves sets h) (numbered n) (record { texts = texts_of d; built = true; history = h; moves = moves'; sets = sets' })
  built_made n accepts (b, long) p q =
      subst₂ (λ c k. Built c (account_of d moves sets h) (numbered k) (record { texts = texts_of d; built = true; history = h; moves = moves'; sets = sets' })) open_for (sym long)
      (made b.mean b.some b.states b.few b.tables p.0 q.0 p.1 q.1)
