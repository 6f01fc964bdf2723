-- The lines that the standing texts write, and their sets in a state. Assumes nothing.
use Rattle.std.proofs.Common.{◌≡◌, ℕ, zero, suc, ◌<◌, ◌≤◌, Bool, true, false, List, [], ◌∷◌, map, length, get_or, take, Some, None, Option, MatchOption, sym, refl, ap, ◌∙◌, subst, ap₂, inl, inr, arith}
use Rattle.std.proofs.lemmas.List.{get_or-take, length-take-le, get_or-replicate, get_or_past}
use Rattle.std.proofs.lemmas.Bool.{cases_lt}
use Rattle.std.proofs.lemmas.Slice.Zip.{length-zip, get_or-zip}
use Rattle.std.specs.List.{zip, AllWithin, HoldsAt}
use lib.ListN.{length-map}
use Rattle.meaning.specs.Words.{Line}
use Rattle.meaning.specs.Positions.{has, end_mark, first_set, move}
use Rattle.meaning.specs.States.{State, start, step, nowhere}
use Rattle.meaning.specs.Pieces.{Nth}
use Rattle.meaning.specs.Runs.{Means, Mean}
use Rattle.meaning.proofs.Determined.{mean_length}
use Rattle.meaning.proofs.Nths.{one_nth}
use Rattle.meaning.proofs.Reach.{line_set, no_line_set, eight_sets, step_at, step_past}
use Rattle.sheet.specs.declared.entry.Entry.{Entry}
use Rattle.sheet.specs.Entries.{text_of}
use Rattle.sheet.proofs.Entries.{line_of}
use Rattle.plate.specs.declared.desk.Desk.{Desk}
use Rattle.plate.specs.Desks.{texts_of}
use Rattle.plate.specs.Tables.{NoneBefore, Earliest}

-- the element at a place
pub item_at : (es : List Entry) (k : ℕ) → k < length es → (e : Entry) × (e ≡ get_or es k e)
item_at [] k h = absurd (omega arith)
item_at (e ∷ es) zero h = (e, refl)
item_at (e ∷ es) (suc k) h = item_at es k (omega arith)

entries_lines : (es : List Entry) → (ls : List Line) × Mean (map text_of es) ls
entries_lines [] = ([], tt)
entries_lines (e ∷ es) =
    let (l, m) = line_of e in
    let (ls, n) = entries_lines es in
    (l ∷ ls, (m, n))

-- no line has a position there
pub nowhere_at : (j : ℕ) → get_or nowhere j 0 ≡ 0
nowhere_at j = elim (cases_lt j 8) [
  | inl h ↦ get_or-replicate 8 j 0 0 h
  | inr h ↦ get_or_past nowhere j 0 h
]

-- the lines that stand
pub lines_of : (d : Desk) → (ls : List Line) × Mean (texts_of d) ls
lines_of d = entries_lines (take d.standing d.entries)

-- the record at a place, and the line that it has
entry_line : (es : List Entry) (ls : List Line) → Mean (map text_of es) ls → (k : ℕ) (d : Entry) → k < length es
    → (l : Line) × Nth ls k l × Means (text_of (get_or es k d)) l
entry_line [] ls m k d h = absurd (omega arith)
entry_line (x ∷ es) [] m k d h = absurd m
entry_line (x ∷ es) (l ∷ ls) m zero d h = (l, ([], ls, refl, refl), m.0)
entry_line (x ∷ es) (l ∷ ls) m (suc k) d h =
    let (y, (front, back, i, j), n) = entry_line es ls m.1 k d (omega arith) in
    (y, (l ∷ front, back, ap (λ ys. l ∷ ys) i, ap suc j), n)

-- whether a record's line has its end mark in its set
abbrev pub Marks : Bool → Entry × ℕ → Type 0
Marks b p = (l : Line) → Means (text_of p.0) l → b ≡ has p.1 (end_mark l)

-- from here on es are the records that stand, and they write the lines ls
module _ (es : List Entry) (ls : List Line) (m : Mean (map text_of es) ls) where
  pub as_many : length ls ≡ length es
  as_many = sym (mean_length (map text_of es) ls m) ∙ length-map es text_of

  -- the line of a record
  abbrev pub LineAt : ℕ → Entry → Type 0
  LineAt k e = (l : Line) × Nth ls k l × Means (text_of e) l

  pub line_of_item : (k : ℕ) (e : Entry) → k < length es → e ≡ get_or es k e → LineAt k e
  line_of_item k e h i = subst (LineAt k) (sym i) (entry_line es ls m k e h)

  pub start_is : (k : ℕ) (e : Entry) (v : ℕ) → k < length es → e ≡ get_or es k e → ((l : Line) → Means (text_of e) l → v ≡ first_set l) → v ≡ get_or (start ls) k 0
  start_is k e v h i f = let (l, n, w) = line_of_item k e h i in f l w ∙ sym (line_set ls k l n [])

  pub start_past : (k : ℕ) → length es ≤ k → get_or nowhere k 0 ≡ get_or (start ls) k 0
  start_past k h = nowhere_at k ∙ sym (no_line_set ls k (omega (arith, as_many)) [])

  pub start_eight : length es ≤ 8 → length (start ls) ≡ 8
  start_eight h = eight_sets ls (omega (arith, as_many)) []

  nth_step : (k : ℕ) (l : Line) → Nth ls k l → (c : ℕ) (s : State) → get_or (step ls c s) k 0 ≡ move l (get_or s k 0) c
  nth_step k l (front, back, e, d) c s =
      ap₂ (λ xs i. get_or (step xs c s) i 0) e (sym d) ∙ step_at front back l c s ∙ ap (λ i. move l (get_or s i 0) c) d

  pub step_is : (k : ℕ) (e : Entry) (v c : ℕ) (s : State) → k < length es → e ≡ get_or es k e → ((l : Line) → Means (text_of e) l → v ≡ move l (get_or s k 0) c)
      → v ≡ get_or (step ls c s) k 0
  step_is k e v c s h i f = let (l, n, w) = line_of_item k e h i in f l w ∙ sym (nth_step k l n c s)

  pub step_rest : (k c : ℕ) (s : State) → length es ≤ k → get_or s k 0 ≡ get_or (step ls c s) k 0
  step_rest k c s h = sym (step_past ls c s k (omega (arith, as_many)))

  -- so it is of the k-th record and its set in a state
  mark_at : (s : State) (b : Bool) (k : ℕ) → k < length es → k < length s → HoldsAt (Marks b) (zip es s) k → (l : Line) × Nth ls k l × (b ≡ has (get_or s k 0) (end_mark l))
  mark_at s b k h i f =
      let (e, j) = item_at es k h in
      let (l, n, w) = line_of_item k e h j in
      let both : get_or (zip es s) k (e, 0) ≡ (e, get_or s k 0) = get_or-zip es s k (e, 0) h i ∙ ap (λ x. (x, get_or s k 0)) (sym j) in
      (l, n, subst (Marks b) both (f (e, 0)) l w)

  -- the first record whose line has its end mark is that of the earliest line
  pub earliest_is : (s : State) (r : Option ℕ) → length es ≤ length s
      → MatchOption r (AllWithin (Marks false) (zip es s) 0 (length (zip es s))) (λ i. (i < length (zip es s)) × HoldsAt (Marks true) (zip es s) i × AllWithin (Marks false) (zip es s) 0 i)
      → Earliest ls s r
  earliest_is s r h f =
      let all : length (zip es s) ≡ length es = omega (arith, length-zip es s) in
      let none : (n : ℕ) → n ≤ length es → AllWithin (Marks false) (zip es s) 0 n → NoneBefore ls s n = λ n i g j l k y.
      let (x, z, e) = mark_at s false j (omega arith) (omega arith) (λ d. g j d (omega arith) k) in
      sym (e ∙ ap (λ u. has (get_or s j 0) (end_mark u)) (one_nth ls j x l z y)) in
      elim r as (λ r. MatchOption r (AllWithin (Marks false) (zip es s) 0 (length (zip es s))) (λ i. (i < length (zip es s)) × HoldsAt (Marks true) (zip es s) i × AllWithin (Marks false) (zip es s) 0 i) → Earliest ls s r) [
        | None ↦ λ g. subst (NoneBefore ls s) (all ∙ sym as_many) (none (length (zip es s)) (omega arith) g)
        | Some k ↦ λ g.
            let (l, n, e) = mark_at s true k (omega arith) (omega arith) g.1 in
            ((l, n, sym e), none k (omega arith) g.2)
      ] f

-- the same of a table of records, of which the first n stand
module _ (es : List Entry) (n : ℕ) (fits : n ≤ length es) (ls : List Line) (m : Mean (map text_of (take n es)) ls) where
  pub lines_length : length ls ≡ n
  lines_length = as_many (take n es) ls m ∙ length-take-le n es fits

  -- the line of a standing record
  pub line_at : (k : ℕ) (d : Entry) → k < n → (l : Line) × Nth ls k l × Means (text_of (get_or es k d)) l
  line_at k d h =
      let (l, i, w) = entry_line (take n es) ls m k d (omega (arith, length-take-le n es fits)) in
      (l, i, subst (λ e. Means (text_of e) l) (get_or-take n es k d h) w)
