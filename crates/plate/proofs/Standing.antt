-- The table of line records as lines are taken and struck, and cells as they are cleared.
use Rattle.std.proofs.Common.{◌≡◌, ℕ, ◌+◌, ◌-◌, ◌<◌, ◌≤◌, false, List, [], ◌∷◌, ◌++◌, map, length, get_or, take, drop, set, replicate, sym, ap, ◌∙◌, subst, subst₂, arith, length-append, length-drop, length-set, length-take-le}
use lib.ListN.{length-map, length-replicate}
use Rattle.std.proofs.lemmas.List.{get_or_append_left, get_or-replicate, take_more, take_more_set, map-append, drop_at, drop-set-lt, drop-drop}
use Rattle.meaning.specs.Doers.{Given}
use Rattle.meaning.specs.Runs.{Refusal, plain, refused, numbered, TextRefused, TextAccepted, Taken, eight, turned_down, added, Struck, none_stands, struck, cleared}
use Rattle.sheet.specs.declared.entry.Entry.{Entry}
use Rattle.sheet.specs.Entries.{text_of}
use Rattle.plate.specs.declared.desk.Desk.{Desk}
use Rattle.plate.specs.Desks.{texts_of, account_of}
use Rattle.plate.specs.Cells.{Beyond}
use Rattle.plate.proofs.Meant.{item_at}

-- the texts with one line more
pub texts_added : (es : List Entry) (n : ℕ) (e : Entry) → n < length es → map text_of (take (n + 1) (set es n e)) ≡ map text_of (take n es) ++ text_of e ∷ []
texts_added es n e h = ap (map text_of) (take_more_set es n e h) ∙ map-append text_of (take n es) (e ∷ [])

-- how many texts stand
pub texts_length : (es : List Entry) (n : ℕ) → n ≤ length es → length (map text_of (take n es)) ≡ n
texts_length es n h = length-map (take n es) text_of ∙ length-take-le n es h

-- no line stands
pub no_texts : (es : List Entry) (n : ℕ) → n ≡ 0 → map text_of (take n es) ≡ []
no_texts es n e = ap (λ k. map text_of (take k es)) e

-- what is behind the cleared cells
pub beyond_cleared : (xs : List ℕ) (n : ℕ) → n ≤ length xs → Beyond n xs (replicate n 0 ++ drop n xs)
beyond_cleared xs n h =
    let zeros : List ℕ = replicate n 0 in
    let many : length zeros ≡ n = length-replicate {A = ℕ} n 0 in
    (length-append zeros (drop n xs) ∙ omega (arith, length-drop n xs), drop_at zeros (drop n xs) n many)

-- a cleared cell
pub cleared_at : (cells : List ℕ) (n i : ℕ) → i < n → get_or (cleared cells n) i 0 ≡ 0
cleared_at cells n i h =
    get_or_append_left (replicate n 0) (drop n cells) 0 i (omega (arith, length-replicate {A = ℕ} n 0)) ∙ get_or-replicate n i 0 0 h

-- a write below n
pub beyond_set : (before xs : List ℕ) (n i v : ℕ) → i < n → Beyond n before xs → Beyond n before (set xs i v)
beyond_set before xs n i v h b = (length-set xs i v ∙ b.0, drop-set-lt n xs i v h ∙ b.1)

-- what is behind more cells
pub beyond_more : (before after : List ℕ) (k n : ℕ) → k ≤ n → Beyond k before after → Beyond n before after
beyond_more before after k n h b =
    let whole : k + (n - k) ≡ n = omega arith in
    (b.0, subst (λ m. drop m after ≡ drop m before) whole (sym (drop-drop (n - k) k after) ∙ ap (drop (n - k)) b.1 ∙ drop-drop (n - k) k before))

-- cells that were cleared and then written below n
pub cleared_written : (xs ys zs : List ℕ) (n : ℕ) → n ≤ length xs → ys ≡ cleared xs n → Beyond n ys zs → Beyond n xs zs
cleared_written xs ys zs n h e b =
    let all : Beyond n xs ys = subst (Beyond n xs) (sym e) (beyond_cleared xs n h) in
    (b.0 ∙ all.0, b.1 ∙ all.1)

-- and cleared once more
pub cleared_again : (xs ys : List ℕ) (n : ℕ) → Beyond n xs ys → cleared ys n ≡ cleared xs n
cleared_again xs ys n b = ap (λ r. replicate n 0 ++ r) b.1

-- what take and strike do to the desk d
module _ (d : Desk) (moves sets : List ℕ) (h : List Given) where
  fits : d.standing ≤ length d.entries
  fits = omega (arith, d.few, d.full)

  stand : length (texts_of d) ≡ d.standing
  stand = texts_length d.entries d.standing fits

  -- where eight lines stand, where the text is refused, and else
  module _ (count : ℕ) (t : List ℕ) where
    pub taken_eight : 8 ≤ d.standing → Taken count (account_of d moves sets h) t (refused (plain 21 3)) (account_of d moves sets h)
    taken_eight k = eight (omega (arith, stand, d.few))

    pub taken_refused : d.standing < 8 → (f : Refusal) → TextRefused count t f → Taken count (account_of d moves sets h) t (refused f) (account_of d moves sets h)
    taken_refused k f r = turned_down (omega (arith, stand)) r

    pub taken_added : d.standing < 8 → (e : Entry) → text_of e ≡ t → TextAccepted count t
        → Taken count (account_of d moves sets h) t (numbered d.standing)
        (record { texts = map text_of (take (d.standing + 1) (set d.entries d.standing e)); built = false; history = h; moves = moves; sets = sets })
    taken_added k e same a =
        let room : d.standing < length d.entries = omega (arith, d.full) in
        subst₂ (λ m ts. Taken count (account_of d moves sets h) t (numbered m) (record { texts = ts; built = false; history = h; moves = moves; sets = sets })) stand
        (ap (λ u. texts_of d ++ u ∷ []) (sym same) ∙ sym (texts_added d.entries d.standing e room)) (added (omega (arith, stand)) a)

  -- where no line stands, and else
  pub struck_none : d.standing ≡ 0 → Struck (account_of d moves sets h) (refused (plain 22 3)) (account_of d moves sets h)
  struck_none e = none_stands (no_texts d.entries d.standing e)

  pub struck_last : 0 < d.standing
      → Struck (account_of d moves sets h) (numbered (d.standing - 1)) (record { texts = map text_of (take (d.standing - 1) d.entries); built = false; history = h; moves = moves; sets = sets })
  struck_last some =
      let n = d.standing in
      let less : n - 1 < length d.entries = omega (arith, fits) in
      let (x, is) = item_at d.entries (n - 1) less in
      let same : n ≡ n - 1 + 1 = omega arith in
      let last : texts_of d ≡ map text_of (take (n - 1) d.entries) ++ text_of x ∷ []
      = ap (λ k. map text_of (take k d.entries)) same ∙ ap (map text_of) (rw is (take_more d.entries (n - 1) x less)) ∙ map-append text_of (take (n - 1) d.entries) (x ∷ []) in
      subst
      (λ k. Struck (account_of d moves sets h) (numbered k) (record { texts = map text_of (take (n - 1) d.entries); built = false; history = h; moves = moves; sets = sets }))
      (texts_length d.entries (n - 1) (omega arith)) (struck (map text_of (take (n - 1) d.entries)) (text_of x) last)
