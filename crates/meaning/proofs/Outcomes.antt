-- Over lines that do not clash every read and every play has an outcome. Assumes nothing.
use Rattle.std.proofs.Common.{◌≡◌, ℕ, zero, suc, ◌+◌, ◌<◌, ◌≤◌, ◌⊎◌, List, [], ◌∷◌, ◌++◌, length, take, drop, Some, None, Option, sym, refl, ap, ◌∙◌, inl, inr, arith}
use Rattle.std.proofs.lemmas.Bool.{cases_lt}
use Rattle.meaning.specs.Words.{Line}
use Rattle.meaning.specs.declared.Piece.{Piece}
use Rattle.meaning.specs.Pieces.{Cut, NothingAt, Cuts, none, one_more, Why, at_end, no_piece, full, Reading}
use Rattle.meaning.specs.Doers.{Given, Rule, Leads, stays, takes, gives, Gives}
use Rattle.meaning.specs.Runs.{Plays, at_end as play_ends, no_piece as play_stops, broken, whole}
use Rattle.meaning.specs.ReadLaws.{AllClear}
use Rattle.meaning.proofs.Found.{cut_decided}

pub cut_gives : (ls : List Line) (extent : List ℕ) (place k n : ℕ) → Cut ls extent place k n → (gs : List Given) × Gives ls k (take n (drop place extent)) gs
cut_gives ls extent place k n c =
    let f = c.fits in (
      gives f.line f.word,
      record {
        line = f.line;
        stands = f.stands;
        word = f.word;
        of_line = f.of_line;
        spelled = f.same;
        given = refl;
        only = λ v o e. ap (gives f.line) (c.one_coding v o (e ∙ sym f.same));
      },
    )

module _ {S : Type 0} (rule : Rule S) where
  -- a rule leads through all of a list, or up to a code that it refuses
  abbrev Through : S → List Given → Type 0
  Through s gs = ((t : S) × Leads rule s gs t) ⊎ ((gone : List Given) × (g : Given) × (rest : List Given) × (t : S) × (gs ≡ gone ++ g ∷ rest) × Leads rule s gone t × (rule t g.code g.mark ≡ None))

  push : (g : Given) (gs : List Given) (s t : S) → rule s g.code g.mark ≡ Some t → Through t gs → Through s (g ∷ gs)
  push g gs s t e (inl (u, l)) = inl (u, takes e l)
  push g gs s t e (inr (gone, h, rest, u, d, l, r)) = inr (g ∷ gone, h, rest, u, ap (λ xs. g ∷ xs) d, takes e l, r)

  through : (gs : List Given) (s : S) → Through s gs
  through [] s = inl (s, stays)
  through (g ∷ gs) s = next (through gs) (rule s g.code g.mark) refl
    where
      next : ((t : S) → Through t gs) → (o : Option S) → rule s g.code g.mark ≡ o → Through s (g ∷ gs)
      next ih None e = inr ([], g, gs, s, refl, stays, e)
      next ih (Some t) e = push g gs s t e (ih t)

module _ (ls : List Line) (extent : List ℕ) where
  abbrev Found : ℕ → Type 0
  Found place = ((k : ℕ) × (n : ℕ) × Cut ls extent place k n) ⊎ NothingAt ls extent place

  abbrev Read_from : ℕ → ℕ → Type 0
  Read_from room place = (ps : List Piece) × (stop : ℕ) × (why : ℕ) × Cuts ls extent place ps stop × (length ps ≤ room) × Why ls extent room (length ps) stop why

  why_more : {room listed place why : ℕ} → Why ls extent room listed place why → Why ls extent (suc room) (suc listed) place why
  why_more (at_end h) = at_end h
  why_more (no_piece h z) = no_piece h z
  why_more (full c h) = full c (ap suc h)

  -- each piece has a class or more, so at most `left` pieces are to come
  read_at : (left room place : ℕ) → ((room' place' : ℕ) → place' ≤ length extent → length extent ≤ place' + left → Read_from room' place')
      → place < length extent → length extent ≤ place + suc left → Found place → Read_from room place
  read_at left zero place more h i (inl (k, n, c)) = ([], place, 2, none, omega arith, full c refl)
  read_at left (suc room) place more h i (inl (k, n, c)) =
      let a = c.fits.some in
      let b = c.fits.inside in
      let (ps, stop, why, cs, few, w) = more room (place + n) b (omega arith) in
      (record { line = k; place = place; len = n } ∷ ps, stop, why, one_more c cs, omega arith, why_more w)
  read_at left zero place more h i (inr z) = ([], place, 1, none, omega arith, no_piece h z)
  read_at left (suc room) place more h i (inr z) = ([], place, 1, none, omega arith, no_piece h z)

  module _ (clear : AllClear ls) where
    read_from : (left room place : ℕ) → place ≤ length extent → length extent ≤ place + left → Read_from room place
    read_from zero room place h i = ([], place, 0, none, omega arith, at_end (omega arith))
    read_from (suc left) room place h i = elim (cases_lt place (length extent)) [
      | inl j ↦ read_at left room place (read_from left) j i (cut_decided ls extent place clear)
      | inr j ↦ ([], place, 0, none, omega arith, at_end (omega arith))
    ]

    pub reading_found : (room : ℕ) → (ps : List Piece) × (place : ℕ) × (why : ℕ) × Reading ls extent room ps place why
    reading_found room =
        let (ps, stop, why, cs, few, w) = read_from (length extent) room 0 (omega arith) (omega arith) in
        (ps, stop, why, record { cuts = cs; fits = few; ends = w })

  module _ {S : Type 0} (rule : Rule S) where
    abbrev PlayFrom : ℕ → S → Type 0
    PlayFrom place s = (gs : List Given) × (pieces : ℕ) × (stop : ℕ) × (codes : ℕ) × (why : ℕ) × (t : S) × Plays rule ls extent place s gs pieces stop codes why t

    play_on : (place k n : ℕ) (s : S) (gs : List Given) → ((t : S) → PlayFrom (place + n) t)
        → Cut ls extent place k n → Gives ls k (take n (drop place extent)) gs → Through rule s gs → PlayFrom place s
    play_on place k n s gs more c g (inl (t, l)) =
        let (hs, pieces, stop, codes, why, u, p) = more t in
        (gs ++ hs, pieces + 1, stop, codes, why, u, whole c g l p)
    play_on place k n s gs more c g (inr (gone, h, rest, t, e, l, r)) = (gone, 0, place, length gone, 3, t, broken rest c g e l r)

    play_at : (left place : ℕ) (s : S) → ((place' : ℕ) (t : S) → place' ≤ length extent → length extent ≤ place' + left → PlayFrom place' t)
        → place < length extent → length extent ≤ place + suc left → Found place → PlayFrom place s
    play_at left place s more h i (inl (k, n, c)) =
        let a = c.fits.some in
        let b = c.fits.inside in
        let (gs, g) = cut_gives ls extent place k n c in
        play_on place k n s gs (λ t. more (place + n) t b (omega arith)) c g (through rule gs s)
    play_at left place s more h i (inr z) = ([], 0, place, 0, 1, s, play_stops h z)

    module _ (clear : AllClear ls) where
      play_from : (left place : ℕ) (s : S) → place ≤ length extent → length extent ≤ place + left → PlayFrom place s
      play_from zero place s h i = ([], 0, place, 0, 0, s, play_ends (omega arith))
      play_from (suc left) place s h i = elim (cases_lt place (length extent)) [
        | inl j ↦ play_at left place s (play_from left) j i (cut_decided ls extent place clear)
        | inr j ↦ ([], 0, place, 0, 0, s, play_ends (omega arith))
      ]

      pub play_found : (s : S) → PlayFrom 0 s
      play_found s = play_from (length extent) 0 s (omega arith) (omega arith)
