-- A cut is one, pieces from one place agree as far as both go, and a reading is one. Assumes nothing.
use Rattle.std.proofs.Common.{◌≡◌, ℕ, ◌+◌, ◌<◌, ◌≤◌, List, ◌++◌, length, sym, refl, ap, ◌∙◌, subst, inl, inr, append-nil, arith, length-append}
use Rattle.std.proofs.lemmas.Bool.{cases_lt}
use Rattle.meaning.specs.Words.{Line}
use Rattle.meaning.specs.declared.Piece.{Piece}
use Rattle.meaning.specs.Pieces.{Cut, Cuts, none, one_more, Why, at_end, no_piece, full, Reading}
use Rattle.meaning.specs.ReadLaws.{total}

module _ (ls : List Line) (extent : List ℕ) where
  pub one_cut : {place k n j m : ℕ} → Cut ls extent place k n → Cut ls extent place j m → (k ≡ j) × (n ≡ m)
  one_cut {k = k} {n = n} {j = j} {m = m} c d =
      let h = c.longest j m d.fits in
      let i = d.longest k n c.fits in
      (omega arith, omega arith)

  -- a cut is inside the extent
  pub cut_inside : {place k n : ℕ} → Cut ls extent place k n → place < length extent
  cut_inside c = let h = c.fits.some in let i = c.fits.inside in omega arith

  pub cuts_agree : {place place' s t : ℕ} {ps qs : List Piece} → Cuts ls extent place ps s → Cuts ls extent place' qs t → place ≡ place'
      → length ps ≤ length qs → (rest : List Piece) × (qs ≡ ps ++ rest) × Cuts ls extent s rest t
  cuts_agree {t = t} {qs = qs} none b e h = (qs, refl, subst (λ p. Cuts ls extent p qs t) (sym e) b)
  cuts_agree (one_more c a) none e h = absurd (omega arith)
  cuts_agree (one_more c a) (one_more {k = j} {n = m} d b) e h =
      let (f, g) = one_cut c (subst (λ x. Cut ls extent x j m) (sym e) d) in
      let (rest, i, r) = cuts_agree a b (omega arith) (omega arith) in
      (rest, cc, r)

  one_why : {room listed room' listed' place v w : ℕ} → Why ls extent room listed place v → Why ls extent room' listed' place w → v ≡ w
  one_why (at_end h) (at_end k) = refl
  one_why (at_end h) (no_piece k g) = absurd (omega arith)
  one_why (at_end h) (full c k) = let i = cut_inside c in absurd (omega arith)
  one_why (no_piece h f) (at_end k) = absurd (omega arith)
  one_why (no_piece h f) (no_piece k g) = refl
  one_why (no_piece h f) (full {k = k} {n = n} c o) = absurd (f k n c.fits)
  one_why (full c h) (at_end k) = let i = cut_inside c in absurd (omega arith)
  one_why (full {k = k} {n = n} c h) (no_piece o g) = absurd (g k n c.fits)
  one_why (full c h) (full d k) = refl

  -- where a piece begins a read ends only in want of room
  why_full : {room listed place k n v : ℕ} → Why ls extent room listed place v → Cut ls extent place k n → listed ≡ room
  why_full (at_end h) c = let i = cut_inside c in absurd (omega arith)
  why_full {k = k} {n = n} (no_piece h f) c = absurd (f k n c.fits)
  why_full (full d h) c = h

  module _ (room : ℕ) (ps : List Piece) (v w : ℕ) where
    no_more : {s t : ℕ} {rest qs : List Piece} → Cuts ls extent s rest t → qs ≡ ps ++ rest → Why ls extent room (length ps) s v
        → Why ls extent room (length qs) t w → length qs ≤ room → (ps ≡ qs) × (s ≡ t) × (v ≡ w)
    no_more none e f g h = (sym (e ∙ append-nil ps), refl, one_why f g)
    no_more (one_more c a) e f g h =
        let i = why_full f c in
        absurd (omega (arith, simp length-append at (ap length e)))

  shorter_reading : (room : ℕ) (ps qs : List Piece) (s t v w : ℕ) → Reading ls extent room ps s v → Reading ls extent room qs t w → length ps ≤ length qs
      → (ps ≡ qs) × (s ≡ t) × (v ≡ w)
  shorter_reading room ps qs s t v w a b h =
      let (rest, e, r) = cuts_agree a.cuts b.cuts refl h in
      no_more room ps v w r e a.ends b.ends b.fits

  pub one_reading_lem : (room : ℕ) (ps qs : List Piece) (s t v w : ℕ) → Reading ls extent room ps s v → Reading ls extent room qs t w → (ps ≡ qs) × (s ≡ t) × (v ≡ w)
  one_reading_lem room ps qs s t v w a b = elim (cases_lt (length qs) (length ps)) [
    | inl h ↦
        let (e, f, g) = shorter_reading room qs ps t s w v b a (omega arith) in
        (sym e, sym f, sym g)
    | inr h ↦ shorter_reading room ps qs s t v w a b h
  ]

  -- the lengths add up to the way from the first place to the last
  adds_up : {place stop : ℕ} {ps : List Piece} → Cuts ls extent place ps stop → place + total ps ≡ stop
  adds_up none = omega arith
  adds_up (one_more c a) = let h = adds_up a in omega arith

  pub lengths_add : (place stop : ℕ) (ps : List Piece) → Cuts ls extent place ps stop → place + total ps ≡ stop
  lengths_add place stop ps a = adds_up a

  cuts_inside : {place stop : ℕ} {ps : List Piece} → Cuts ls extent place ps stop → place ≤ length extent → stop ≤ length extent
  cuts_inside none h = h
  cuts_inside (one_more c a) h = cuts_inside a c.fits.inside

  pub reading_inside : (room : ℕ) (ps : List Piece) (place why : ℕ) → Reading ls extent room ps place why → (total ps ≡ place) × (place ≤ length extent)
  reading_inside room ps place why r = (omega (arith, adds_up r.cuts), cuts_inside r.cuts (omega arith))
