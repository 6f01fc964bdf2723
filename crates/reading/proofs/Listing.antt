-- A read's list as its pieces are written, and its answer. Assumes nothing.
use Rattle.std.proofs.Common.{◌≡◌, ℕ, ◌+◌, ◌<◌, ◌≤◌, true, List, [], ◌∷◌, ◌++◌, length, take, drop, set, sym, refl, ap, ◌∙◌, subst, arith, length-take-le}
use lib.ListN.{length-map}
use Rattle.std.proofs.lemmas.List.{take-append-drop, take_more_set}
use Rattle.meaning.specs.declared.Piece.{Piece}
use Rattle.meaning.specs.Words.{Line}
use Rattle.meaning.specs.Alphabets.{seen}
use Rattle.meaning.specs.Pieces.{Cut, Cuts, none, one_more, Why}
use Rattle.meaning.specs.Doers.{Given}
use Rattle.meaning.specs.Runs.{Account, Mean, Refuses, unbuilt, long, Listed, read_out, listed}
use Rattle.sheet.specs.declared.refusal.Refusal.{Refusal}
use Rattle.sheet.specs.declared.refusal.Refusal.TheVariants.{NotOpen}
use Rattle.sheet.specs.Refusals.{reported}
use Rattle.plate.specs.declared.desk.Desk.{Desk}
use Rattle.plate.specs.declared.open.Plate.{Plate}
use Rattle.plate.specs.Desks.{texts_of, is_built}
use Rattle.plate.specs.Cells.{Unready, away, unbuilt as not_built, long as too_long}
use Rattle.plate.proofs.Meant.{lines_of}
use Rattle.plate.specs.Plates.{account}

module _ (ls : List Line) (extent : List ℕ) where
  -- one piece more
  cuts_more : {place s : ℕ} {ps : List Piece} (k n : ℕ) → Cuts ls extent place ps s → Cut ls extent s k n → Cuts ls extent place (ps ++ record { line = k; place = s; len = n } ∷ []) (s + n)
  cuts_more k n none c = one_more c none
  cuts_more k n (one_more d r) c = one_more d (cuts_more k n r c)

  pub cuts_written : (list : List Piece) (i place : ℕ) (p : Piece) → i < length list → Cuts ls extent 0 (take i list) place → p.place ≡ place → Cut ls extent place p.line p.len
      → Cuts ls extent 0 (take (i + 1) (set list i p)) (place + p.len)
  cuts_written list i place p h a e c =
      let same : record { line = p.line; place = place; len = p.len } ≡ p = sym (λ j. record { line = p.line; place = e j; len = p.len }) in
      subst (λ ps. Cuts ls extent 0 ps (place + p.len)) (ap (λ q. take i list ++ q ∷ []) same ∙ sym (take_more_set list i p h)) (cuts_more p.line p.len a c)

  pub listed_out : (a : Account) (list after : List Piece) (n place why : ℕ) → a.built ≡ true → length extent ≤ 32768 → Mean a.texts ls
      → Cuts ls extent 0 (take n after) place → n ≤ length after → length after ≡ length list → drop n after ≡ drop n list → Why ls extent (length list) n place why
      → Listed a extent list (listed after n place why)
  listed_out a list after n place why built short m cuts fits many same ends =
      let some : length (take n after) ≡ n = length-take-le n after fits in
      let all : take n after ++ drop (length (take n after)) list ≡ after = ap (λ i. take n after ++ drop i list) some ∙ ap (λ xs. take n after ++ xs) (sym same) ∙ take-append-drop n after in
      subst (λ i. Listed a extent list (listed after i place why)) some
      (subst (λ xs. Listed a extent list (listed xs (length (take n after)) place why)) all
      (read_out ls built short m (record { cuts = cuts; fits = omega arith; ends = subst (λ i. Why ls extent (length list) i place why) (sym some) ends })))

-- what a read of a built plate tells
pub heard_out : {X : Type 0} (p : Plate) (class : X → ℕ) (extent : List X) (list after : List Piece) (n place why : ℕ) → is_built p.desk ≡ true → length extent ≤ 32768
    → n ≤ length after → length after ≡ length list → drop n after ≡ drop n list
    → ((ls : List Line) → Mean (texts_of p.desk) ls → Cuts ls (seen class extent) 0 (take n after) place × Why ls (seen class extent) (length list) n place why)
    → (h : List Given) → Listed (account p h) (seen class extent) list (listed after n place why)
heard_out p class extent list after n place why built short fits many same f h =
    let (ls, m) = lines_of p.desk in
    listed_out ls (seen class extent) (account p h) list after n place why built (omega (arith, length-map extent class)) m (f ls m).0 fits many same
    (f ls m).1

-- a call of another count
pub away_out : (count : ℕ) (d : Desk) (len : ℕ) (f : Refusal) → Unready count d len f → (d.count ≡ count → ⊥) → f ≡ NotOpen
away_out count d len _ (away n) o = refl
away_out count d len _ (not_built e b) o = absurd (o e)
away_out count d len _ (too_long e b l) o = absurd (o e)

-- a read that is refused
pub refused_out : {X : Type 0} (count : ℕ) (p : Plate) (class : X → ℕ) (extent : List X) (h : List Given) (f : Refusal) → p.desk.count ≡ count
    → Unready count p.desk (length extent) f → Refuses (account p h) (seen class extent) (reported f)
refused_out count p class extent h _ e (away n) = absurd (n e)
refused_out count p class extent h _ e (not_built _ b) = unbuilt b
refused_out count p class extent h _ e (too_long _ b l) = long b (omega (arith, length-map extent class))
