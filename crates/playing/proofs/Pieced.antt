-- What a play answers, from what was found and given. Assumes nothing.
use Rattle.std.proofs.Common.{◌≡◌, ℕ, ◌+◌, ◌-◌, ◌<◌, ◌≤◌, true, List, length, get_or, take, drop, sym, ap, ◌∙◌, subst, arith}
use lib.ListN.{length-map}
use Rattle.std.proofs.lemmas.List.{take-map, drop-map, length-take-le, length-drop}
use Rattle.meaning.specs.Words.{Line, Word, Of, classes}
use Rattle.meaning.specs.Alphabets.{seen}
use Rattle.meaning.specs.Pieces.{Cut}
use Rattle.meaning.specs.Doers.{Given, Rule, Leads, gives}
use Rattle.meaning.specs.Runs.{Means, Mean, played}
use Rattle.meaning.proofs.Nths.{one_nth, nth_below}
use Rattle.meaning.proofs.Answered.{play_leads}
use Rattle.meaning.proofs.Outcomes.{cut_gives}
use Rattle.sheet.specs.declared.entry.Entry.{Entry}
use Rattle.sheet.specs.Entries.{text_of}
use Rattle.plate.specs.declared.desk.Desk.{Desk}
use Rattle.plate.specs.declared.open.Plate.{Plate}
use Rattle.plate.specs.Desks.{texts_of, is_built}
use Rattle.plate.specs.Plates.{account}
use Rattle.plate.proofs.Meant.{lines_of, lines_length, line_at}
use Rattle.playing.specs.Performances.{Offered, Performed, performs}
use Rattle.playing.proofs.Led.{length_rest}
use Rattle.playing.proofs.Going.{Ended, PieceOffered}

-- the line of a piece stands
pub piece_line : (d : Desk) (ls : List Line) → d.standing ≤ length d.entries → Mean (texts_of d) ls → (extent : List ℕ) (place k n : ℕ) → Cut ls extent place k n → k < d.standing
piece_line d ls fits m extent place k n c = omega (arith, lines_length d.entries d.standing fits ls m, nth_below ls k c.fits.line c.fits.stands)

-- what a piece gives, and what becomes of it where its line's record was offered with its symbols
pub piece_gives : {X S : Type 0} (class : X → ℕ) (rule : Rule S) (d : Desk) (ls : List Line) → d.standing ≤ length d.entries → (m : Mean (texts_of d) ls)
    → (extent : List X) (place k n : ℕ) (c : Cut ls (seen class extent) place k n)
    → (e : Entry) → e ≡ get_or d.entries k e → (s t : S) (taken : ℕ)
    → ((l : Line) (w : Word) → Means (text_of e) l → Of l.expr w → classes w ≡ seen class (take (place + n - place) (drop place extent)) → Offered rule s (gives l w) taken t)
    → PieceOffered rule ls (seen class extent) place k n s taken t
piece_gives class rule d ls fits m extent place k n c e is s t taken offered =
    let below = piece_line d ls fits m (seen class extent) place k n c in
    let (l, stands, means) = line_at d.entries d.standing fits ls m k e below in
    let (gs, g) = cut_gives ls (seen class extent) place k n c in
    let same : l ≡ g.line = one_nth ls k l g.line stands g.stands in
    let mine : Means (text_of e) g.line = subst (λ y. Means (text_of y) g.line) (sym is) (subst (Means (text_of (get_or d.entries k e))) same means) in
    let inside = c.fits.inside in
    let long : length g.word ≡ n =
    sym (length-map g.word (λ p. p.class)) ∙ ap length g.spelled ∙ length-take-le n (drop place (seen class extent)) (omega (arith, length-drop place (seen class extent))) in
    let seen_part : take n (drop place (seen class extent)) ≡ seen class (take (place + n - place) (drop place extent)) =
    ap (take n) (drop-map class place extent) ∙ take-map class n (drop place extent) ∙ ap (λ i. seen class (take i (drop place extent))) (omega arith) in
    record {
      cut = c;
      given = gs;
      gives = g;
      many = ap length (sym g.given) ∙ omega (arith, length_rest g.line g.word);
      offered = subst (λ hs. Offered rule s hs taken t) g.given (offered g.line g.word mine g.of_line (g.spelled ∙ seen_part));
    }

module _ {X S : Type 0} (p : Plate) (class : X → ℕ) (extent : List X) (rule : Rule S) (s : S) (pieces place codes why : ℕ) (t : S) where
  -- what is told of a play, whatever its doer was given before, and where it leads the doer
  abbrev pub Told : Type 0
  Told =
      ((h : List Given) → Performed rule (account p h) (seen class extent) s (played pieces place codes why) t)
      × ((gs : List Given) × Leads rule s gs t)

  pub told_out : is_built p.desk ≡ true → length extent ≤ 32768 → ((ls : List Line) → Mean (texts_of p.desk) ls → Ended rule ls (seen class extent) s pieces place codes why t) → Told
  told_out built short f =
      let (ls, m) = lines_of p.desk in
      let (gs, a) = f ls m in
      ((λ h. performs ls built (omega (arith, length-map extent class)) m a), (gs, play_leads rule a))
