-- What a test tells, by its line and its code cells. Assumes nothing.
use Rattle.std.proofs.Common.{◌≡◌, ℕ, ◌+◌, ◌<◌, ◌≤◌, Bool, true, false, List, ◌++◌, length, get_or, take, drop, sym, refl, ap, ◌∙◌, subst, ap₂, arith}
use lib.ListN.{length-map}
use Rattle.std.proofs.lemmas.List.{take-append-drop}
use Rattle.std.proofs.lemmas.Bool.{both_ways}
use Rattle.meaning.specs.Words.{Line, Word, Of, classes, line_codes, Clash}
use Rattle.meaning.specs.Alphabets.{seen}
use Rattle.meaning.specs.Positions.{has, first_set, end_mark, move_all}
use Rattle.meaning.specs.Pieces.{Nth}
use Rattle.meaning.specs.Doers.{Given}
use Rattle.meaning.specs.Runs.{Account, Means, Mean, plain}
use Rattle.meaning.specs.Tests.{Tested, unbuilt, long, no_line, few_cells, a_word, no_word, word, declined}
use Rattle.meaning.proofs.Law.{followpos_law_lem}
use Rattle.meaning.proofs.Clashes.{one_word}
use Rattle.sheet.specs.declared.entry.Entry.{Entry}
use Rattle.sheet.specs.declared.refusal.Refusal.{Refusal}
use Rattle.sheet.specs.Refusals.{reported}
use Rattle.sheet.specs.Entries.{text_of}
use Rattle.sheet.proofs.Entries.{record_clear as clear}
use Rattle.plate.specs.declared.open.Plate.{Plate}
use Rattle.plate.specs.Desks.{texts_of, is_built}
use Rattle.plate.specs.Cells.{Unready, away, unbuilt as not_built, long as too_long}
use Rattle.plate.proofs.Standing.{texts_length}
use Rattle.plate.proofs.Meant.{lines_of, line_at}
use Rattle.plate.specs.Plates.{account}

module _ (a : Account) (k : ℕ) (xs cells : List ℕ) (ls : List Line) (l : Line) (built : a.built ≡ true) (short : length xs ≤ 32768) (room : length xs + 2 ≤ length cells)
    (m : Mean a.texts ls) (stands : Nth ls k l) where
  pub false_told : has (move_all l (first_set l) xs) (end_mark l) ≡ false → Tested a k xs cells (word false) cells
  false_told e = no_word built short room m stands (λ β (w, o, d, _). both_ways _ e ((followpos_law_lem l xs).0 (w, o, d)))

  pub true_told : (Clash l.expr → ⊥) → has (move_all l (first_set l) xs) (end_mark l) ≡ true → (after : List ℕ) → drop (length xs + 2) after ≡ drop (length xs + 2) cells
      → ((w : Word) → Of l.expr w → classes w ≡ xs → take (length xs + 2) after ≡ line_codes l w) → Tested a k xs cells (word true) after
  true_told clash e after beyond codes =
      let (w, o, d) = (followpos_law_lem l xs).1 e in
      subst (λ ys. Tested a k xs cells (word true) ys) (ap₂ (λ x y. x ++ y) (sym (codes w o d)) (sym beyond) ∙ take-append-drop (length xs + 2) after)
      (a_word built short room m stands (w, o, d, refl) (λ γ (v, p, f, r). sym r ∙ ap (line_codes l) (one_word l clash v w p o (f ∙ sym d))))

module _ {X : Type 0} (p : Plate) (class : X → ℕ) (extent : List X) (k : ℕ) (cells : List ℕ) (h : List Given) where
  seen_length : length (seen class extent) ≡ length extent
  seen_length = length-map extent class

  stand : length (texts_of p.desk) ≡ p.desk.standing
  stand = texts_length p.desk.entries p.desk.standing (omega (arith, p.desk.few, p.desk.full))

  pub unready_told : (count : ℕ) (f : Refusal) → p.desk.count ≡ count → Unready count p.desk (length extent) f → Tested (account p h) k (seen class extent) cells (declined (reported f)) cells
  unready_told count _ e (away n) = absurd (n e)
  unready_told count _ e (not_built _ b) = unbuilt b
  unready_told count _ e (too_long _ b l) = long b (omega (arith, seen_length))

  module _ (built : is_built p.desk ≡ true) (short : length extent ≤ 32768) where
    pub no_line_told : p.desk.standing ≤ k → Tested (account p h) k (seen class extent) cells (declined (plain 9 4)) cells
    no_line_told n = no_line built (omega (arith, seen_length)) (omega (arith, stand))

    module _ (below : k < p.desk.standing) where
      pub few_cells_told : length cells < length extent + 2 → Tested (account p h) k (seen class extent) cells (declined (plain 10 4)) cells
      few_cells_told n = few_cells built (omega (arith, seen_length)) (omega (arith, stand)) (omega (arith, seen_length))

      -- e is the record of the line
      module _ (e : Entry) (is : e ≡ get_or p.desk.entries k e) (room : length extent + 2 ≤ length cells) where
        abbrev LineHere : Type 0
        LineHere = (ls : List Line) × (l : Line) × Mean (texts_of p.desk) ls × Nth ls k l × Means (text_of e) l

        line_here : LineHere
        line_here =
            let (ls, m) = lines_of p.desk in
            let (l, n, o) = line_at p.desk.entries p.desk.standing (omega (arith, p.desk.few, p.desk.full)) ls m k e below in
            (ls, l, m, n, subst (λ x. Means (text_of x) l) (sym is) o)

        pub word_told : (b : Bool) → ((l : Line) → Means (text_of e) l → b ≡ has (move_all l (first_set l) (seen class extent)) (end_mark l))
            → b ≡ false → Tested (account p h) k (seen class extent) cells (word false) cells
        word_told b f d =
            let (ls, l, m, n, o) = line_here in
            false_told (account p h) k (seen class extent) cells ls l built (omega (arith, seen_length)) (omega (arith, seen_length)) m n (sym (f l o) ∙ d)

        pub codes_told : (b : Bool) → ((l : Line) → Means (text_of e) l → b ≡ has (move_all l (first_set l) (seen class extent)) (end_mark l))
            → b ≡ true → (after : List ℕ) → drop (length extent + 2) after ≡ drop (length extent + 2) cells
            → ((l : Line) → Means (text_of e) l → (w : Word) → Of l.expr w → classes w ≡ seen class extent → take (length extent + 2) after ≡ line_codes l w)
            → Tested (account p h) k (seen class extent) cells (word true) after
        codes_told b f d after beyond codes =
            let (ls, l, m, n, o) = line_here in
            true_told (account p h) k (seen class extent) cells ls l built (omega (arith, seen_length)) (omega (arith, seen_length)) m n (clear e l o) (sym (f l o) ∙ d) after
            (subst (λ i. drop (i + 2) after ≡ drop (i + 2) cells) (sym seen_length) beyond)
            (λ w q r. subst (λ i. take (i + 2) after ≡ line_codes l w) (sym seen_length) (codes l o w q r))
