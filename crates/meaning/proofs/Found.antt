-- A place where a word of lines that do not clash fits has a piece, and it is decided whether one does. Assumes nothing.
use Rattle.std.proofs.Common.{◌≡◌, ℕ, suc, ◌+◌, ◌-◌, ◌<◌, ◌≤◌, true, ◌⊎◌, List, length, take, drop, subst, inl, inr, arith}
use Rattle.std.proofs.lemmas.Bool.{cases_lt}
use Rattle.meaning.specs.Words.{Line, Clash}
use Rattle.meaning.specs.Positions.{has, first_set, end_mark, move_all}
use Rattle.meaning.specs.Pieces.{Nth, WordAt, Cut, NothingAt}
use Rattle.meaning.specs.ReadLaws.{AllClear}
use Rattle.meaning.proofs.Nths.{one_nth, nth_at, nth_below, nth_each}
use Rattle.meaning.proofs.Law.{followpos_law_lem}
use Rattle.meaning.proofs.Clashes.{one_word}
use Rattle.meaning.proofs.Least.{dec_true, least, least_below, dec_below}

module _ (ls : List Line) (extent : List ℕ) (place : ℕ) where
  fit_below : {k n : ℕ} → WordAt ls extent place k n → k < length ls
  fit_below {k = k} f = nth_below ls k f.line f.stands

  -- the line l, numbered k, has a word of n classes
  abbrev pub EndsAt : Line → ℕ → Type 0
  EndsAt l n = has (move_all l (first_set l) (take n (drop place extent))) (end_mark l) ≡ true

  pub fit_ends : {k n : ℕ} (l : Line) → Nth ls k l → WordAt ls extent place k n → EndsAt l n
  fit_ends {k = k} {n = n} l s f =
      subst (λ x. EndsAt x n) (one_nth ls k f.line l f.stands s) ((followpos_law_lem f.line (take n (drop place extent))).0 (f.word, f.of_line, f.same))

  pub ends_fit : {k n : ℕ} (l : Line) → Nth ls k l → 0 < n → place + n ≤ length extent → EndsAt l n → WordAt ls extent place k n
  ends_fit {n = n} l s h i e =
      let (w, o, d) = (followpos_law_lem l (take n (drop place extent))).1 e in
      record { line = l; stands = s; word = w; of_line = o; some = h; inside = i; same = d }

  dec_line : (k n : ℕ) (l : Line) → Nth ls k l → 0 < n → place + n ≤ length extent → Dec (WordAt ls extent place k n)
  dec_line k n l s h i = elim (dec_true (has (move_all l (first_set l) (take n (drop place extent))) (end_mark l))) [
    | yes e ↦ yes (ends_fit l s h i e)
    | no e ↦ no (λ f. e (fit_ends l s f))
  ]

  dec_fits : (k n : ℕ) → Dec (WordAt ls extent place k n)
  dec_fits k n = elim (cases_lt k (length ls)) [
    | inl h ↦ elim (cases_lt 0 n) [
      | inl i ↦ elim (cases_lt (length extent) (place + n)) [
        | inl j ↦ no (λ f. let g = f.inside in omega arith)
        | inr j ↦ (let (l, s) = nth_at ls k h in dec_line k n l s i j)
      ]
      | inr i ↦ no (λ f. let g = f.some in omega arith)
    ]
    | inr h ↦ no (λ f. let g = fit_below f in omega arith)
  ]

  -- some line has a word that is i classes shorter than the extent
  abbrev ShortBy : ℕ → Type 0
  ShortBy i = (k : ℕ) × (k < length ls) × WordAt ls extent place k (length extent - i)

  dec_short : (i : ℕ) → Dec (ShortBy i)
  dec_short i = dec_below (λ k. WordAt ls extent place k (length extent - i)) (λ k. dec_fits k (length extent - i)) (length ls)

  short_by : (k n : ℕ) → WordAt ls extent place k n → ShortBy (length extent - n)
  short_by k n f =
      let h = f.inside in
      (k, fit_below f, subst (WordAt ls extent place k) (omega arith) f)

  module _ (clear : AllClear ls) where
    clear_line : {k n : ℕ} (f : WordAt ls extent place k n) → Clash f.line.expr → ⊥
    clear_line {k = k} f = nth_each (λ l. Clash l.expr → ⊥) ls k f.line f.stands clear

    -- the least shortage, and then the least line
    longest_cut : (i : ℕ) → ((i' : ℕ) → ShortBy i' → i ≤ i') → ShortBy i → (k : ℕ) × (n : ℕ) × Cut ls extent place k n
    longest_cut i h (j, o, f) =
        let (k, (g, low)) = least (λ x. WordAt ls extent place x (length extent - i)) (λ x. dec_fits x (length extent - i)) j f in (
          k,
          length extent - i,
          record {
            fits = g;
            one_coding = λ v p e. one_word g.line (clear_line g) v g.word p g.of_line e;
            longest = λ y m q. earliest k low y m q (cases_lt m (length extent - i));
          },
        )
      where
        earliest : (k : ℕ) → ((x : ℕ) → WordAt ls extent place x (length extent - i) → k ≤ x) → (y m : ℕ) → WordAt ls extent place y m
            → (m < length extent - i) ⊎ (length extent - i ≤ m) → (m < length extent - i) ⊎ ((m ≡ length extent - i) × (k ≤ y))
        earliest k low y m q (inl p) = inl p
        earliest k low y m q (inr p) =
            let s = h (length extent - m) (short_by y m q) in
            let b = q.inside in
            let e : m ≡ length extent - i = omega arith in
            inr (e, low y (subst (WordAt ls extent place y) e q))

    pub cut_found : (j m : ℕ) → WordAt ls extent place j m → (k : ℕ) × (n : ℕ) × Cut ls extent place k n
    cut_found j m f =
        let (i, (s, low)) = least ShortBy dec_short (length extent - m) (short_by j m f) in
        longest_cut i low s

    pub cut_decided : ((k : ℕ) × (n : ℕ) × Cut ls extent place k n) ⊎ NothingAt ls extent place
    cut_decided = elim (least_below ShortBy dec_short (suc (length extent))) [
      | inl (i, (s, low)) ↦ inl (longest_cut i low s)
      | inr none ↦ inr (λ k n f. none (length extent - n) (omega arith) (short_by k n f))
    ]
