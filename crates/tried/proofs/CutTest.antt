-- Tests of where an extent is cut, by the moves of the lines, and what they tell of lines that do not clash. Assumes nothing.
use Rattle.std.proofs.Common.{◌≡◌, ℕ, zero, suc, ◌+◌, ◌<◌, ◌≤◌, Bool, true, false, ◌&&◌, ◌||◌, eqb, ltb, leb, ◌⊎◌, List, [], ◌∷◌, length, get_or, take, drop, sym, refl, ap, ◌∙◌, inl, inr, arith}
use Rattle.std.proofs.lemmas.Bool.{true≢false, ltb-true, lt-ltb, leb-true, le-leb, eqb-true, and_parts, or_cases}
use Rattle.meaning.specs.Words.{none, Line, Word, Of, Clash, classes}
use Rattle.meaning.specs.Positions.{has, end_mark, first_set, move_all}
use Rattle.meaning.specs.Pieces.{Nth, WordAt, Cut, NothingAt}
use Rattle.meaning.specs.ReadLaws.{AllClear}
use Rattle.meaning.specs.Doers.{gives, Gives}
use Rattle.meaning.proofs.Law.{followpos_law_lem}
use Rattle.meaning.proofs.Clashes.{one_word}
use Rattle.meaning.proofs.Nths.{one_nth, nth_below, nth_each}
use Rattle.tried.proofs.Below.{every, every_each, each_every, implies, implied, all_below, below_all}

-- the line k, or that of the empty word where none stands
abbrev line_at : List Line → ℕ → Line
line_at ls k = get_or ls k (record { open_code = 0; close_code = 0; expr = none })

nth_line : (ls : List Line) (k : ℕ) → k < length ls → Nth ls k (line_at ls k)
nth_line [] k h = absurd (omega arith)
nth_line (l ∷ ls) zero h = ([], ls, refl, refl)
nth_line (l ∷ ls) (suc k) h = let (front, back, e, n) = nth_line ls k (omega arith) in (l ∷ front, back, ap (λ ms. l ∷ ms) e, ap suc n)

-- α are the classes of a word of the line
abbrev has_word : Line → List ℕ → Bool
has_word l α = has (move_all l (first_set l) α) (end_mark l)

-- the length m is less than n, or the line j with it comes no earlier than k
abbrev no_better : (k n j m : ℕ) → Bool
no_better k n j m = ltb m n || (eqb m n && leb k j)

no_better_true : (k n j m : ℕ) → no_better k n j m ≡ true → (m < n) ⊎ ((m ≡ n) × (k ≤ j))
no_better_true k n j m h = elim (or_cases (ltb m n) (eqb m n && leb k j) h) [
  | inl e ↦ inl (ltb-true m n e)
  | inr e ↦ let i = and_parts (eqb m n) (leb k j) e in inr (eqb-true m n i.0, leb-true k j i.1)
]

module _ (ls : List Line) (extent : List ℕ) (place : ℕ) where
  abbrev word_tests : (k n : ℕ) → List Bool
  word_tests k n = ltb k (length ls) ∷ ltb 0 n ∷ leb (place + n) (length extent) ∷ has_word (line_at ls k) (take n (drop place extent)) ∷ []

  -- the line k has a word of the length n at the place
  abbrev word_test : (k n : ℕ) → Bool
  word_test k n = every (word_tests k n)

  word_by : (k n : ℕ) → word_test k n ≡ true → WordAt ls extent place k n
  word_by k n h =
      let (a, (b, (c, (d, z)))) = every_each (word_tests k n) h in
      let (w, o, e) = (followpos_law_lem (line_at ls k) (take n (drop place extent))).1 d in
      record {
        line = line_at ls k;
        stands = nth_line ls k (ltb-true k (length ls) a);
        word = w;
        of_line = o;
        some = ltb-true 0 n b;
        inside = leb-true (place + n) (length extent) c;
        same = e;
      }

  by_word : (k n : ℕ) → WordAt ls extent place k n → word_test k n ≡ true
  by_word k n f =
      let α : List ℕ = take n (drop place extent) in
      let h = nth_below ls k f.line f.stands in
      let e = one_nth ls k (line_at ls k) f.line (nth_line ls k h) f.stands in
      each_every (word_tests k n) (
        lt-ltb k (length ls) h,
        (
          lt-ltb 0 n f.some,
          (
            le-leb (place + n) (length extent) f.inside,
            (ap (λ l. has_word l α) e ∙ (followpos_law_lem f.line α).0 (f.word, f.of_line, f.same), tt),
          ),
        ),
      )

  -- every line and length that has a word passes
  abbrev each_word : (ℕ → ℕ → Bool) → Bool
  each_word f = all_below (length ls) (λ k. all_below (suc (length extent)) (λ n. implies (word_test k n) (f k n)))

  word_each : (f : ℕ → ℕ → Bool) → each_word f ≡ true → (k n : ℕ) → WordAt ls extent place k n → f k n ≡ true
  word_each f h k n g =
      let i = g.inside in
      implied (word_test k n) (f k n)
      (below_all (suc (length extent)) (λ n. implies (word_test k n) (f k n))
      (below_all (length ls) (λ k. all_below (suc (length extent)) (λ n. implies (word_test k n) (f k n))) h k (nth_below ls k g.line g.stands)) n (omega arith))
      (by_word k n g)

  pub nothing_by : each_word (λ k n. false) ≡ true → NothingAt ls extent place
  nothing_by h k n f = true≢false (sym (word_each (λ k n. false) h k n f))

  pub cut_by : AllClear ls → (k n : ℕ) → (word_test k n && each_word (no_better k n)) ≡ true → Cut ls extent place k n
  cut_by clear k n h =
      let i = and_parts (word_test k n) (each_word (no_better k n)) h in
      let f = word_by k n i.0 in
      record {
        fits = f;
        one_coding = λ v o e. one_word f.line (nth_each (λ l. Clash l.expr → ⊥) ls k f.line f.stands clear) v f.word o f.of_line e;
        longest = λ j m g. no_better_true k n j m (word_each (no_better k n) i.1 j m g);
      }

pub gives_by : (ls : List Line) (k : ℕ) (l : Line) (w : Word) → AllClear ls → Nth ls k l → Of l.expr w → Gives ls k (classes w) (gives l w)
gives_by ls k l w clear s o = record {
  line = l;
  stands = s;
  word = w;
  of_line = o;
  spelled = refl;
  given = refl;
  only = λ v n d. ap (gives l) (one_word l (nth_each (λ l. Clash l.expr → ⊥) ls k l s clear) v w n o d);
}
