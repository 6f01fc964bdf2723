-- The twelve cases, each by its tests, and what they rule out, by the laws of one answer. Assumes nothing.
use Rattle.std.proofs.Common.{◌≡◌, ℕ, true, List, [], ◌∷◌, length, get_or, codes as ascii, sym, refl, ap, ◌∙◌, subst, arith, lit<}
use Rattle.std.specs.Fmt.{digits}
use Rattle.meaning.specs.Alphabets.{byte_count}
use Rattle.meaning.specs.Words.{Line, Clash}
use Rattle.meaning.specs.Text.{written}
use Rattle.meaning.specs.States.{State}
use Rattle.meaning.specs.Pieces.{none, one_more, at_end as read_all, no_piece as read_short}
use Rattle.meaning.specs.ReadLaws.{AllClear}
use Rattle.meaning.specs.Doers.{slip_rule, stays, takes}
use Rattle.meaning.specs.Runs.{Means, TextRefused, TextAccepted, at_end, broken, whole}
use Rattle.meaning.proofs.Numbers.{one_complete}
use Rattle.meaning.proofs.Cutting.{one_reading_lem}
use Rattle.meaning.proofs.Playing.{one_play}
use Rattle.meaning.proofs.Translated.{translated}
use Rattle.meaning.proofs.Determined.{one_mean, one_refused, not_refused}
use Rattle.tried.specs.Cases as text
use Rattle.tried.specs.Cases.{Standing, clash_at, Worked, RuledOut}
use Rattle.tried.proofs.Lines.{no_symbols, three_ways, two_ways, third_way, abb, ranges, numeral, word_03, word_25, word_250}
use Rattle.tried.proofs.ClashTest.{clear_test, clear_by, clash_test, clash_by}
use Rattle.tried.proofs.TextTest.{sound_test, sound_by, accepted, refused}
use Rattle.tried.proofs.StateTest.{states_by}
use Rattle.tried.proofs.CutTest.{nothing_by, cut_by, gives_by}

-- a text that is accepted, and its line
record Accepted (t : List ℕ) (l : Line) : Type 0 where
  pub taken : TextAccepted byte_count t
  pub means : Means t l
  pub clear : Clash l.expr → ⊥

accepted_by : (t : List ℕ) (l : Line) → t ≡ written l → sound_test byte_count t l ≡ true → clear_test l ≡ true → Accepted t l
accepted_by t l e h k =
    let s = sound_by byte_count t l e h in
    let clear = clear_by l k in
    record { taken = accepted s clear; means = s.means; clear = clear }

refused_by : (t : List ℕ) (l : Line) (α : List ℕ) (c p q : ℕ) → t ≡ written l → sound_test byte_count t l ≡ true → clash_test l α c p q ≡ true
    → TextRefused byte_count t (clash_at p q)
refused_by t l α c p q e h k = refused (sound_by byte_count t l e h) (clash_by l α c p q k)

-- what holds of the lines that the texts write
one_stands : {t : List ℕ} {l : Line} (P : List Line → Type 0) → Accepted t l → P (l ∷ []) → Standing (t ∷ []) P
one_stands P a p = (_, (a.taken, tt), (a.means, tt), p)

two_stand : {s t : List ℕ} {k l : Line} (P : List Line → Type 0) → Accepted s k → Accepted t l → P (k ∷ l ∷ []) → Standing (s ∷ t ∷ []) P
two_stand P a b p = (_, (a.taken, (b.taken, tt)), (a.means, (b.means, tt)), p)

-- the line that stands is the one that the text writes
of_line : {t : List ℕ} {l : Line} (P : List Line → Type 0) → Accepted t l → Standing (t ∷ []) P → P (l ∷ [])
of_line {t = t} {l = l} P a (ls, b, m, p) = subst P (one_mean (t ∷ []) ls (l ∷ []) m (a.means, tt)) p

-- the sets of the first two lines, with no other line
abbrev state : (a b : ℕ) → State
state a b = a ∷ b ∷ 0 ∷ 0 ∷ 0 ∷ 0 ∷ 0 ∷ 0 ∷ []

no_symbols_accepted : Accepted text.no_symbols no_symbols
unfolding digits
no_symbols_accepted = accepted_by text.no_symbols no_symbols refl refl refl

even_ways_accepted : Accepted text.even_ways (three_ways 1)
unfolding digits
even_ways_accepted = accepted_by text.even_ways (three_ways 1) refl refl refl

two_ways_accepted : Accepted text.two_ways two_ways
unfolding digits
two_ways_accepted = accepted_by text.two_ways two_ways refl refl refl

third_way_accepted : Accepted text.third_way third_way
unfolding digits
third_way_accepted = accepted_by text.third_way third_way refl refl refl

abb_accepted : Accepted text.abb (abb 7)
unfolding digits
abb_accepted = accepted_by text.abb (abb 7) refl refl refl

numeral_accepted : Accepted text.numeral numeral
unfolding digits
numeral_accepted = accepted_by text.numeral numeral refl refl refl

abbrev ways : List Line
ways = two_ways ∷ third_way ∷ []

ways_clear : AllClear ways
ways_clear = (two_ways_accepted.clear, (third_way_accepted.clear, tt))

abb_clear : AllClear (abb 7 ∷ [])
abb_clear = (abb_accepted.clear, tt)

numeral_clear : AllClear (numeral ∷ [])
numeral_clear = (numeral_accepted.clear, tt)

pub cases : Worked
unfolding digits
cases = record {
  empty_word = one_stands _ no_symbols_accepted (
    (state 1 0 ∷ [], states_by byte_count (no_symbols ∷ []) (state 1 0 ∷ []) [] refl, refl),
    λ room h. record { cuts = none; fits = h; ends = read_short (lit< tt) (nothing_by (no_symbols ∷ []) (ascii "a") 0 refl) },
  );
  empty_extent = λ ls room h. record { cuts = none; fits = h; ends = read_all refl };
  two_codes = refused_by text.three_ways (three_ways 4) [] 48 1 5 refl refl refl;
  one_code = even_ways_accepted.taken;
  two_lines =
      let all = state 5 1 ∷ state 10 2 ∷ state 16 0 ∷ state 0 4 ∷ [] in
      two_stand _ two_ways_accepted third_way_accepted (all, states_by byte_count ways all ((0, 48) ∷ (1, 49) ∷ (1, 51) ∷ []) refl, refl);
  second_line =
      let g = gives_by ways 1 third_way _ ways_clear (two_ways ∷ [], [], refl, refl) word_03 in
      two_stand _ two_ways_accepted third_way_accepted (
        λ room h. record { cuts = one_more (cut_by ways (ascii "03") 0 ways_clear 1 2 refl) none; fits = h; ends = read_all refl },
        translated ways 1 (ascii "03") _ g,
        g,
      );
  follow_sets =
      let all = state 7 0 ∷ state 15 0 ∷ state 23 0 ∷ state 39 0 ∷ [] in
      one_stands _ abb_accepted (
        (abb 7, ([], [], refl, refl), record { after_1 = refl; after_2 = refl; after_3 = refl; after_4 = refl; after_5 = refl; end = refl }),
        (all, states_by byte_count (abb 7 ∷ []) all ((0, 97) ∷ (1, 98) ∷ (2, 98) ∷ []) refl, refl),
      );
  one_piece = one_stands _ abb_accepted (λ room h. record {
    cuts = one_more (cut_by (abb 7 ∷ []) (ascii "abbab") 0 abb_clear 0 3 refl) none;
    fits = h;
    ends = read_short (lit< tt) (nothing_by (abb 7 ∷ []) (ascii "abbab") 3 refl);
  });
  late_clash = refused_by text.uneven_abb (abb 8) (ascii "ab") 98 2 5 refl refl refl;
  shared_class = refused_by text.ranges ranges [] 57 1 2 refl refl refl;
  slip_filled = one_stands _ numeral_accepted (
      whole
      (cut_by (numeral ∷ []) (ascii "250") 0 numeral_clear 0 3 refl)
      (gives_by (numeral ∷ []) 0 numeral _ numeral_clear ([], [], refl, refl) word_250)
      (takes refl (takes refl (takes refl (takes refl (takes refl stays)))))
      (at_end refl));
  tape_full = one_stands _ numeral_accepted (
      broken []
      (cut_by (numeral ∷ []) (ascii "25") 0 numeral_clear 0 2 refl)
      (gives_by (numeral ∷ []) 0 numeral _ numeral_clear ([], [], refl, refl) word_25)
      refl
      (takes refl (takes refl (takes refl stays)))
      refl);
}

pub others : RuledOut
others = record {
  no_refusal = not_refused byte_count cases.two_codes;
  other_refusal = λ f r. one_refused byte_count r cases.two_codes;
  other_count = λ n b.
      let (all, s, e) = of_line _ abb_accepted b in
      let (all', s', e') = (of_line _ abb_accepted cases.follow_sets).1 in
      sym e ∙ ap length (one_complete byte_count (abb 7 ∷ []) all all' s s') ∙ e';
  to_the_end = λ room ps why h b.
      let r = of_line _ abb_accepted cases.one_piece room h in
      let (a, e, c) = one_reading_lem (abb 7 ∷ []) (ascii "abbab") room _ ps 3 5 1 why r (of_line _ abb_accepted b) in
      omega arith;
  other_number = λ gs pieces stop codes why n rest b.
      let e = one_play slip_rule (numeral ∷ []) (ascii "250") (of_line _ numeral_accepted b) (of_line _ numeral_accepted cases.slip_filled) refl refl in
      ap (λ s. get_or s 0 0) e.5;
}
