-- A test that a text writes a line with nothing wrong, and what it tells of the text. Assumes nothing.
use Rattle.std.proofs.Common.{◌≡◌, ℕ, suc, ◌<◌, ◌≤◌, Bool, true, ltb, leb, List, [], ◌∷◌, length, sym, subst}
use Rattle.std.proofs.lemmas.Bool.{leb-true, ltb-true}
use Rattle.meaning.specs.declared.Symbol.{Symbol}
use Rattle.meaning.specs.Bounds.{most_bytes, most_levels, most_symbols, most_code, number_bound}
use Rattle.meaning.specs.Words.{Line, Clash}
use Rattle.meaning.specs.Positions.{symbols, FirstClash}
use Rattle.meaning.specs.Text.{Token, fixed, sym_head, number, line_tokens, written, Short, Wrong, Fault}
use Rattle.meaning.specs.TextLaws.{levels, InRange, InLimits}
use Rattle.meaning.specs.Runs.{Means, TextRefused, clash, TextAccepted}
use Rattle.meaning.proofs.Limits.{none_wrong}
use Rattle.tried.specs.Cases.{clash_at}
use Rattle.tried.proofs.Below.{every, every_each, all_in, in_all}

abbrev short : Token → Bool
short (fixed bytes) = true
short sym_head = true
short (number f n) = ltb n number_bound

short_true : (t : Token) → short t ≡ true → Short t
short_true (fixed bytes) h = tt
short_true sym_head h = tt
short_true (number f n) h = ltb-true n number_bound h

abbrev in_range : ℕ → Symbol → List Bool
in_range count s = leb s.low s.high ∷ ltb s.high count ∷ leb s.code most_code ∷ []

in_range_true : (count : ℕ) (s : Symbol) → every (in_range count s) ≡ true → InRange count s
in_range_true count s h =
    let (a, (b, (c, z))) = every_each (in_range count s) h in
    (leb-true s.low s.high a, ltb-true s.high count b, leb-true s.code most_code c)

module _ (count : ℕ) (t : List ℕ) (l : Line) where
  -- t writes the line, and nothing is wrong with it
  pub record Sound : Type 0 where
    pub some : 0 < length t
    pub short : length t ≤ most_bytes
    pub faultless : (n k : ℕ) → Fault count t n k → ⊥
    pub means : Means t l

  -- the text has a right size, and the line keeps to the limits
  abbrev sound_tests : List Bool
  sound_tests =
      ltb 0 (length t)
      ∷ leb (length t) most_bytes
      ∷ all_in short (line_tokens l)
      ∷ leb l.open_code most_code
      ∷ leb l.close_code most_code
      ∷ all_in (λ s. every (in_range count s)) (symbols l.expr)
      ∷ leb (length (symbols l.expr)) most_symbols
      ∷ leb (suc (levels l.expr)) most_levels
      ∷ []

  abbrev pub sound_test : Bool
  sound_test = every sound_tests

  pub sound_by : t ≡ written l → sound_test ≡ true → Sound
  sound_by e h =
      let (a, (b, (c, (d, (f, (g, (i, (j, z)))))))) = every_each sound_tests h in
      let formed = in_all short Short short_true (line_tokens l) c in
      let limits : InLimits count l = record {
        opens = leb-true l.open_code most_code d;
        closes = leb-true l.close_code most_code f;
        ranges = in_all (λ s. every (in_range count s)) (InRange count) (in_range_true count) (symbols l.expr) g;
        few = leb-true (length (symbols l.expr)) most_symbols i;
        shallow = leb-true (suc (levels l.expr)) most_levels j;
      } in
      record {
        some = ltb-true 0 (length t) a;
        short = leb-true (length t) most_bytes b;
        faultless = λ n k f. subst (λ s. Wrong count s n k → ⊥) (sym e) (none_wrong count l formed limits n k) f.wrong;
        means = (formed, e);
      }

module _ {count : ℕ} {t : List ℕ} {l : Line} (s : Sound count t l) where
  pub accepted : (Clash l.expr → ⊥) → TextAccepted count t
  accepted clear = record { line = l; some = s.some; short = s.short; faultless = s.faultless; means = s.means; clear = clear }

  pub refused : {p q : ℕ} → Clash l.expr × FirstClash l p q → TextRefused count t (clash_at p q)
  refused (c, f) = clash s.some s.short s.faultless s.means c f
