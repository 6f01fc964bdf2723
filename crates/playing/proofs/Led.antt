-- Where a rule leads as the codes of a word are offered to it one by one. Assumes nothing.
use Rattle.std.proofs.Common.{◌≡◌, ℕ, suc, ◌+◌, ◌<◌, Bool, true, false, List, [], ◌∷◌, ◌++◌, map, length, get_or, take, drop, Some, Option, sym, ap, ◌∙◌, subst, add-one, arith, length-append}
use lib.ListN.{length-map}
use lib.Seq.{split_at}
use Rattle.std.proofs.lemmas.List.{take_more, take_all, length-take-le, get_or_append_left, get_or_at, get_or-map}
use Rattle.meaning.specs.Bounds.{no_mark}
use Rattle.meaning.specs.Words.{Pair, Line, Word, classes}
use Rattle.meaning.proofs.Answered.{leads_append}
use Rattle.meaning.specs.Doers.{Given, Rule, Leads, stays, takes, Does, took, left}
use Rattle.playing.specs.Performances.{Offered, all, some}

-- what a pair of a word gives
abbrev given_of : Pair → Given
given_of p = record { code = p.code; mark = p.class }

-- what a word of a line gives behind its first code
abbrev pub rest_of : Line → Word → List Given
rest_of l w = map given_of w ++ record { code = l.close_code; mark = no_mark } ∷ []

-- what is read past the end of a list
abbrev nothing : Given
nothing = record { code = 0; mark = 0 }

-- the code and the mark that come at the place i
abbrev pub Comes : List Given → (i code mark : ℕ) → Type 0
Comes gs i code mark = (i < length gs) × ((get_or gs i nothing).code ≡ code) × ((get_or gs i nothing).mark ≡ mark)

pub length_rest : (l : Line) (w : Word) → length (rest_of l w) ≡ length w + 1
length_rest l w = length-append (map given_of w) _ ∙ omega (arith, length-map w given_of)

-- a place of a word, and the end behind it
pub comes_at : (l : Line) (w : Word) (i code mark : ℕ) → i < length w → code ≡ get_or (map (λ p. p.code) w) i 0 → mark ≡ get_or (classes w) i 0 → Comes (rest_of l w) i code mark
comes_at l w i code mark h e d =
    let pair : Pair = record { class = 0; code = 0 } in
    let here : get_or (rest_of l w) i nothing ≡ record { code = (get_or w i pair).code; mark = (get_or w i pair).class } =
    get_or_append_left (map given_of w) _ nothing i (omega (arith, length-map w given_of))
    ∙ get_or-map given_of w i pair nothing h in (
      omega (arith, length_rest l w),
      ap (λ g. g.code) here ∙ sym (e ∙ get_or-map (λ p. p.code) w i pair 0 h),
      ap (λ g. g.mark) here ∙ sym (d ∙ get_or-map (λ p. p.class) w i pair 0 h),
    )

pub comes_last : (l : Line) (w : Word) (i code : ℕ) → i ≡ length w → code ≡ l.close_code → Comes (rest_of l w) i code no_mark
comes_last l w i code h e =
    let here : get_or (rest_of l w) i nothing ≡ record { code = l.close_code; mark = no_mark } =
    get_or_at (map given_of w) _ [] nothing i (length-map w given_of ∙ sym h) in
    (omega (arith, length_rest l w), ap (λ g. g.code) here ∙ sym e, ap (λ g. g.mark) here)

-- what the rule says of a code and its mark, under other names
ruled : {S : Type 0} (rule : Rule S) (s : S) (code mark : ℕ) {r : Option S} (g : Given) → g.code ≡ code → g.mark ≡ mark → rule s code mark ≡ r → rule s g.code g.mark ≡ r
ruled rule s code mark g c m e = ap (λ x. rule s x g.mark) c ∙ ap (rule s code) m ∙ e

module _ {S : Type 0} {rule : Rule S} where
  was_taken : {s t : S} {code mark : ℕ} (b : Bool) → b ≡ true → Does rule s code mark b t → rule s code mark ≡ Some t
  was_taken true e (took d) = d
  was_taken false e (left d) = let z : ◌≡◌ {A = ℕ} 0 1 = cc in absurd (omega arith)

  -- one code more is taken
  pub led_more : {s t u : S} (gs : List Given) (i code mark : ℕ) (b : Bool) → Comes gs i code mark → Leads rule s (take i gs) t → b ≡ true → Does rule t code mark b u → Leads rule s (take (i + 1) gs) u
  led_more {s} {t} {u} gs i code mark b (h, c, m) a e d =
      subst (λ hs. Leads rule s hs u) (sym (take_more gs i nothing h)) (leads_append _ a (takes (ruled rule t code mark (get_or gs i nothing) c m (was_taken b e d)) stays))

  -- a code is turned away
  pub led_not : {s t u : S} (gs : List Given) (i code mark : ℕ) (b : Bool) → Comes gs i code mark → Leads rule s (take i gs) t → b ≡ false → Does rule t code mark b u → Offered rule s gs i u
  led_not gs i code mark true h a e (took d) = let z : ◌≡◌ {A = ℕ} 0 1 = cc in absurd (omega arith)
  led_not {s} {t} gs i code mark false (h, c, m) a e (left d) =
      subst (λ n. Offered rule s gs n t) (length-take-le i gs (omega arith))
      (some (drop (suc i) gs) (split_at gs i nothing h) a (ruled rule t code mark (get_or gs i nothing) c m d))

  -- all is taken
  pub led_all : {s t : S} (gs : List Given) (i : ℕ) → i ≡ length gs → Leads rule s (take i gs) t → Offered rule s gs i t
  led_all {s} {t} gs i e a = subst (λ n. Offered rule s gs n t) (sym e) (all (subst (λ hs. Leads rule s hs t) (take_all i gs (omega arith)) a))

  -- the first code is taken, before the others
  pub led_first : {s t u : S} (g : Given) (gs : List Given) (code mark n : ℕ) (b : Bool) → g.code ≡ code → g.mark ≡ mark → b ≡ true → Does rule s code mark b t → Offered rule t gs n u → Offered rule s (g ∷ gs) (n + 1) u
  led_first {s} {t} {u} g gs code mark n b c m e d o = next (ruled rule s code mark g c m (was_taken b e d)) o
    where
      next : {k : ℕ} {v : S} → rule s g.code g.mark ≡ Some t → Offered rule t gs k v → Offered rule s (g ∷ gs) (k + 1) v
      next {v = v} r (all a) = subst (λ k. Offered rule s (g ∷ gs) k v) (sym (add-one (length gs))) (all (takes r a))
      next {v = v} r (some {gone = gone} rest p a x) = subst (λ k. Offered rule s (g ∷ gs) k v) (sym (add-one (length gone))) (some rest (ap (λ hs. g ∷ hs) p) (takes r a) x)
