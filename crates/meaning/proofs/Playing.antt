-- What a piece gives is one, where a rule leads is one, and so is a play. Assumes nothing.
use Rattle.std.proofs.Common.{◌≡◌, ℕ, Bool, List, ◌∷◌, ◌++◌, length, take, drop, Some, None, sym, refl, ap, ◌∙◌, subst, subst₂, arith}
use Rattle.meaning.specs.Words.{Line, Of}
use Rattle.meaning.specs.Pieces.{WordAt, Cut, NothingAt}
use Rattle.meaning.specs.Doers.{Given, Rule, Leads, stays, takes, gives, Gives, Does, took, left}
use Rattle.meaning.specs.Runs.{Plays, at_end, no_piece, broken, whole}
use Rattle.meaning.specs.ReadLaws.{PlayedAlike}
use Rattle.meaning.proofs.Nths.{one_nth}
use Rattle.meaning.proofs.Cutting.{one_cut, cut_inside}

pub one_gives : (ls : List Line) (k : ℕ) (α : List ℕ) (gs hs : List Given) → Gives ls k α gs → Gives ls k α hs → gs ≡ hs
one_gives ls k α gs hs a b =
    let e = one_nth ls k a.line b.line a.stands b.stands in
    sym (a.only b.word (subst (λ l. Of l.expr b.word) (sym e) b.of_line) b.spelled)
    ∙ ap (λ l. gives l b.word) e ∙ b.given

some_none : {A : Type 0} {x : A} → Some x ≡ None → ⊥
some_none e = let z : ◌≡◌ {A = ℕ} 0 1 = cc in omega arith

module _ {S : Type 0} (rule : Rule S) where
  pub one_doing : {s : S} {code mark : ℕ} {a b : Bool} {t u : S} → Does rule s code mark a t → Does rule s code mark b u → (a ≡ b) × (t ≡ u)
  one_doing (took h) (took k) = (refl, cc)
  one_doing (took h) (left k) = absurd (some_none (sym h ∙ k))
  one_doing (left h) (took k) = absurd (some_none (sym k ∙ h))
  one_doing (left h) (left k) = (refl, refl)

  pub one_lead : {s s' t u : S} {gs hs : List Given} → Leads rule s gs t → Leads rule s' hs u → s ≡ s' → gs ≡ hs → t ≡ u
  one_lead stays stays e f = e
  one_lead stays (takes k n) e f = absurd (let z : ◌≡◌ {A = ℕ} 0 1 = cc in omega arith)
  one_lead (takes h m) stays e f = absurd (let z : ◌≡◌ {A = ℕ} 0 1 = cc in omega arith)
  one_lead (takes h m) (takes k n) e f = one_lead m n (cc) (cc)

  -- a rule that refuses a code after some of a list refuses no other code of it, and does not lead through it all
  one_refusal : {s s' t u : S} {gs hs : List Given} (g h : Given) (rest rest' : List Given) → Leads rule s gs t → Leads rule s' hs u → s ≡ s'
      → gs ++ g ∷ rest ≡ hs ++ h ∷ rest' → rule t g.code g.mark ≡ None → rule u h.code h.mark ≡ None → (gs ≡ hs) × (t ≡ u)
  one_refusal g h rest rest' stays stays e f i j = (refl, e)
  one_refusal g h rest rest' stays (takes k n) e f i j = absurd (let z : ◌≡◌ {A = ℕ} 0 1 = cc in omega arith)
  one_refusal g h rest rest' (takes k m) stays e f i j = absurd (let z : ◌≡◌ {A = ℕ} 0 1 = cc in omega arith)
  one_refusal g h rest rest' (takes k m) (takes k' n) e f i j =
      let (a, b) = one_refusal g h rest rest' m n (cc) (cc) i j in
      (cc, b)

  no_refusal : {s s' t u : S} {gs hs : List Given} (g : Given) (rest : List Given) → Leads rule s gs t → Leads rule s' hs u → s ≡ s'
      → gs ++ g ∷ rest ≡ hs → rule t g.code g.mark ≡ None → ⊥
  no_refusal g rest stays stays e f i = let z : ◌≡◌ {A = ℕ} 0 1 = cc in omega arith
  no_refusal g rest stays (takes k n) e f i = let z : ◌≡◌ {A = ℕ} 0 1 = cc in omega arith
  no_refusal g rest (takes k m) stays e f i = let z : ◌≡◌ {A = ℕ} 0 1 = cc in omega arith
  no_refusal g rest (takes k m) (takes k' n) e f i = no_refusal g rest m n (cc) (cc) i

  module _ (ls : List Line) (extent : List ℕ) where
    -- two pieces at one place are one, and give the same
    same_piece : {p q k n j m : ℕ} {gs hs : List Given} → p ≡ q → Cut ls extent p k n → Cut ls extent q j m
        → Gives ls k (take n (drop p extent)) gs → Gives ls j (take m (drop q extent)) hs → (n ≡ m) × (gs ≡ hs)
    same_piece {p = p} {q = q} {k = k} {n = n} {j = j} {m = m} {gs = gs} {hs = hs} e c d a b =
        let (f, g) = one_cut ls extent c (subst (λ x. Cut ls extent x j m) (sym e) d) in
        let same : take m (drop q extent) ≡ take n (drop p extent) = cc in
        (g, one_gives ls k (take n (drop p extent)) gs hs a (subst₂ (λ x α. Gives ls x α hs) (sym f) same b))

    nothing_cut : {p q k n : ℕ} → p ≡ q → NothingAt ls extent p → Cut ls extent q k n → ⊥
    nothing_cut {k = k} {n = n} e f c = f k n (subst (λ x. WordAt ls extent x k n) (sym e) c.fits)

    pub one_play : {p q : ℕ} {s s' : S} {gs hs : List Given} {pieces pieces' stop stop' codes codes' why why' : ℕ} {t u : S}
        → Plays rule ls extent p s gs pieces stop codes why t → Plays rule ls extent q s' hs pieces' stop' codes' why' u
        → p ≡ q → s ≡ s' → PlayedAlike gs hs pieces pieces' stop stop' codes codes' why why' t u
    one_play (at_end h) (at_end k) e f = (refl, refl, e, refl, refl, f)
    one_play (at_end h) (no_piece k y) e f = absurd (omega arith)
    one_play (at_end h) (broken rest d b x m r) e f = let i = cut_inside ls extent d in absurd (omega arith)
    one_play (at_end h) (whole d b m y) e f = let i = cut_inside ls extent d in absurd (omega arith)
    one_play (no_piece h z) (at_end k) e f = absurd (omega arith)
    one_play (no_piece h z) (no_piece k y) e f = (refl, refl, e, refl, refl, f)
    one_play (no_piece h z) (broken rest d b x m r) e f = absurd (nothing_cut e z d)
    one_play (no_piece h z) (whole d b m y) e f = absurd (nothing_cut e z d)
    one_play (broken rest c a v l o) (at_end k) e f = let i = cut_inside ls extent c in absurd (omega arith)
    one_play (broken rest c a v l o) (no_piece k y) e f = absurd (nothing_cut (sym e) y c)
    one_play (broken {g = g} rest c a v l o) (broken {g = h} rest' d b x m r) e f =
        let (i, w) = same_piece e c d a b in
        let (y, z) = one_refusal g h rest rest' l m f (sym v ∙ w ∙ x) o r in
        (y, refl, e, ap length y, refl, z)
    one_play (broken {g = g} rest c a v l o) (whole d b m y) e f =
        let (i, w) = same_piece e c d a b in
        absurd (no_refusal g rest l m f (sym v ∙ w) o)
    one_play (whole c a l z) (at_end k) e f = let i = cut_inside ls extent c in absurd (omega arith)
    one_play (whole c a l z) (no_piece k y) e f = absurd (nothing_cut (sym e) y c)
    one_play (whole c a l z) (broken {g = g} rest d b x m r) e f =
        let (i, w) = same_piece e c d a b in
        absurd (no_refusal g rest m l (sym f) (sym x ∙ sym w) r)
    one_play (whole c a l z) (whole d b m y) e f =
        let (i, w) = same_piece e c d a b in
        let (gs, ps, st, co, wh, u) = one_play z y (omega arith) (one_lead l m f w) in
        (cc, omega arith, st, co, wh, u)
