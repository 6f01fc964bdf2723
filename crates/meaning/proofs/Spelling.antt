-- The words of an expression are what its walks spell: at each place a class in the range of the position's symbol, and the symbol's code. Assumes nothing.
use Rattle.std.proofs.Common.{◌≡◌, ℕ, ◌+◌, ◌≤◌, true, leb, List, [], ◌∷◌, ◌++◌, length, sym as flip, refl, ap, ◌∙◌, subst, inl, inr, add-zero, arith}
use Rattle.std.proofs.lemmas.Bool.{false≢true, and_parts, and_from, leb-true, le-leb}
use Rattle.meaning.specs.declared.Symbol.{Symbol}
use Rattle.meaning.specs.Words.{Expr, sym, none, star, seq, alt, Forms, one, more, Word, all_joined, Each, Of, OfSeq, OfAlt}
use Rattle.meaning.specs.Positions.{symbols, list_symbols, holds}
use Rattle.meaning.proofs.Masks.{in_zero, in_one, one_in}
use Rattle.meaning.proofs.Walks.{Local, Walk, Parts, no_part, part}
use Rattle.meaning.proofs.Sets.{size, Sets, star_join, star_parts, seq_join, seq_parts, alt_join_left, alt_join_right, alt_parts}

-- `at` gives the symbols of the list to the positions after b
abbrev pub Along : (ℕ → Symbol) → ℕ → List Symbol → Type 0
Along at b [] = Unit {0}
Along at b (s ∷ ss) = (at (b + 1) ≡ s) × Along at (b + 1) ss

-- the word has a pair for each position, by its symbol
abbrev pub Labels : (ℕ → Symbol) → List ℕ → Word → Type 0
Labels at [] [] = Unit {0}
Labels at [] (x ∷ w) = ⊥
Labels at (p ∷ ps) [] = ⊥
Labels at (p ∷ ps) (x ∷ w) = (holds (at p) x.class ≡ true) × (x.code ≡ (at p).code) × Labels at ps w

abbrev pub Spelled : (ℕ → Symbol) → Local → Word → Type 0
Spelled at A w = (ps : List ℕ) × Walk A ps × Labels at ps w

pub holds_from : (s : Symbol) (c : ℕ) → s.low ≤ c → c ≤ s.high → holds s c ≡ true
holds_from s c h k = and_from (leb s.low c) (leb c s.high) (le-leb s.low c h) (le-leb c s.high k)

pub holds_parts : (s : Symbol) (c : ℕ) → holds s c ≡ true → (s.low ≤ c) × (c ≤ s.high)
holds_parts s c h =
    let k = and_parts (leb s.low c) (leb c s.high) h in
    (leb-true s.low c k.0, leb-true c s.high k.1)

module _ (at : ℕ → Symbol) where
  pub along_split : (b : ℕ) (ss ts : List Symbol) → Along at b (ss ++ ts) → Along at b ss × Along at (b + length ss) ts
  along_split b [] ts h = (tt, rw add-zero h)
  along_split b (s ∷ ss) ts h =
      let k = along_split (b + 1) ss ts h.1 in
      ((h.0, k.0), subst (λ n. Along at n ts) (omega arith) k.1)

  pub labels_append : (ps qs : List ℕ) (w v : Word) → Labels at ps w → Labels at qs v → Labels at (ps ++ qs) (w ++ v)
  labels_append [] qs [] v h k = k
  labels_append [] qs (x ∷ w) v h k = absurd h
  labels_append (p ∷ ps) qs [] v h k = absurd h
  labels_append (p ∷ ps) qs (x ∷ w) v h k = (h.0, h.1, labels_append ps qs w v h.2 k)

  pub labels_split : (ps qs : List ℕ) (w : Word) → Labels at (ps ++ qs) w → (u : Word) × (v : Word) × Labels at ps u × Labels at qs v × (w ≡ u ++ v)
  labels_split [] qs w h = ([], w, tt, h, refl)
  labels_split (p ∷ ps) qs [] h = absurd h
  labels_split (p ∷ ps) qs (x ∷ w) h =
      let (u, v, k, l, e) = labels_split ps qs w h.2 in
      (x ∷ u, v, (h.0, h.1, k), l, ap (λ y. x ∷ y) e)

  -- words from walks over parts, and back
  star_spelled : (e : Expr) (b : ℕ) → ((w : Word) → Of e w → Spelled at (Sets e b) w) → (ws : List Word) → Each (Of e) ws → Spelled at (Sets (star e) b) (all_joined ws)
  star_spelled e b f [] h = ([], refl, tt)
  star_spelled e b f (w ∷ ws) h =
      let (ps, k, l) = f w h.0 in
      let (qs, m, n) = star_spelled e b f ws h.1 in
      (ps ++ qs, star_join e b ps qs k m, labels_append ps qs w (all_joined ws) l n)

  star_word : (e : Expr) (b : ℕ) → ((w : Word) (ps : List ℕ) → Walk (Sets e b) ps → Labels at ps w → Of e w)
      → {ps : List ℕ} → Parts (Walk (Sets e b)) ps → (w : Word) → Labels at ps w → Of (star e) w
  star_word e b f no_part [] l = ([], tt, refl)
  star_word e b f no_part (x ∷ w) l = absurd l
  star_word e b f (part p q h k d) w l =
      let (u, v, m, n, g) = labels_split p q w (subst (λ x. Labels at x w) d l) in
      let (ws, o, j) = star_word e b f k v n in
      (u ∷ ws, (f u p h m, o), g ∙ ap (λ x. u ++ x) j)

  sym_word : (s : Symbol) (b : ℕ) → at (b + 1) ≡ s → (ps : List ℕ) (w : Word) → Walk (Sets (sym s) b) ps → Labels at ps w → Of (sym s) w
  sym_word s b a [] w h l = absurd (false≢true h)
  sym_word s b a (p ∷ []) [] h l = absurd l
  sym_word s b a (p ∷ []) (x ∷ []) h l =
      let e : at p ≡ s = ap at (in_one b p h.0) ∙ a in
      let k = holds_parts s x.class (subst (λ y. holds y x.class ≡ true) e l.0) in
      (x.class, k.0, k.1, λ i. record { class = x.class; code = (l.1 ∙ ap (λ y. y.code) e) i } ∷ [])
  sym_word s b a (p ∷ []) (x ∷ y ∷ w) h l = absurd l.2
  sym_word s b a (p ∷ q ∷ ps) w h l = absurd (in_zero q h.1.0.1)

  none_word : (b : ℕ) (ps : List ℕ) (w : Word) → Walk (Sets none b) ps → Labels at ps w → w ≡ []
  none_word b [] [] h l = refl
  none_word b [] (x ∷ w) h l = absurd l
  none_word b (p ∷ ps) w h l = absurd (in_zero p h.0)

  mutual
    pub spelled : (e : Expr) (b : ℕ) → Along at b (symbols e) → (w : Word) → Of e w → Spelled at (Sets e b) w
    spelled (sym s) b a w o = (
      (b + 1) ∷ [],
      (one_in b, one_in b),
      subst (λ x. Labels at ((b + 1) ∷ []) x) (flip o.3)
          (subst (λ y. holds y o.0 ≡ true) (flip a.0) (holds_from s o.0 o.1 o.2), ap (λ y. y.code) (flip a.0), tt),
    )
    spelled none b a w o = ([], refl, subst (λ x. Labels at [] x) (flip o) tt)
    spelled (star e) b a w o =
        let (ps, h, l) = star_spelled e b (spelled e b a) o.0 o.1 in
        (ps, h, subst (λ x. Labels at ps x) (flip o.2) l)
    spelled (seq es) b a w o = seq_spelled es b a w o
    spelled (alt es) b a w o = alt_spelled es b a w o

    seq_spelled : (es : Forms) (b : ℕ) → Along at b (list_symbols es) → (w : Word) → OfSeq es w → Spelled at (Sets (seq es) b) w
    seq_spelled (one e) b a w o = spelled e b a w o
    seq_spelled (more e es) b a w o =
        let (u, v, m, n, d) = o in
        let c = along_split b (symbols e) (list_symbols es) a in
        let (ps, h, l) = spelled e b c.0 u m in
        let (qs, k, j) = seq_spelled es (b + size e) c.1 v n in
        (ps ++ qs, seq_join e es b ps qs h k, subst (λ x. Labels at (ps ++ qs) x) (flip d) (labels_append ps qs u v l j))

    alt_spelled : (es : Forms) (b : ℕ) → Along at b (list_symbols es) → (w : Word) → OfAlt es w → Spelled at (Sets (alt es) b) w
    alt_spelled (one e) b a w o = spelled e b a w o
    alt_spelled (more e es) b a w o =
        let c = along_split b (symbols e) (list_symbols es) a in
        elim o [
          | inl m ↦ let (ps, h, l) = spelled e b c.0 w m in (ps, alt_join_left e es b ps h, l)
          | inr n ↦ let (ps, h, l) = alt_spelled es (b + size e) c.1 w n in (ps, alt_join_right e es b ps h, l)
        ]

  mutual
    pub word : (e : Expr) (b : ℕ) → Along at b (symbols e) → (w : Word) (ps : List ℕ) → Walk (Sets e b) ps → Labels at ps w → Of e w
    word (sym s) b a w ps h l = sym_word s b a.0 ps w h l
    word none b a w ps h l = none_word b ps w h l
    word (star e) b a w ps h l = star_word e b (word e b a) (star_parts e b ps h) w l
    word (seq es) b a w ps h l = seq_word es b a w ps h l
    word (alt es) b a w ps h l = alt_word es b a w ps h l

    seq_word : (es : Forms) (b : ℕ) → Along at b (list_symbols es) → (w : Word) (ps : List ℕ) → Walk (Sets (seq es) b) ps → Labels at ps w → OfSeq es w
    seq_word (one e) b a w ps h l = word e b a w ps h l
    seq_word (more e es) b a w ps h l =
        let c = along_split b (symbols e) (list_symbols es) a in
        let (p, q, m, n, d) = seq_parts e es b ps h in
        let (u, v, j, k, g) = labels_split p q w (subst (λ x. Labels at x w) d l) in
        (u, v, word e b c.0 u p m j, seq_word es (b + size e) c.1 v q n k, g)

    alt_word : (es : Forms) (b : ℕ) → Along at b (list_symbols es) → (w : Word) (ps : List ℕ) → Walk (Sets (alt es) b) ps → Labels at ps w → OfAlt es w
    alt_word (one e) b a w ps h l = word e b a w ps h l
    alt_word (more e es) b a w ps h l =
        let c = along_split b (symbols e) (list_symbols es) a in
        elim (alt_parts e es b ps h) [
          | inl k ↦ inl (word e b c.0 w ps k l)
          | inr k ↦ inr (alt_word es (b + size e) c.1 w ps k l)
        ]
