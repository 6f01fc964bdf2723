-- The steps of a reader through a text: how it goes on, and how it ends. Assumes nothing.
use Rattle.std.proofs.Common.{◌≡◌, ℕ, ◌<◌, ◌+◌, ◌≤◌, false, List, [], ◌∷◌, ◌++◌, length, get_or, Some, is_some, sym, refl, ap, ◌∙◌, subst, inl, inr, arith}
use Rattle.std.specs.List.{slice_get}
use Rattle.std.proofs.lemmas.List.{take_all}
use Rattle.std.proofs.lemmas.Option.{slice_get_within, get_or_from_slice_get, slice_get-get_or}
use Rattle.std.proofs.lemmas.Bool.{cases_lt}
use Rattle.positions.specs.declared.draft.Draft.{Draft}
use Rattle.meaning.specs.Text.{Field, Token, fixed, sym_head, number, heads, Outside}
use Rattle.meaning.proofs.Scan.{Stop, stop_byte, Item, rest, numeral, digits, form, letter, second, listing, stuck, moved, step, scan}
use Rattle.meaning.proofs.Steps.{rest_step}
use Rattle.meaning.proofs.Viable.{scan_step}
use Rattle.meaning.proofs.Faults.{EndsNumber, EndsHead, counts_byte}
use Rattle.meaning.proofs.Judge.{fine_more, nothing_wrong, fault_form, fault_deep, fault_range, fault_many, fault_end}
use Rattle.sheet.specs.declared.reader.Reader.{Reader}
use Rattle.sheet.specs.declared.refusal.Refusal.TheVariants.{BadForm, TooDeep, OutOfRange, TooManySymbols}
use Rattle.sheet.specs.Reading.{upcoming, Left, Passed, SamePlace, Stands, Tells, Leaves, Awaits}

-- no number or head is ended with something wrong by the byte c
abbrev pub Sound : ℕ → List Item → List Token → ℕ → Type 0
Sound count is ts c = ((f : Field) (v : ℕ) → EndsNumber is c f v → Outside count f v → ⊥) × (EndsHead is c → heads ts ≡ 63 → ⊥)

module _ {count left : ℕ} {t : List ℕ} {d : Draft} {a : Reader} {is : List Item} {ts : List Token} (h : Stands count t d a is ts left) where
  -- the byte that comes next stands in the text
  next_left : (c : ℕ) → upcoming a ≡ Some c → a.at < length t
  next_left c n = subst (λ w. a.at < length w) h.text_is (slice_get_within a.text.now a.at c n)

  next_is : (c : ℕ) → upcoming a ≡ Some c → get_or t a.at 0 ≡ c
  next_is c n = subst (λ w. get_or w a.at 0 ≡ c) h.text_is (get_or_from_slice_get a.text.now a.at c 0 n)

  left_next : a.at < length t → upcoming a ≡ Some (get_or t a.at 0)
  left_next l = ap (λ w. slice_get w a.at) h.text_is ∙ slice_get-get_or t a.at 0 l

  -- one byte more
  pub on : {b : Reader} (c : ℕ) (js : List Item) (us : List Token) (left' : ℕ) → upcoming a ≡ Some c → Passed a b → step is c ≡ moved js us → Leaves c left left' → Sound count is ts c → Stands count t d b js (us ++ ts) left'
  on {b} c js us left' n p s v sound =
      let l = next_left c n in
      let e = next_is c n in
      let opens = counts_byte 40 t a.at c l e in
      let closes = counts_byte 41 t a.at c l e in
      let m : step is (get_or t a.at 0) ≡ moved js us = ap (step is) e ∙ s in
      let deep : get_or t a.at 0 ≡ 40 → left ≡ 0 → ⊥ = λ f full. let k : left + 0 ≡ left' + 1 = subst (λ x. Leaves x left left') (sym e ∙ f) v in omega arith in
      record {
        text_is = p.text_is ∙ h.text_is;
        counts = p.counts ∙ h.counts;
        draft_is = p.draft_is ∙ h.draft_is;
        scans = rw p.place (scan_step t a.at is js ts us l h.scans m);
        fine = rw p.place (fine_more count t a.at h.fine (nothing_wrong count t a.at is ts l h.scans js us m (λ f full. deep f (let n = h.levels in omega arith)) (λ f w x. sound.0 f w (subst (λ y. EndsNumber is y f w) e x)) (λ x. sound.1 (subst (EndsHead is) e x))));
        levels = rw p.place (let n = h.levels in omega arith);
      }

-- an item that ends no number and no head
abbrev pub Quiet : Item → Type 0
Quiet (rest b bs (fixed word)) = Unit {0}
Quiet (rest b bs sym_head) = ⊥
Quiet (rest b bs (number f n)) = ⊥
Quiet (numeral f s) = Unit {0}
Quiet (digits f s room v) = ⊥
Quiet form = Unit {0}
Quiet letter = Unit {0}
Quiet second = Unit {0}
Quiet listing = Unit {0}

no_digits : {f : Field} {s : Stop} {room v : ℕ} (i : Item) → Quiet i → i ≡ digits f s room v → ⊥
no_digits i q e = subst Quiet e q

no_head : (i : Item) → Quiet i → i ≡ rest 109 [] sym_head → ⊥
no_head i q e = subst Quiet e q

pub quiet_sound : (count : ℕ) (i : Item) (is : List Item) (ts : List Token) (c : ℕ) → Quiet i → Sound count (i ∷ is) ts c
quiet_sound count i is ts c q = (λ f v x bad. no_digits {f = f} {s = x.0} {room = x.1} {v = v} i q (cc x.3), λ x full. no_head i q (cc x.1))

-- the byte c, where it goes on
pub turn : {count left : ℕ} {t : List ℕ} {d : Draft} {a b : Reader} {i : Item} {is : List Item} {ts : List Token} (c : ℕ) (js : List Item) (us : List Token) (left' : ℕ) → Stands count t d a (i ∷ is) ts left → upcoming a ≡ Some c → Passed a b → step (i ∷ is) c ≡ moved js us → Leaves c left left' → Quiet i → Stands count t d b js (us ++ ts) left'
turn {count} {i = i} {is} {ts} c js us left' h n p s v q = on h c js us left' n p s v (quiet_sound count i is ts c q)

-- one byte of a word, of which the bytes bs are left behind it
pub word_on : {count left : ℕ} {t : List ℕ} {d : Draft} {a b : Reader} {word : List ℕ} {is : List Item} {ts : List Token} (c : ℕ) (bs : List ℕ) (left' : ℕ) → Stands count t d a (rest c bs (fixed word) ∷ is) ts left → upcoming a ≡ Some c → Passed a b → Leaves c left left' → Awaits count t d b bs word is ts left'
word_on {word = word} {is} c [] left' h n p v = turn c is (fixed word ∷ []) left' h n p (rest_step is c [] (fixed word)) v tt
word_on {word = word} {is} c (x ∷ bs) left' h n p v = turn c (rest x bs (fixed word) ∷ is) [] left' h n p (rest_step is c (x ∷ bs) (fixed word)) v tt

-- the last letter of a symbol's head, where there is room for the symbol
head_sound : (count : ℕ) (is : List Item) (ts : List Token) (c : ℕ) → (heads ts ≡ 63 → ⊥) → Sound count (rest 109 [] sym_head ∷ is) ts c
head_sound count is ts c q = (λ f v x bad. let z : ◌≡◌ {A = ℕ} 0 1 = cc x.3 in omega arith, λ x full. q full)

pub head_on : {count left : ℕ} {t : List ℕ} {d : Draft} {a b : Reader} {is : List Item} {ts : List Token} → Stands count t d a (rest 109 [] sym_head ∷ is) ts left → upcoming a ≡ Some 109 → Passed a b → (heads ts ≡ 63 → ⊥) → Stands count t d b is (sym_head ∷ ts) left
head_on {count} {left} {is = is} {ts} h n p q = on h 109 is (sym_head ∷ []) left n p refl refl (head_sound count is ts 109 q)

-- the same place with another draft
pub with_draft : {count left : ℕ} {t : List ℕ} {d : Draft} {a : Reader} {is : List Item} {ts : List Token} (b : Reader) → Stands count t d a is ts left → SamePlace a b → Stands count t b.draft b is ts left
with_draft b h p = record { text_is = p.text_is ∙ h.text_is; counts = p.counts ∙ h.counts; draft_is = refl; scans = rw p.place h.scans; fine = rw p.place h.fine; levels = rw p.place h.levels }

-- where no byte comes next, all were read
pub at_end : (a : Reader) → is_some (upcoming a) ≡ false → length a.text.now ≤ a.at
at_end a e = elim (cases_lt a.at (length a.text.now)) [ inl l ↦ cc (ap is_some (slice_get-get_or a.text.now a.at 0 l)) | inr m ↦ m ]

-- no byte that comes next may, or there is none
pub tells_form : {count left : ℕ} {t : List ℕ} {d : Draft} {a : Reader} {i : Item} {is : List Item} {ts : List Token} → Stands count t d a (i ∷ is) ts left → ((c : ℕ) → upcoming a ≡ Some c → step (i ∷ is) c ≡ stuck) → Tells count t (BadForm a.at)
tells_form {count} {t = t} {a = a} {i} {is} {ts} h e =
    elim (cases_lt a.at (length t)) [
      | inl l ↦ (2, a.at, fault_form count t a.at (i ∷ is) ts l h.scans h.fine (e _ (left_next h l)), refl)
      | inr m ↦
          let k : a.at ≡ length t = let within = a.within in omega (arith, ap length h.text_is) in
          let whole : scan t ≡ moved (i ∷ is) ts = rw (take_all a.at t m) at h.scans in
          (2, length t, fault_end count t i is ts (rw k at h.fine) whole, rw k)
    ]

-- a byte behind the line
pub tells_more : {count left : ℕ} {t : List ℕ} {d : Draft} {a : Reader} {ts : List Token} → Stands count t d a [] ts left → Left a → Tells count t (BadForm a.at)
tells_more {count} {t = t} {a = a} {ts} h l = (2, a.at, fault_form count t a.at [] ts (subst (λ w. a.at < length w) h.text_is l) h.scans h.fine refl, refl)

-- a number that its field does not take
pub tells_range : {count left : ℕ} {t : List ℕ} {d : Draft} {a : Reader} {f : Field} {s : Stop} {room v : ℕ} {is : List Item} {ts : List Token} → Stands count t d a (digits f s room v ∷ is) ts left → upcoming a ≡ Some (stop_byte s) → Outside count f v → Tells count t (OutOfRange a.at)
tells_range {count} {t = t} {a = a} {f} {s} {room} {v} {is} {ts} h n bad = (4, a.at, fault_range count t a.at (digits f s room v ∷ is) ts (next_left h _ n) h.scans f v h.fine (s, room, is, refl, next_is h _ n) bad, refl)

-- a bracket with no level left for it
pub tells_deep : {count : ℕ} {t : List ℕ} {d : Draft} {a : Reader} {is js : List Item} {ts us : List Token} → Stands count t d a is ts 0 → upcoming a ≡ Some 40 → step is 40 ≡ moved js us → Tells count t (TooDeep a.at)
tells_deep {count} {t} {a = a} {is} {js} {ts} {us} h n e = (3, a.at, fault_deep count t a.at is ts (next_left h 40 n) h.scans js us h.fine (ap (step is) (next_is h 40 n) ∙ e) (next_is h 40 n) (let m = h.levels in omega arith), refl)

-- a symbol's head where no further symbol has a position
pub tells_many : {count left : ℕ} {t : List ℕ} {d : Draft} {a : Reader} {is : List Item} {ts : List Token} → Stands count t d a (rest 109 [] sym_head ∷ is) ts left → upcoming a ≡ Some 109 → heads ts ≡ 63 → Tells count t (TooManySymbols a.at)
tells_many {count} {t = t} {a = a} {is} {ts} h n full = (5, a.at, fault_many count t a.at (rest 109 [] sym_head ∷ is) ts (next_left h 109 n) h.scans h.fine (is, refl, next_is h 109 n) full, refl)
