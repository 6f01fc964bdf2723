-- The steps of a reader through a number and the byte behind it. Assumes nothing.
use Rattle.std.proofs.Common.{◌≡◌, ℕ, zero, suc, ◌+◌, ◌-◌, ◌*◌, ◌<◌, List, [], ◌∷◌, Some, sym, refl, ap, ◌∙◌, subst, inl, inr, arith}
use Rattle.std.proofs.lemmas.Bool.{cond_both}
use Rattle.positions.specs.declared.draft.Draft.{Draft}
use Rattle.meaning.specs.Text.{Field, action, low, high, Token, sym_head, number, Outside}
use Rattle.meaning.specs.TextLaws.{Digit}
use Rattle.meaning.proofs.Scan.{Stop, stop_byte, stop_token, Item, rest, numeral, digits, stuck, moved, digit, behind, step}
use Rattle.meaning.proofs.Steps.{stop_low, off_byte, first_step, first_stuck, stop_step, digit_step, digits_stuck}
use Rattle.sheet.specs.declared.reader.Reader.{Reader}
use Rattle.sheet.specs.declared.refusal.Refusal.TheVariants.{BadForm, OutOfRange}
use Rattle.sheet.specs.Reading.{upcoming, NextDigit, Passed, Stands, Tells, Leaves, DigitsRead, Takes}
use Rattle.sheet.proofs.Standing.{Sound, on, quiet_sound, tells_form, tells_range}

digit_leaves : (c left : ℕ) → Digit c → Leaves c left left
digit_leaves c left d = grind arith

value_of : (n : ℕ) → n + 48 - 48 ≡ n
value_of n = omega arith

other_items : {f g : Field} {s r : Stop} {k m v n : ℕ} {is js : List Item} → digits f s k v ∷ is ≡ digits g r m n ∷ js → (f ≡ g) × (s ≡ r) × (v ≡ n)
other_items e = ((cc), (cc), (cc))

no_head : {f : Field} {s : Stop} {k v : ℕ} {is js : List Item} → digits f s k v ∷ is ≡ rest 109 [] sym_head ∷ js → ⊥
no_head e = let z : ◌≡◌ {A = ℕ} 0 1 = cc in omega arith

digit_sound : (count : ℕ) (f : Field) (s : Stop) (k v : ℕ) (is : List Item) (ts : List Token) (c : ℕ) → Digit c → Sound count (digits f s k v ∷ is) ts c
digit_sound count f s k v is ts c d = (λ g n x bad. let low = stop_low x.0 in let e = x.4 in omega arith, λ x full. no_head x.1)

taken_sound : (count : ℕ) (f : Field) (s : Stop) (k v : ℕ) (is : List Item) (ts : List Token) (c : ℕ) → (Outside count f v → ⊥) → Sound count (digits f s k v ∷ is) ts c
taken_sound count f s k v is ts c q = (λ g n x bad. let e = other_items x.3 in q (subst (λ y. Outside count y v) (sym e.0) (subst (Outside count g) (sym e.2) bad)), λ x full. no_head x.1)

digits_off : (f : Field) (s : Stop) (k v : ℕ) (is : List Item) (c : ℕ) → (stop_byte s ≡ c → ⊥) → (0 < k → Digit c → ⊥) → step (digits f s k v ∷ is) c ≡ stuck
digits_off f s zero v is c e d = off_byte (stop_byte s) c _ _ e ∙ cond_both (digit c) stuck stuck (λ m. m ≡ stuck) (λ x. refl) (λ x. refl)
digits_off f s (suc k) v is c e d = digits_stuck is f s (suc k) v c e (d (omega arith))

module _ {count left : ℕ} {t : List ℕ} {d : Draft} {a : Reader} {f : Field} {s : Stop} {is : List Item} {ts : List Token} where
  pub none_first : Stands count t d a (numeral f s ∷ is) ts left → ((c : ℕ) → NextDigit a c → ⊥) → Tells count t (BadForm a.at)
  none_first h g = tells_form h (λ c n. first_stuck is f s c (λ d. g c (n, d)))

  -- the byte behind a number
  pub no_stop : (c v : ℕ) → DigitsRead count t d a f s is ts left v → c ≡ stop_byte s → (upcoming a ≡ Some c → ⊥) → Tells count t (BadForm a.at)
  no_stop c v h e n = tells_form h.stands (λ b m. digits_off f s h.room v is b (λ x. n (m ∙ ap Some (sym x ∙ sym e))) (λ p g. h.ends p b (m, g)))

  pub not_taken : (c v : ℕ) → DigitsRead count t d a f s is ts left v → c ≡ stop_byte s → upcoming a ≡ Some c → Outside count f v → Tells count t (OutOfRange a.at)
  not_taken c v h e n bad = tells_range h.stands (n ∙ ap Some e) bad

module _ {count left : ℕ} {t : List ℕ} {d : Draft} {a b : Reader} {f : Field} {s : Stop} {is : List Item} {ts : List Token} where
  -- the first digit
  pub zero_first : Stands count t d a (numeral f s ∷ is) ts left → Passed a b → NextDigit a (0 + 48) → Stands count t d b (digits f s 0 0 ∷ is) ts left
  zero_first h p n = on h 48 (digits f s 0 0 ∷ is) [] left n.0 p refl refl (quiet_sound count (numeral f s) is ts 48 tt)

  pub other_first : (n : ℕ) → Stands count t d a (numeral f s ∷ is) ts left → Passed a b → NextDigit a (n + 48) → (n ≡ 0 → ⊥) → Stands count t d b (digits f s 4 n ∷ is) ts left
  other_first n h p g z = on h (n + 48) (digits f s 4 n ∷ is) [] left g.0 p (first_step is f s (n + 48) g.1 (omega arith) ∙ ap (λ v. moved (digits f s 4 v ∷ is) []) (value_of n)) (digit_leaves (n + 48) left g.1) (quiet_sound count (numeral f s) is ts (n + 48) tt)

  -- one more digit
  pub digit_more : (k v n : ℕ) → Stands count t d a (digits f s (suc k) v ∷ is) ts left → Passed a b → NextDigit a (n + 48) → Stands count t d b (digits f s k (v * 10 + n) ∷ is) ts left
  digit_more k v n h p g = on h (n + 48) (digits f s k (v * 10 + n) ∷ is) [] left g.0 p (digit_step is f s (suc k) v (n + 48) g.1 ∙ ap (λ x. moved (digits f s k (v * 10 + x) ∷ is) []) (value_of n)) (digit_leaves (n + 48) left g.1) (digit_sound count f s (suc k) v is ts (n + 48) g.1)

  -- a number that its field takes, with the byte behind it
  pub number_on : (c left' v : ℕ) → DigitsRead count t d a f s is ts left v → Passed a b → c ≡ stop_byte s → upcoming a ≡ Some c → Leaves c left left' → (Outside count f v → ⊥) → Stands count t d b (behind f v is) (stop_token s ∷ number f v ∷ ts) left'
  number_on c left' v h p e n leaves q = on h.stands c (behind f v is) (stop_token s ∷ number f v ∷ []) left' n p (ap (step (digits f s h.room v ∷ is)) e ∙ stop_step is f s h.room v) leaves (taken_sound count f s h.room v is ts c q)

-- the numbers that the fields take
pub takes_code : (count : ℕ) → Takes count action 0 65536
takes_code count = record { inside = λ v p q bad. omega arith; outside = λ v p. omega arith }

pub takes_low : (count end : ℕ) → end ≡ count → Takes count low 0 end
takes_low count end e = record { inside = λ v p q bad. omega arith; outside = λ v p. omega arith }

pub takes_high : (count least end lo : ℕ) → least ≡ lo → end ≡ count → Takes count (high lo) least end
takes_high count least end lo l e = record {
  inside = λ v p q bad. elim bad [ inl x ↦ omega arith | inr x ↦ omega arith ];
  outside = λ v p. elim p [ inl x ↦ inr (omega arith) | inr x ↦ inl (omega arith) ];
}
