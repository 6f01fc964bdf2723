use Rattle.std.proofs.Common.{◌≡◌, ℕ, ◌+◌, ◌<◌, ◌≤◌, List, [], ◌∷◌, length, get_or, take, drop, Some, sym, refl, ap, ◌∙◌, subst, arith}
use Rattle.std.proofs.lemmas.Grind.{common_steps}
use Rattle.std.proofs.lemmas.List.{drop_more, drop_all, take_all}
use Rattle.positions.specs.declared.draft.Draft.{Draft}
use Rattle.meaning.specs.Text.{Token, fixed, occurs}
use Rattle.meaning.proofs.Scan.{Item}
use Rattle.meaning.proofs.Steps.{rest_stuck}
use Rattle.meaning.proofs.Faults.{counts_byte}
use Rattle.sheet.specs.declared.reader.Reader.{Reader}
use Rattle.sheet.specs.declared.refusal.Refusal.TheVariants.{BadForm}
use Rattle.sheet.specs.Reading.{upcoming, Passed, Stands, Awaits, Tells}
use Rattle.sheet.proofs.Standing.{word_on, tells_form}
use Rattle.sheet.proofs.reader.Reader.expect.Goals as goal

-- the state in which the bytes bs are to come from the k-th on
module _ (count : ℕ) (t : List ℕ) (d : Draft) (a : Reader) (bs : List ℕ) (k : ℕ) (word : List ℕ) (is : List Item) (ts : List Token) (left : ℕ) (inside : k < length bs) (h : Awaits count t d a (drop k bs) word is ts (occurs 41 (take k bs) + (occurs 40 (drop k bs) + left))) where
  here : Awaits count t d a (get_or bs k 0 ∷ drop (k + 1) bs) word is ts (occurs 41 (take k bs) + (occurs 40 (get_or bs k 0 ∷ drop (k + 1) bs) + left))
  here = subst (λ r. Awaits count t d a r word is ts (occurs 41 (take k bs) + (occurs 40 r + left))) (drop_more bs k 0 inside) h

  other_byte : (upcoming a ≡ Some (get_or bs k 0) → ⊥) → Tells count t (BadForm a.at)
  other_byte n = tells_form here (λ b m. rest_stuck is (get_or bs k 0) b (drop (k + 1) bs) (fixed word) (λ e. n (m ∙ ap Some (sym e))))

  one_byte : (b : Reader) → upcoming a ≡ Some (get_or bs k 0) → Passed a b → Awaits count t d b (drop (k + 1) bs) word is ts (occurs 41 (take (k + 1) bs) + (occurs 40 (drop (k + 1) bs) + left))
  one_byte b n p = word_on (get_or bs k 0) (drop (k + 1) bs) (occurs 41 (take (k + 1) bs) + (occurs 40 (drop (k + 1) bs) + left)) here n p (omega (arith, counts_byte 41 bs k (get_or bs k 0) inside refl))

-- the state behind all of them
all_read : (count : ℕ) (t : List ℕ) (d : Draft) (a : Reader) (bs : List ℕ) (k : ℕ) (word : List ℕ) (is : List Item) (ts : List Token) (room left' : ℕ) → length bs ≤ k → left' ≡ occurs 41 bs + room → Awaits count t d a (drop k bs) word is ts (occurs 41 (take k bs) + (occurs 40 (drop k bs) + room)) → Stands count t d a is (fixed word ∷ ts) left'
all_read count t d a bs k word is ts room left' over e h =
    let s : Stands count t d a is (fixed word ∷ ts) (occurs 41 bs + (0 + room)) = subst (λ r. Awaits count t d a [] word is ts (occurs 41 r + (0 + room))) (take_all k bs over) (subst (λ r. Awaits count t d a r word is ts (occurs 41 (take k bs) + (occurs 40 r + room))) (drop_all k bs over) h) in
    let f : occurs 41 bs + (0 + room) ≡ left' = omega arith in
    subst (Stands count t d a is (fixed word ∷ ts)) f s

pub returns-then-ne-clause-reads : goal.returns-then-ne-clause-reads
returns-then-ne-clause-reads c = λ count t d word is ts room left left' h lv.
    subst (Tells count t) (sym c.bad_form.ensures)
    (other_byte count t d c.loop-c.self c.args.word.now c.loop-c.c-index word is ts room c.loop-c-test.true (c.loop-c.invariant.more count t d word is ts room (subst (Awaits count t d c.args.self.now c.args.word.now word is ts) lv.0 h)) (λ n. grind (arith, common_steps)))

pub loop-c-preserved : goal.loop-c-preserved
loop-c-preserved c =
    let one = c.pass.ensures in
    let n : upcoming c.loop-c.self ≡ Some (get_or c.args.word.now c.loop-c.c-index 0) = grind (arith, common_steps) in
    record {
      onward = record { text_is = one.text_is ∙ c.loop-c.invariant.onward.text_is; on = omega arith };
      more = λ count t d word is ts room h.
          one_byte count t d c.loop-c.self c.args.word.now c.loop-c.c-index word is ts room c.loop-c-test.true (c.loop-c.invariant.more count t d word is ts room h) c.pass.new.self n c.pass.ensures;
    }

pub returns-clause-reads : goal.returns-clause-reads
returns-clause-reads c = λ count t d word is ts room left left' h lv.
    all_read count t d c.loop-c.self c.args.word.now c.loop-c.c-index word is ts room left' c.loop-c-test.false lv.1 (c.loop-c.invariant.more count t d word is ts room (subst (Awaits count t d c.args.self.now c.args.word.now word is ts) lv.0 h))
