use Rattle.std.proofs.Common.{◌≡◌, ℕ, ◌<◌, List, [], ◌∷◌, codes as ascii, Some, sym, refl, ap, ◌∙◌, subst, arith}
use Rattle.std.proofs.lemmas.Grind.{common_steps}
use Rattle.std.proofs.lemmas.Result.{err_from_is_err_and}
use Rattle.std.proofs.lemmas.Bool.{leb-true, leb-false}
use Rattle.positions.specs.declared.draft.Draft.{Draft}
use Rattle.meaning.specs.Text.{Token, fixed, sym_head, heads}
use Rattle.meaning.proofs.Scan.{Item, rest}
use Rattle.meaning.proofs.Steps.{rest_stuck}
use Rattle.sheet.specs.Reading.{upcoming, Stands, Tells}
use Rattle.sheet.proofs.Standing.{head_on, tells_form, tells_many}
use Rattle.sheet.proofs.Forming.{symbol_read}
use Rattle.sheet.proofs.reader.Reader.symbol.Goals as goal
use Rattle.sheet.proofs.reader.Reader.symbol.Goals.{After-pass, In_ok-expect}

-- a symbol has room
few : (c : After-pass) → c.args.self.now.draft.symbols.len < 63
few c = leb-false 63 c.args.self.now.draft.symbols.len (sym c.is_full.ensures ∙ c.if-is_full.false)

module _ (count : ℕ) (t : List ℕ) (d : Draft) (ts : List Token) (left : ℕ) where
  -- behind the head
  headed : (is : List Item) (c : After-pass) → Stands count t d c.args.self.now (rest 109 [] sym_head ∷ is) ts left → heads ts ≡ d.symbols.len → Stands count t d c.pass.new.self is (sym_head ∷ ts) left
  headed is c h m =
      let n : upcoming c.args.self.now ≡ Some 109 = grind (arith, common_steps) in
      let room = few c in
      head_on h n c.pass.ensures (λ full. omega (arith, ap (λ x. x.symbols.len) h.draft_is))

  -- and the blank
  spaced : (is : List Item) (c : In_ok-expect) → Stands count t d c.args.self.now (rest 109 [] sym_head ∷ rest 32 [] (fixed (ascii " ")) ∷ is) ts left → heads ts ≡ d.symbols.len → Stands count t d c.expect.new.self is (fixed (ascii " ") ∷ sym_head ∷ ts) left
  spaced is c h m = c.in_ok-expect.ensures.reads count t d _ is _ left left left (headed _ (goal.at.In_ok-expect c).After-pass h m) (omega arith, omega arith)

pub returns-then-ne-clause-reads : goal.returns-then-ne-clause-reads
returns-then-ne-clause-reads c = λ left count t d is ts h m.
    subst (Tells count t) (sym c.bad_form.ensures) (tells_form h (λ b n. rest_stuck _ 109 b [] sym_head (λ x. grind (arith, common_steps))))

pub returns-then-is_full-clause-reads : goal.returns-then-is_full-clause-reads
returns-then-is_full-clause-reads c =
    let n : upcoming c.args.self.now ≡ Some 109 = grind (arith, common_steps) in
    λ left count t d is ts h m. let full : heads ts ≡ 63 = omega (arith, leb-true 63 c.args.self.now.draft.symbols.len (sym c.is_full.ensures ∙ c.if-is_full.true), ap (λ x. x.symbols.len) h.draft_is, d.symbols.few) in tells_many h n full

pub returns-in_err-expect-clause-reads : goal.returns-in_err-expect-clause-reads
returns-in_err-expect-clause-reads c =
    let p = err_from_is_err_and c.from_residual.result c.from_residual.ensures.1 in
    λ left count t d is ts h m.
    rw (p.1, p.2) (c.in_err-expect.ensures.reads count t d _ _ _ left left left (headed count t d ts left _ (goal.at.returns-in_err-expect-clause-reads c).After-pass h m) (omega arith, omega arith))

pub returns-in_err-symbol-clause-reads : goal.returns-in_err-symbol-clause-reads
returns-in_err-symbol-clause-reads c =
    let p = err_from_is_err_and c.from_residual-in_err-symbol.result c.from_residual-in_err-symbol.ensures.1 in
    λ left count t d is ts h m.
    rw (p.1, p.2) (c.in_err-symbol.ensures.reads count t d is _ left (spaced count t d ts left _ (goal.at.returns-in_err-symbol-clause-reads c).In_ok-expect h m))

pub returns-clause-reads : goal.returns-clause-reads
returns-clause-reads c = λ left count t d is ts h m.
    let s = c.in_ok-symbol.ensures.reads count t d is _ left (spaced count t d ts left _ (goal.at.returns-clause-reads c).In_ok-expect h m) in
    let before = few (goal.at.returns-clause-reads c).After-pass in
    let room : c.range.new.self.draft.symbols.len < 63 = omega (arith, ap (λ x. x.symbols.len) h.draft_is, ap (λ x. x.symbols.len) s.draft_is) in
    symbol_read c.in_ok-symbol.symbol _ s m (record { text_is = refl; counts = refl; place = refl }) (c.single.ensures.count room) (c.single.ensures.adds room)
