-- Whole forms of a line, from the parts that a reader has read of them. Assumes nothing.
use Rattle.std.proofs.Common.{◌≡◌, ℕ, ◌+◌, true, List, [], ◌∷◌, ◌++◌, codes as ascii, sym, ap, ◌∙◌, subst, arith}
use Rattle.meaning.specs.declared.Symbol.{Symbol}
use Rattle.meaning.specs.Words.{sym as symbol, none, star, seq, alt, one, more}
use Rattle.meaning.specs.Text.{Token, fixed, sym_head, tokens, list_tokens, heads}
use Rattle.meaning.proofs.Scan.{closing, Item, onto, onto_append}
use Rattle.positions.specs.declared.draft.Draft.{Draft}
use Rattle.sheet.specs.declared.reader.Join.{Join}
use Rattle.sheet.specs.declared.reader.Join.TheVariants.{Seq, Alt}
use Rattle.positions.specs.declared.part.Part.{Part}
use Rattle.sheet.specs.declared.reader.Reader.{Reader}
use Rattle.sheet.specs.Adding.{Added, joins, AddsStar, AddsMore}
use Rattle.sheet.specs.Reading.{SamePlace, Stands, ExprRead, ListRead, numbers_onto}
use Rattle.sheet.proofs.Standing.{with_draft}
use Rattle.sheet.proofs.Joining.{added_none, added_one}

-- tokens with one more behind them
behind_one : (us : List Token) (t : Token) (ts : List Token) → t ∷ onto us ts ≡ onto (us ++ t ∷ []) ts
behind_one us t ts = sym (onto_append us (t ∷ []) ts)

-- a list is a form
seq_read : {count left : ℕ} {t : List ℕ} {d : Draft} {b : Reader} {is : List Item} {ts : List Token} {part : Part} → ListRead Seq count t d b is (fixed (ascii "(seq ") ∷ ts) left part → ExprRead count t d b is ts left part
seq_read {count} {left} {t} {d} {b} {is} {ts} r =
    let e = behind_one (list_tokens r.list) closing (fixed (ascii "(seq ") ∷ ts) in
    record { expr = seq r.list; after = r.after; stands = subst (λ us. Stands count t r.after b is us left) e r.stands; heads_are = ap heads (sym e) ∙ r.heads_are; added = r.added }

alt_read : {count left : ℕ} {t : List ℕ} {d : Draft} {b : Reader} {is : List Item} {ts : List Token} {part : Part} → ListRead Alt count t d b is (fixed (ascii "(alt ") ∷ ts) left part → ExprRead count t d b is ts left part
alt_read {count} {left} {t} {d} {b} {is} {ts} r =
    let e = behind_one (list_tokens r.list) closing (fixed (ascii "(alt ") ∷ ts) in
    record { expr = alt r.list; after = r.after; stands = subst (λ us. Stands count t r.after b is us left) e r.stands; heads_are = ap heads (sym e) ∙ r.heads_are; added = r.added }

abbrev pub opener : Join → List ℕ
opener Seq = ascii "(seq "
opener Alt = ascii "(alt "

pub list_read : (join : Join) {count left : ℕ} {t : List ℕ} {d : Draft} {b : Reader} {is : List Item} {ts : List Token} {part : Part} → ListRead join count t d b is (fixed (opener join) ∷ ts) left part → ExprRead count t d b is ts left part
list_read Seq r = seq_read r
list_read Alt r = alt_read r

-- the first form of a list that ends with it
pub one_read : (join : Join) {count left left' : ℕ} {t : List ℕ} {d : Draft} {a b : Reader} {is js : List Item} {ts : List Token} {part : Part} (r : ExprRead count t d a is ts left part) → Stands count t r.after b js (closing ∷ onto (tokens r.expr) ts) left' → ListRead join count t d b js ts left' part
one_read join r h = record { list = one r.expr; after = r.after; stands = h; heads_are = r.heads_are; added = added_one join r.added }

-- and of a list that goes on
pub more_read : (join : Join) {count left left' : ℕ} {t : List ℕ} {d : Draft} {a b : Reader} {is js : List Item} {ts : List Token} {first rest whole : Part} (c : Reader) (r : ExprRead count t d a is ts left first) → ListRead join count t r.after b js (fixed (ascii " ") ∷ onto (tokens r.expr) ts) left' rest → SamePlace b c → c.draft.symbols.len ≡ b.draft.symbols.len → AddsMore join b.draft c.draft first rest whole → ListRead join count t d c js ts left' whole
more_read join {count} {left} {left'} {t} {d} {a} {b} {is} {js} {ts} {first} {rest} {whole} c r s p n adds =
    let e = sym (onto_append (tokens r.expr) (fixed (ascii " ") ∷ list_tokens s.list) ts) in
    record {
      list = more r.expr s.list;
      after = c.draft;
      stands = subst (λ us. Stands count t c.draft c js (closing ∷ us) left') e (with_draft c s.stands p);
      heads_are = ap heads (sym e) ∙ (s.heads_are ∙ (ap (λ x. x.symbols.len) (sym s.stands.draft_is) ∙ sym n));
      added = adds r.expr s.list d r.after r.added (subst (λ x. Added (joins join s.list) r.after x rest) (sym s.stands.draft_is) s.added);
    }

pub none_read : {count left : ℕ} {t : List ℕ} {d : Draft} {b : Reader} {is : List Item} {ts : List Token} → Stands count t d b is (fixed (ascii "(none)") ∷ ts) left → heads ts ≡ d.symbols.len → ExprRead count t d b is ts left (record { nullable = true; first = 0; last = 0 })
none_read {d = d} h m = record { expr = none; after = d; stands = h; heads_are = m; added = added_none d }

-- a symbol that is added to the draft
pub symbol_read : {count left : ℕ} {t : List ℕ} {d : Draft} {a : Reader} {is : List Item} {ts : List Token} {part : Part} (s : Symbol) (b : Reader) → Stands count t d a is (numbers_onto s (fixed (ascii " ") ∷ sym_head ∷ ts)) left → heads ts ≡ d.symbols.len → SamePlace a b → b.draft.symbols.len ≡ a.draft.symbols.len + 1 → Added (symbol s) a.draft b.draft part → ExprRead count t d b is ts left part
symbol_read {count} {left} {t} {d} {a} {is} {ts} {part} s b h m p c x = record {
  expr = symbol s;
  after = b.draft;
  stands = with_draft b h p;
  heads_are = let n = ap (λ x. x.symbols.len) h.draft_is in omega arith;
  added = subst (λ y. Added (symbol s) y b.draft part) h.draft_is x;
}

-- a form that is starred
pub star_read : {count left left' : ℕ} {t : List ℕ} {d : Draft} {a b : Reader} {is js : List Item} {ts : List Token} {part whole : Part} (c : Reader) (r : ExprRead count t d a is (fixed (ascii "(star ") ∷ ts) left part) → Stands count t r.after b js (closing ∷ onto (tokens r.expr) (fixed (ascii "(star ") ∷ ts)) left' → SamePlace b c → c.draft.symbols.len ≡ b.draft.symbols.len → AddsStar b.draft c.draft part whole → ExprRead count t d c js ts left' whole
star_read {count} {left} {left'} {t} {d} {a} {b} {is} {js} {ts} {part} c r h p n adds =
    let e = behind_one (tokens r.expr) closing (fixed (ascii "(star ") ∷ ts) in
    record {
      expr = star r.expr;
      after = c.draft;
      stands = subst (λ us. Stands count t c.draft c js us left') e (with_draft c h p);
      heads_are = ap heads (sym e) ∙ (r.heads_are ∙ (ap (λ x. x.symbols.len) (sym h.draft_is) ∙ sym n));
      added = adds r.expr d (subst (λ x. Added r.expr d x part) (sym h.draft_is) r.added);
    }
