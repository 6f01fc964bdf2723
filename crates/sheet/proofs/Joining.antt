-- What the forms of a line add to a draft, form by form. Assumes nothing.
use Rattle.std.proofs.Common.{◌≡◌, ℕ, ◌+◌, ◌^◌, true, false, ◌&&◌, ◌||◌, [], ◌∷◌, ◌++◌, length, sym, refl, ap, ◌∙◌, ap₂, append_assoc, append-nil, arith, length-append}
use Rattle.std.proofs.Math.Bool.{or_assoc as bool_or_assoc}
use lib.Bits.{bit_or, or_zero_r}
use Rattle.meaning.specs.declared.Symbol.{Symbol}
use Rattle.meaning.specs.Words.{Expr, sym as symbol, none, star, seq, alt, Forms, one, more}
use Rattle.meaning.specs.Positions.{symbols, list_symbols, has, given, firstpos, lastpos, followpos, seq_first, seq_last, seq_follow, alt_first, alt_last, alt_follow}
use Rattle.meaning.proofs.Masks.{has_or, same_mask}
use Rattle.positions.specs.declared.draft.Draft.{Draft}
use Rattle.positions.specs.Masks.{held, at, Linked}
use Rattle.sheet.specs.declared.reader.Join.{Join}
use Rattle.sheet.specs.declared.reader.Join.TheVariants.{Seq, Alt}
use Rattle.positions.specs.declared.part.Part.{Part}
use Rattle.sheet.specs.Adding.{Added, joins}

pub or_assoc : (a b c : ℕ) → bit_or (bit_or a b) c ≡ bit_or a (bit_or b c)
or_assoc a b c = same_mask _ _ (λ p h. has_or (bit_or a b) c p ∙ (ap (λ x. x || has c p) (has_or a b p) ∙ (bool_or_assoc (has a p) (has b p) (has c p) ∙ (ap (λ x. has a p || x) (sym (has_or b c p)) ∙ sym (has_or a (bit_or b c) p)))))

regroup : (a b c g : ℕ) → bit_or (bit_or (bit_or a b) c) g ≡ bit_or a (bit_or b (bit_or c g))
regroup a b c g = or_assoc (bit_or a b) c g ∙ or_assoc a b (bit_or c g)

pub added_none : (d : Draft) → Added none d d (record { nullable = true; first = 0; last = 0 })
added_none d = record { count_is = omega arith; symbols_are = sym (append-nil _); follow_is = λ p h. sym (or_zero_r _); nullable_is = refl; first_is = refl; last_is = refl }

pub added_symbol : (s : Symbol) (d after : Draft) (position : ℕ) → after.symbols.len ≡ d.symbols.len + 1 → held after.symbols ≡ held d.symbols ++ s ∷ [] → after.follow ≡ d.follow → position ≡ 2 ^ d.symbols.len → Added (symbol s) d after (record { nullable = false; first = position; last = position })
added_symbol s d after position c e f p = record {
  count_is = c;
  symbols_are = e;
  follow_is = λ q h. ap (λ x. at x q) f ∙ sym (or_zero_r _);
  nullable_is = refl;
  first_is = p;
  last_is = p;
}

module _ {e : Expr} {d m after : Draft} {part : Part} (a : Added e d m part) (c : after.symbols.len ≡ m.symbols.len) (y : after.symbols ≡ m.symbols) where
  pub added_star : Linked m.follow part.last part.first after.follow → Added (star e) d after (record { nullable = true; first = part.first; last = part.last })
  added_star f = record {
    count_is = c ∙ a.count_is;
    symbols_are = ap held y ∙ a.symbols_are;
    follow_is = λ p h. f p h ∙ (ap₂ bit_or (a.follow_is p h) (ap₂ (λ x z. given (has x p) z) a.last_is a.first_is) ∙ or_assoc (at d.follow p) (followpos e d.symbols.len p) (given (has (lastpos e d.symbols.len) p) (firstpos e d.symbols.len)));
    nullable_is = refl;
    first_is = a.first_is;
    last_is = a.last_is;
  }

module _ {e : Expr} {d m k after : Draft} {first rest : Part} (a : Added e d m first) (c : after.symbols.len ≡ k.symbols.len) (y : after.symbols ≡ k.symbols) where
  pub added_seq : {es : Forms} → Added (seq es) m k rest → Linked k.follow first.last rest.first after.follow → Added (seq (more e es)) d after (record { nullable = first.nullable && rest.nullable; first = bit_or first.first (given first.nullable rest.first); last = bit_or (given rest.nullable first.last) rest.last })
  added_seq {es} b f =
      let n = a.count_is in
      record {
        count_is = c ∙ (b.count_is ∙ omega (arith, n, length-append (symbols e) (list_symbols es)));
        symbols_are = ap held y ∙ (b.symbols_are ∙ (ap (λ x. x ++ list_symbols es) a.symbols_are ∙ append_assoc (held d.symbols) (symbols e) (list_symbols es)));
        follow_is = λ p h. f p h ∙ (ap₂ bit_or (b.follow_is p h ∙ ap₂ bit_or (a.follow_is p h) (ap (λ x. seq_follow es x p) n)) (ap₂ (λ x z. given (has x p) z) a.last_is (b.first_is ∙ ap (seq_first es) n)) ∙ regroup (at d.follow p) (followpos e d.symbols.len p) (seq_follow es (d.symbols.len + length (symbols e)) p) (given (has (lastpos e d.symbols.len) p) (seq_first es (d.symbols.len + length (symbols e)))));
        nullable_is = ap₂ (λ x z. x && z) a.nullable_is b.nullable_is;
        first_is = ap₂ bit_or a.first_is (ap₂ given a.nullable_is (b.first_is ∙ ap (seq_first es) n));
        last_is = ap₂ bit_or (ap₂ given b.nullable_is a.last_is) (b.last_is ∙ ap (seq_last es) n);
      }

module _ {e : Expr} {d m k : Draft} {first rest : Part} (a : Added e d m first) where
  pub added_alt : {es : Forms} → Added (alt es) m k rest → Added (alt (more e es)) d k (record { nullable = first.nullable || rest.nullable; first = bit_or first.first rest.first; last = bit_or first.last rest.last })
  added_alt {es} b =
      let n = a.count_is in
      record {
        count_is = b.count_is ∙ omega (arith, n, length-append (symbols e) (list_symbols es));
        symbols_are = b.symbols_are ∙ (ap (λ x. x ++ list_symbols es) a.symbols_are ∙ append_assoc (held d.symbols) (symbols e) (list_symbols es));
        follow_is = λ p h. b.follow_is p h ∙ (ap₂ bit_or (a.follow_is p h) (ap (λ x. alt_follow es x p) n) ∙ or_assoc (at d.follow p) (followpos e d.symbols.len p) (alt_follow es (d.symbols.len + length (symbols e)) p));
        nullable_is = ap₂ (λ x z. x || z) a.nullable_is b.nullable_is;
        first_is = ap₂ bit_or a.first_is (b.first_is ∙ ap (alt_first es) n);
        last_is = ap₂ bit_or a.last_is (b.last_is ∙ ap (alt_last es) n);
      }

-- one form is a list
pub added_one : (join : Join) {e : Expr} {d after : Draft} {part : Part} → Added e d after part → Added (joins join (one e)) d after part
added_one Seq a = record { count_is = a.count_is; symbols_are = a.symbols_are; follow_is = a.follow_is; nullable_is = a.nullable_is; first_is = a.first_is; last_is = a.last_is }
added_one Alt a = record { count_is = a.count_is; symbols_are = a.symbols_are; follow_is = a.follow_is; nullable_is = a.nullable_is; first_is = a.first_is; last_is = a.last_is }
