-- The end mark joins the sets of a line's expression. Assumes nothing.
use Rattle.std.proofs.Common.{◌≡◌, ℕ, ◌*◌, ◌%◌, ◌^◌, ◌≤◌, Bool, List, length, sym, ap, ◌∙◌, ap₂, arith}
use lib.Bits.{bit_or}
use Rattle.std.proofs.lemmas.Nat.{one_shl}
use Rattle.meaning.specs.declared.Symbol.{Symbol}
use Rattle.meaning.specs.Words.{Line}
use Rattle.meaning.specs.Positions.{has, given, end_set}
use Rattle.positions.specs.Masks.{Linked, ExpressionSets, LineSets}

pub closed :
    (l : Line) (symbols : List Symbol) (count : ℕ) (before after : List ℕ) (empty : Bool) (first last whole : ℕ) → length symbols ≡ count → count ≤ 63
    → ExpressionSets l symbols before empty first last → Linked before last (1 * 2 ^ count % 2 ^ 64) after
    → whole ≡ bit_or first (given empty (1 * 2 ^ count % 2 ^ 64)) → LineSets l symbols whole after
closed l symbols count before after empty first last whole long few e k f = record {
  symbols_are = e.symbols_are;
  first_is = f ∙ ap₂ bit_or e.first_is (ap₂ given e.empty_is marked);
  follow_is = λ p h. k p h ∙ ap₂ bit_or (e.follow_is p h) (ap₂ (λ s m. given (has s p) m) e.last_is marked);
}
  where
    marked : 1 * 2 ^ count % 2 ^ 64 ≡ end_set l
    marked = one_shl count 64 (omega arith) ∙ ap (λ n. 2 ^ n) (sym long ∙ ap length e.symbols_are)
