use Rattle.std.proofs.Common.{ℕ, ◌-◌, ◌^◌, ◌<◌, List, ◌∷◌}
use Rattle.positions.specs.declared.draft.Draft.{Draft}
use Rattle.meaning.specs.Text.{Field, Token}
use Rattle.meaning.proofs.Scan.{Stop, Item, digits}
use Rattle.sheet.specs.declared.reader.Reader.{Reader}
use Rattle.sheet.specs.Reading.{Onward, Stands}
use Rattle.sheet.proofs.reader.Reader.digits.Given as goal

-- from a to b, the digits of a number behind the first were read, k with it
abbrev pub More : Reader → Reader → (k first value : ℕ) → Type 0
More a b k first value =
    (count : ℕ) (t : List ℕ) (d : Draft) (f : Field) (s : Stop) (is : List Item) (ts : List Token) (left : ℕ)
    → Stands count t d a (digits f s 4 first ∷ is) ts left → Stands count t d b (digits f s (5 - k) value ∷ is) ts left

abbrev pub invariant-loop : goal.invariant-loop
invariant-loop l = record {
  fits : l.value < 10 ^ l.counter;
  onward : Onward l.initial.self l.self;
  more : More l.initial.self l.self l.counter l.initial.value l.value;
}
