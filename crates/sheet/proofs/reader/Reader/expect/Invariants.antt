use Rattle.std.proofs.Common.{ℕ, ◌+◌, List, take, drop}
use Rattle.positions.specs.declared.draft.Draft.{Draft}
use Rattle.meaning.specs.Text.{Token, occurs}
use Rattle.meaning.proofs.Scan.{Item}
use Rattle.sheet.specs.declared.reader.Reader.{Reader}
use Rattle.sheet.specs.Reading.{Onward, Awaits}
use Rattle.sheet.proofs.reader.Reader.expect.Given as goal

-- from a to b, the first k of the bytes bs were read
abbrev pub More : Reader → Reader → (bs : List ℕ) → (k : ℕ) → Type 0
More a b bs k =
    (count : ℕ) (t : List ℕ) (d : Draft) (word : List ℕ) (is : List Item) (ts : List Token) (left : ℕ)
    → Awaits count t d a bs word is ts (occurs 40 bs + left) → Awaits count t d b (drop k bs) word is ts (occurs 41 (take k bs) + (occurs 40 (drop k bs) + left))

abbrev pub invariant-loop-c : goal.invariant-loop-c
invariant-loop-c l = record { onward : Onward l.initial.self l.self; more : More l.initial.self l.self l.word l.c-index }
