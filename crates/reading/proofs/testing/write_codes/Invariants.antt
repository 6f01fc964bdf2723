use Rattle.std.proofs.Common.{◌≡◌, ◌+◌, ◌∷◌, map, length, take, drop}
use Rattle.meaning.specs.Words.{Line, Word, Of, classes}
use Rattle.meaning.specs.Alphabets.{seen}
use Rattle.meaning.specs.Positions.{first_set, move_all}
use Rattle.meaning.specs.Runs.{Means}
use Rattle.sheet.specs.Entries.{text_of}
use Rattle.reading.proofs.testing.write_codes.Given as goal

abbrev pub invariant-loop-i : goal.invariant-loop-i
invariant-loop-i g l =
    (drop (length l.extent + 2) l.codes ≡ drop (length l.extent + 2) l.initial.codes)
    × ((x : Line) → Means (text_of l.line) x
    → (l.set ≡ move_all x (first_set x) (take l.i (seen g.A.Alphabet.classed l.extent)))
    × ((w : Word) → Of x.expr w → classes w ≡ seen g.A.Alphabet.classed l.extent → take (l.i + 1) l.codes ≡ x.open_code ∷ take l.i (map (λ p. p.code) w)))
