use Rattle.std.proofs.Common.{◌≡◌, true, List}
use Rattle.meaning.specs.Words.{Line}
use Rattle.meaning.specs.Alphabets.{seen}
use Rattle.meaning.specs.Runs.{Mean}
use Rattle.plate.specs.Desks.{texts_of, is_built}
use Rattle.reading.proofs.Looking.{Within, Looked}
use Rattle.reading.proofs.cutting.longest.Given as goal

abbrev pub invariant-loop-before : goal.invariant-loop-before
invariant-loop-before g l =
    Within l.place l.before l.best
    × (l.plate.desk.count ≡ g.A.Alphabet.COUNT → is_built l.plate.desk ≡ true → (ls : List Line) → Mean (texts_of l.plate.desk) ls
    → Looked l.plate ls (seen g.A.Alphabet.classed l.extent) l.place l.before l.state l.best)
