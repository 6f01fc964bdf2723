use Rattle.std.proofs.Common.{◌≡◌, take}
use Rattle.meaning.specs.Words.{Line, Word, Of, classes}
use Rattle.meaning.specs.Alphabets.{seen}
use Rattle.meaning.specs.Positions.{first_set, move_all}
use Rattle.meaning.specs.Doers.{Leads}
use Rattle.meaning.specs.Runs.{Means}
use Rattle.sheet.specs.Entries.{text_of}
use Rattle.playing.proofs.Led.{rest_of}
use Rattle.playing.proofs.performing.give_word.Given as goal

abbrev pub invariant-loop-i : goal.invariant-loop-i
invariant-loop-i g l =
    (x : Line) (w : Word) → Means (text_of l.line) x → Of x.expr w → classes w ≡ seen g.A.Alphabet.classed l.word
    → (l.set ≡ move_all x (first_set x) (take l.i (classes w))) × Leads g.D.Doer.rule (g.D.Doer.state l.initial.doer) (take l.i (rest_of x w)) (g.D.Doer.state l.doer)
