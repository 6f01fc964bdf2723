use Rattle.std.proofs.Common.{◌≡◌, ◌*◌, ◌<◌, length, get_or}
use Rattle.meaning.specs.States.{nowhere}
use Rattle.plate.specs.Desks.{texts_of}
use Rattle.plate.specs.Cells.{Beyond}
use Rattle.plate.specs.Filling.{met_of, Filled}
use Rattle.plate.proofs.desk.Desk.fill_row.Given as goal

abbrev pub invariant-loop-c : goal.invariant-loop-c
invariant-loop-c l = record {
  filled : Filled l.self.count (texts_of l.self) (met_of l.numbering) l.moves l.s l.c;
  beyond : Beyond (64 * l.self.count) l.initial.moves l.moves;
  known : l.s < length (met_of l.numbering);
  same : get_or (met_of l.numbering) l.s nowhere ≡ l.state;
}
