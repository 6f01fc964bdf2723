use Rattle.std.proofs.Common.{◌*◌}
use Rattle.plate.specs.Desks.{texts_of}
use Rattle.plate.specs.Cells.{Beyond}
use Rattle.plate.specs.Filling.{met_of, Filled}
use Rattle.plate.proofs.desk.Desk.fill_moves.Given as goal

abbrev pub invariant-loop-s : goal.invariant-loop-s
invariant-loop-s l = record {
  filled : Filled l.self.count (texts_of l.self) (met_of l.numbering) l.moves l.s 0;
  beyond : Beyond (64 * l.self.count) l.initial.moves l.moves;
}
