use Rattle.std.proofs.Common.{◌^◌, ◌<◌}
use Rattle.positions.proofs.Chasing.{Closing, far}
use Rattle.positions.proofs.sets.Sets.all_meetings.Given as goal

abbrev pub invariant-loop-p : goal.invariant-loop-p
invariant-loop-p l = (l.all.rows.0 < 2 ^ 64) × Closing l.self.first l.self.follow l.beside l.all

abbrev pub decreases-loop-p : goal.decreases-loop-p
decreases-loop-p l = far l.all
