use Rattle.std.proofs.Common.{◌≡◌, map, take, drop}
use Rattle.meaning.specs.Runs.{fresh}
use Rattle.plate.specs.Plates.{account}
use Rattle.runs.specs.Asking.{asked_of, reply_of, plate_of}
use Rattle.runs.proofs.Underway.{Running}
use Rattle.runs.proofs.running.run.Given as goal

abbrev pub invariant-loop-i : goal.invariant-loop-i
invariant-loop-i g l =
    Running g.A.Alphabet.COUNT g.D.Doer.rule (g.D.Doer.state l.initial.doer) (plate_of l.initial.plate.desk.count) (fresh l.initial.plate.moves.now l.initial.plate.sets.now)
    (map (asked_of g.A.Alphabet.classed) (take l.i l.calls)) l.initial.lists (map reply_of (take l.i l.answers)) (account l.plate)
    (g.D.Doer.state l.doer) l.used l.lists
    × (drop l.i l.answers ≡ drop l.i l.initial.answers)
    × (l.plate.desk.count ≡ l.initial.plate.desk.count)
    × ((l.plate.moves.ghost_name ≡ l.initial.plate.moves.ghost_name) × (l.plate.sets.ghost_name ≡ l.initial.plate.sets.ghost_name))
