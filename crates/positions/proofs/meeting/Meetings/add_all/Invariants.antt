use Rattle.positions.specs.declared.meeting.Meetings.{Meetings}
use Rattle.positions.specs.Meets.{Adds, Block}
use Rattle.positions.proofs.meeting.Meetings.add_all.Given as goal

-- what adds the pairs of the rest adds all
abbrev pub invariant-loop-p : goal.invariant-loop-p
invariant-loop-p l = (m : Meetings) → Adds (Block l.p-iterator.0 l.qs l.beside) l.self m → Adds (Block l.ps l.qs l.beside) l.initial.self m
