use Rattle.positions.proofs.Linking.{LinkedBelow}
use Rattle.positions.proofs.draft.Draft.link.Given as goal

abbrev pub invariant-loop-p : goal.invariant-loop-p
invariant-loop-p l = LinkedBelow l.initial.row-items l.last l.after l.row-items l.p
