use Rattle.solver.proofs.Marks.{MarkedBelow}
use Rattle.solver.proofs.pairs.mark.Given as goal

abbrev pub invariant-loop-d : goal.invariant-loop-d
invariant-loop-d l = MarkedBelow l.row l.keys l.d l.seen
