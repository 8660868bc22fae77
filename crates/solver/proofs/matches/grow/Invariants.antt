use Rattle.solver.proofs.Growths.{GrownBelow}
use Rattle.solver.proofs.matches.grow.Given as goal

abbrev pub invariant-loop-w : goal.invariant-loop-w
invariant-loop-w l = GrownBelow l.kinds l.i l.w l.initial.matches l.matches
