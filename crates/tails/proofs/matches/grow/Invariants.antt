use Rattle.tails.specs.Solving.{FlatRun}
use Rattle.tails.proofs.Growths.{Grown}
use Rattle.tails.proofs.matches.grow.Given as goal

abbrev pub invariant-loop-w : goal.invariant-loop-w
invariant-loop-w l = (f : FlatRun l.run l.n) → Grown l.run l.marks l.limit l.n f l.i l.w l.initial.matches l.matches
