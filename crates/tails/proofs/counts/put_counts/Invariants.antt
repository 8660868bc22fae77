use Rattle.tails.specs.Given.{CountsDone}
use Rattle.tails.proofs.counts.put_counts.Given as goal

abbrev pub invariant-loop-w : goal.invariant-loop-w
invariant-loop-w l = CountsDone l.row l.w l.initial.work l.work
