use Rattle.tails.specs.Given.{TailKey}
use Rattle.tails.proofs.counts.tail_key.Given as goal

abbrev pub invariant-loop-w : goal.invariant-loop-w
invariant-loop-w l = TailKey l.row l.work l.w l.best
