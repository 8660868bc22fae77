use Rattle.tails.specs.Given.{StretchesDone}
use Rattle.tails.proofs.stretches.put_stretches.Given as goal

abbrev pub invariant-loop-d : goal.invariant-loop-d
invariant-loop-d l = StretchesDone l.row l.d l.initial.work l.work
