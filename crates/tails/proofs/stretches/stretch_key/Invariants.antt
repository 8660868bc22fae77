use Rattle.tails.specs.Given.{StretchKey}
use Rattle.tails.proofs.stretches.stretch_key.Given as goal

abbrev pub invariant-loop-w : goal.invariant-loop-w
invariant-loop-w l = StretchKey l.row l.work l.d l.w l.best
