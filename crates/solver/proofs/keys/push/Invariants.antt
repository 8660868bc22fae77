use Rattle.solver.proofs.Putting.{Put, OfPush}
use Rattle.solver.proofs.keys.push.Given as goal

abbrev pub invariant-loop-d : goal.invariant-loop-d
invariant-loop-d l = Put (OfPush l.solved.costs.now l.solved.choices.now l.solved.numbers.now l.solved.tails.now l.row l.c l.k l.initial.keys) l.from l.d l.initial.keys l.keys
