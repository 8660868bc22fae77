use Rattle.solver.proofs.Putting.{Put, OfRow}
use Rattle.solver.proofs.keys.copy_row.Given as goal

abbrev pub invariant-loop-d : goal.invariant-loop-d
invariant-loop-d l = Put (OfRow l.solved.costs.now l.solved.choices.now l.solved.numbers.now l.j) 1 l.d l.initial.keys l.keys
