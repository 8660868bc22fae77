use Rattle.solver.proofs.Putting.{Put, OfPlain}
use Rattle.solver.proofs.keys.plain_row.Given as goal

abbrev pub invariant-loop-d : goal.invariant-loop-d
invariant-loop-d l = Put (OfPlain l.solved.costs.now l.solved.choices.now l.solved.numbers.now l.row) l.from l.d l.initial.keys l.keys
