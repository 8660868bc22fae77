use Prim.Native.Nat.{◌-◌}
use Rattle.solver.specs.Rows.{Advanced}
use Rattle.solver.proofs.row.solve.Given as goal

abbrev pub invariant-loop-d : goal.invariant-loop-d
invariant-loop-d l = Advanced l.solved.costs.now l.solved.choices.now l.solved.numbers.now l.row l.prices l.matches l.solved.tails.now l.stops (l.d - 1) l.initial.keys l.keys l.longest
