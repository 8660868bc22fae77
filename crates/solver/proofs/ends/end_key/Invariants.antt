use Prim.Native.Nat.{◌+◌, ◌-◌, ◌≤◌}
use Rattle.solver.specs.Ends.{Ending}
use Rattle.solver.proofs.ends.end_key.Given as goal

abbrev pub invariant-loop-d : goal.invariant-loop-d
invariant-loop-d l = (l.d ≤ l.n + 1) × Ending l.row l.prices l.rows.matches l.rows.tails l.rows.keys (l.d - 1) l.last
