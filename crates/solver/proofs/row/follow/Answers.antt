-- `solver::row::follow` meets its contract: what is put behind the stretch, or why nothing is.
use native.Mathlib.Omega.{arith}
use Rattle.solver.proofs.Putting.{pushed_past}
use Rattle.solver.proofs.row.follow.Goals as goal

pub returns-then-may_be_first-clause-pushed : goal.returns-then-may_be_first-clause-pushed
returns-then-may_be_first-clause-pushed c =
    let e = c.past.ensures in
    pushed_past c.push.ensures (omega arith) e.0 e.1 e.3
