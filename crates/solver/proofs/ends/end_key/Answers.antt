-- `solver::ends::end_key` meets its contract. The loop's invariant: the stretches of fewer than d siblings have offered what they can.
use mathlib.Core.Path.{◌≡◌}
use Prim.Native.Nat.{◌+◌, ◌-◌}
use native.Mathlib.Omega.{arith}
use Rattle.solver.specs.Ends.{Ending}
use Rattle.solver.proofs.Endings.{ending_more}
use Rattle.solver.proofs.ends.end_key.Goals as goal
use Rattle.solver.proofs.ends.end_key.Goals.{After-repeated-last}

-- One stretch more has.
one_more : (c : After-repeated-last) → Ending c.args.row c.args.prices.now c.args.rows.now.matches c.args.rows.now.tails c.args.rows.now.keys c.loop-d.d c.repeated-last.result
one_more c =
    let f = c.followed-last.ensures in
    let r = rw (c.combined_digits.ensures, c.from.ensures) at c.repeated-last.ensures in
    ending_more _ _ _ _ _ (c.loop-d.d - 1) c.loop-d.d _ _ _ (omega arith) c.loop-d.invariant.1 f.0 f.1 f.2 r.0 r.1

pub loop-d-preserved : goal.loop-d-preserved
loop-d-preserved c =
    let e : c.loop-d.d + 1 - 1 ≡ c.loop-d.d = omega arith in
    (omega arith, rw e (one_more (goal.at.loop-d-preserved c).After-repeated-last))

pub returns-clause-ending : goal.returns-clause-ending
returns-clause-ending c =
    let e : c.loop-d.d - 1 ≡ c.args.row.extent = omega arith in
    λ l. rw e at c.loop-d.invariant.1
