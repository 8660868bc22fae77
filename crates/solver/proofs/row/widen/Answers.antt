-- `solver::row::widen` meets its contract: where siblings match for a repeat, the limit allows its width.
use Prim.Native.Nat.{◌≤◌}
use native.Mathlib.Omega.{arith}
use Rattle.solver.specs.Rows.{offer}
use Rattle.solver.proofs.row.widen.Goals as goal

pub returns-then-d-matched_within-clause-widened : goal.returns-then-d-matched_within-clause-widened
returns-then-d-matched_within-clause-widened c =
    let k = c.count_past in
    let within : c.args.d ≤ c.args.row.limit = grind arith in
    offer k.result k.ensures.0 k.ensures.2 k.ensures.3 within (rw c.combined_digits.ensures at c.offer.ensures)
