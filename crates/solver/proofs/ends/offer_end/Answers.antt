-- `solver::ends::offer_end` meets its contract. The loop's invariant: the counts below h are offered.
use Prim.Native.Nat.{◌+◌, ◌-◌, ◌≤◌}
use native.Mathlib.Nat.{mul-le-mul_right, le-mul_of_pos_right}
use native.Mathlib.Omega.{arith}
use Rattle.solver.specs.Ends.{Beyond}
use Rattle.solver.proofs.Endings.{EndUpto, end_more, end_all}
use Rattle.solver.proofs.ends.offer_end.Goals as goal
use Rattle.solver.proofs.ends.offer_end.Goals.{After-min-best}

-- One count more is.
one_more : (c : After-min-best)
    → EndUpto c.args.row c.args.prices.now c.args.tails.now c.args.body c.args.d c.args.span c.args.last (c.loop-h.h + 1) c.min-best.result
one_more c =
    let h = c.loop-h.h in
    let from : c.count_past-h.result ≤ h = omega arith in
    let beyond : Beyond c.args.row c.args.d c.args.span h =
    record {
      twice = omega arith;
      near = c.if-span-h.false;
      far = omega (arith, mul-le-mul_right c.args.d from);
    } in
    end_more _ _ _ _ _ _ _ h c.loop-h.best c.loop-h.invariant c.min-best.result beyond (omega arith) (omega arith) (grind arith)

pub loop-h-preserved : goal.loop-h-preserved
loop-h-preserved c = one_more (goal.at.loop-h-preserved c).After-min-best

pub returns-then-span-h : goal.returns-then-span-h
returns-then-span-h c =
    end_all _ _ _ _ _ _ _ c.loop-h.h c.loop-h.best c.loop-h.invariant c.if-span-h.true

pub returns-after-loop-h : goal.returns-after-loop-h
returns-after-loop-h c =
    end_all _ _ _ _ _ _ _ c.loop-h.h c.loop-h.best c.loop-h.invariant
    (omega (arith, le-mul_of_pos_right (c.loop-h.h - 1) c.requires.d_nonzero.0))
