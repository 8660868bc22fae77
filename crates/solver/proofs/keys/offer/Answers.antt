-- `solver::keys::offer` meets its contract. The loop's invariant: the counts below h are offered.
use Prim.Native.Nat.{◌+◌, ◌-◌, ◌*◌, ◌<◌}
use native.Mathlib.Omega.{arith}
use lib.ListN.{length, set}
use native.Mathlib.Nat.{le-mul_of_pos_right}
use Rattle.solver.proofs.Offers.{Upto, in_reach, upto_more, offering}
use Rattle.solver.proofs.keys.offer.Goals as goal
use Rattle.solver.proofs.keys.offer.Goals.{After-min}

-- One count more is.
one_more : (c : After-min)
    → Upto c.args.prices.now c.args.body c.args.d c.args.span c.args.from c.args.keys.now (set c.loop-h.keys (c.loop-h.h * c.args.d) c.min.result) (c.loop-h.h + 1)
one_more c =
    let p = c.requires.body_bound in
    let h = c.loop-h.h in
    let near = c.if-span-h.false in
    let w = in_reach (h - 1) h c.args.d c.args.span (omega arith) p.1 p.2 near in
    let fits : h * c.args.d < length c.loop-h.keys = omega (arith, w.0) in
    upto_more _ _ _ _ _ _ _ h c.loop-h.invariant c.min.result near fits (omega arith)

pub loop-h-preserved : goal.loop-h-preserved
loop-h-preserved c = one_more (goal.at.loop-h-preserved c).After-min

pub returns-then-span-h : goal.returns-then-span-h
returns-then-span-h c = offering _ _ _ _ _ _ _ c.loop-h.h c.loop-h.invariant c.if-span-h.true

pub returns-after-loop-h : goal.returns-after-loop-h
returns-after-loop-h c =
    offering _ _ _ _ _ _ _ c.loop-h.h c.loop-h.invariant (omega (arith, le-mul_of_pos_right (c.loop-h.h - 1) c.requires.body_bound.1))
