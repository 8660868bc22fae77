-- `solver::matches::draw` meets its contract. The loop's invariant: the widths below w are looked at, or match for no more than is known.
use native.Mathlib.Omega.{arith}
use Rattle.solver.proofs.Sources.{sought_past, sought_more, sought_drawn}
use Rattle.solver.proofs.matches.draw.Goals as goal

pub loop-w-preserved : goal.loop-w-preserved
loop-w-preserved c =
    let L = c.loop-w in
    let r = c.next_over-w.ensures in
    let low = c.min.ensures in (
      omega arith,
      omega (arith, r.1),
      sought_more _ _ _ _ _ _ (sought_past _ _ _ _ _ _ L.invariant.2 _ _ (omega arith) r.2) _ _ (omega (arith, L.invariant.0)) r.1
          c.from-in-loop-w.ensures c.wider-g.ensures,
    )

pub returns : goal.returns
returns c =
    let L = c.loop-w in
    let e = c.min-extent.ensures in
    let t = c.min-2.ensures in
    sought_drawn _ _ _ _ _ _ L.invariant.2 _ _ _ (omega arith) c.loop-w-test.false (omega arith) (omega arith) (λ d a b. omega arith) (omega arith) (omega arith)
