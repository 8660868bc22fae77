use Prim.Native.Nat.{◌+◌, ◌-◌, ◌≤◌}
use Rattle.solver.proofs.Sources.{Sought}
use Rattle.solver.proofs.matches.draw.Given as goal

abbrev pub invariant-loop-w : goal.invariant-loop-w
invariant-loop-w l = (1 ≤ l.w) × (l.w ≤ l.n + 1) × Sought l.extents l.i l.n l.w l.matches l.g

abbrev pub decreases-loop-w : goal.decreases-loop-w
decreases-loop-w l = l.n + 1 - l.w
