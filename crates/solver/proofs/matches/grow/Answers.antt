-- `solver::matches::grow` meets its contract. The loop's invariant: the matches below width w are grown.
use Prim.Native.Nat.{◌-◌}
use mathlib.Core.Path.{◌≡◌}
use native.Mathlib.Omega.{arith}
use Rattle.solver.proofs.Growths.{grown_all}
use Rattle.solver.proofs.matches.grow.Goals as goal

pub returns : goal.returns
returns c =
    let e : c.args.m - c.args.i ≡ c.loop-w.w = omega arith in
    rw e (grown_all _ _ _ _ _ c.loop-w.invariant (omega arith) c.args.m (omega arith) (omega arith) (omega arith))
