-- `solver::row::solve` meets its contract. The loop's invariant: the stretches of fewer than d siblings have done their part, and the
-- keys taken over stay, so that their marks do.
use mathlib.Core.Path.{◌≡◌}
use Prim.Native.Nat.{◌+◌, ◌-◌}
use native.Mathlib.Omega.{arith}
use Rattle.solver.specs.Rows.{Advanced}
use Rattle.solver.proofs.Solving.{push_own, advanced_more}
use Rattle.solver.proofs.row.solve.Goals as goal
use Rattle.solver.proofs.row.solve.Goals.{After-widen}

-- One stretch more has.
one_more : (c : After-widen)
    → Advanced c.args.solved.now.costs.now c.args.solved.now.choices.now c.args.solved.now.numbers.now c.args.row c.args.prices.now c.args.matches.now c.args.solved.now.tails.now c.args.stops.now
    c.loop-d.d c.args.keys.now c.widen.new.keys c.max-longest.result
one_more c =
    let L = c.loop-d in
    let same = c.from.ensures in
    let room = c.min.ensures in
    let w = c.widen.ensures in
    let f = c.follow.ensures in
    let cover = c.covered.ensures in
    let longest = c.max-longest.ensures in
    advanced_more (L.d - 1) L.d _ _ _ _ (omega arith) (omega arith) L.invariant (omega arith) (omega arith)
    (λ x y v. omega arith) w.low
    (record {
      between = c.follow.new.keys;
      room = c.min.result;
      roomy = record { less = omega arith; inside = omega arith; most = λ k a b. omega arith };
      pushed = f.pushed;
      widened = rw (push_own f.pushed) at w.widened;
    })

pub loop-d-preserved : goal.loop-d-preserved
loop-d-preserved c =
    let e : c.loop-d.d + 1 - 1 ≡ c.loop-d.d = omega arith in
    rw e (one_more (goal.at.loop-d-preserved c).After-widen)

pub returns : goal.returns
returns c =
    let e : c.loop-d.d - 1 ≡ c.args.row.extent = omega arith in
    rw e at c.loop-d.invariant
