-- `fill_steps` meets its contract: at each turn the blocks from step i on are solved.
use mathlib.Core.Path.{◌≡◌, ap}
use Prim.Native.Nat.{◌+◌, ◌-◌, ◌<◌}
use native.Mathlib.Omega.{arith}
use lib.ListN.{length}
use Rattle.format.specs.Tree.{tree_of}
use Rattle.blocks.proofs.Flats.{flat_size}
use Rattle.tails.proofs.Fills.{prices_some, ready_past, row_at, row_own, filled_more, row_kept, kept_more}
use Rattle.tails.proofs.run.fill_steps.Goals as goal

pub own_cost-own-requires : goal.own_cost-own-requires
own_cost-own-requires c =
    let f = c.requires.ready.flat in
    (omega (arith, flat_size (tree_of c.args.season.now.run.now) f.flat, ap length f.stands, f.all), omega (arith, f.few))

pub solve-requires : goal.solve-requires
solve-requires c =
    let s = c.args.season.now in
    let v = c.loop-i.invariant in
    let e : c.loop-i.i ≡ c.loop-i.i - 1 + 1 = omega arith in
    let z = ready_past v.2 c.requires.ready in
    let m = c.grow.ensures in
    let p = prices_some s.steps.now s.rates in
    let f = rw e at v.1 in
    (row_at _ _ _ _ _ _ z (omega arith) m f _ p, row_own _ _ _ _ _ _ z (omega arith) m f _ p _ c.own_cost-own.ensures.0)

pub loop-i-preserved : goal.loop-i-preserved
loop-i-preserved c =
    let v = c.loop-i.invariant in
    let more = c.loop-i-test.true in
    let e : c.loop-i.i ≡ c.loop-i.i - 1 + 1 = omega (arith, more) in
    let z = ready_past v.2 c.requires.ready in
    let m = c.grow.ensures in
    let f = rw e at v.1 in
    let l : c.loop-i.i - 1 < c.args.season.now.n = omega (arith, more) in (
      m,
      filled_more _ _ _ _ _ _ z l m f _ c.own_cost-own.ensures.0 c.solve.ensures,
      kept_more v.2 (row_kept _ _ _ _ _ _ z l m f _ c.solve.ensures),
    )

pub returns-clause-all_filled : goal.returns-clause-all_filled
returns-clause-all_filled c =
    let v = c.loop-i.invariant in
    let e : c.loop-i.i ≡ 0 = omega arith in
    rw e at v.1
