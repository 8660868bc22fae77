-- `put_stretches` meets its contract: at each turn the shorter stretches are put.
use Prim.Native.Nat.{◌-◌, ◌≤◌}
use native.Mathlib.Omega.{arith}
use Rattle.tails.proofs.Puts.{own_low, stretches_first, next_low, stretches_more, stretches_all}
use Rattle.tails.proofs.stretches.put_stretches.Goals as goal

pub loop-d-init : goal.loop-d-init
loop-d-init c = stretches_first c.requires.i_value.0 c.requires.i_value.1

pub stretch_key-key-requires : goal.stretch_key-key-requires
stretch_key-key-requires c =
    let z = c.requires.own_cost.0 in
    let v = c.loop-d.invariant in
    let m : (c.min-m.result ≤ c.args.row.now.limit) × (c.min-m.result ≤ c.args.row.now.n - c.args.row.now.i) = (omega arith, omega arith) in
    record {
      d_in_bounds = (
        omega (arith, z.room, z.all, z.here, m.1, v.touched.same_length),
        omega (arith, z.all, z.here, m.1, z.modest.few),
        omega arith,
        omega (arith, m.0, z.limited, z.modest.narrow),
        own_low z c.requires.own_cost.1,
      );
    }

pub put_key-requires : goal.put_key-requires
put_key-requires c =
    let z = c.requires.own_cost.0 in
    let v = c.loop-d.invariant in
    let m : (c.min-m.result ≤ c.args.row.now.limit) × (c.min-m.result ≤ c.args.row.now.n - c.args.row.now.i) = (omega arith, omega arith) in
    let k = c.stretch_key-key.ensures in (
      omega (arith, c.slot.ensures, z.room, z.here, z.all, m.0, z.limited, z.modest.narrow, v.touched.same_length),
      next_low v _ k (omega arith) (omega (arith, m.0)) (omega (arith, m.1, z.here)) z c.requires.own_cost.1,
      omega (arith, k.small),
    )

pub loop-d-preserved : goal.loop-d-preserved
loop-d-preserved c =
    let z = c.requires.own_cost.0 in
    let v = c.loop-d.invariant in
    let m : (c.min-m.result ≤ c.args.row.now.limit) × (c.min-m.result ≤ c.args.row.now.n - c.args.row.now.i) = (omega arith, omega arith) in
    stretches_more v _ c.stretch_key-key.ensures (omega arith) (omega (arith, m.0)) (omega (arith, m.1, z.here)) _
    c.put_key.ensures c.slot.ensures (omega (arith, m.0, z.limited, z.modest.narrow))

pub returns : goal.returns
returns c =
    let m : (c.min-m.result ≤ c.args.row.now.limit) × (c.min-m.result ≤ c.args.row.now.n - c.args.row.now.i) = (omega arith, omega arith) in
    stretches_all _ c.min-m.result c.loop-d.invariant (omega arith) (λ n l q. omega arith)
