-- `put_count` meets its contract.
use native.Mathlib.Omega.{arith}
use Rattle.tails.proofs.Puts.{count_none, count_inside, later_small, count_low, count_some}
use Rattle.tails.proofs.counts.put_count.Goals as goal

pub returns-then-span-w : goal.returns-then-span-w
returns-then-span-w c =
    count_none c.args.w (omega arith) (omega arith) c.if-span-w.true

pub count_key-key-requires-clause-span_in_bounds : goal.count_key-key-requires-clause-span_in_bounds
count_key-key-requires-clause-span_in_bounds c =
    let z = c.requires.row_ready in
    let some = c.if-span-w.false in
    let l = count_inside c.args.w (omega arith) (omega arith) some z in
    (omega (arith, z.room, z.all), omega (arith, z.modest.few, z.all), some, omega (arith, z.limited, z.modest.narrow))

pub count_key-key-requires-clause-w_bound : goal.count_key-key-requires-clause-w_bound
count_key-key-requires-clause-w_bound c = later_small c.args.w (omega arith) (omega arith) c.if-span-w.false c.requires.row_ready

pub put_key-requires : goal.put_key-requires
put_key-requires c =
    let z = c.requires.row_ready in
    let w = c.args.w in
    let low = count_low w (omega arith) (omega arith) c.if-span-w.false z _ c.count_key-key.ensures in
    (omega (arith, c.slot.ensures, z.room, z.all, z.here, z.limited, z.modest.narrow), low.0, low.1)

pub returns : goal.returns
returns c =
    let z = c.requires.row_ready in
    count_some c.args.w (omega arith) (omega arith) _ _ (omega (arith, z.limited, z.modest.narrow)) c.if-span-w.false
    c.count_key-key.ensures c.put_key.ensures c.slot.ensures
