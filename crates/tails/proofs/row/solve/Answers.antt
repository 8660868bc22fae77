-- `solve` meets its contract: what each put leaves is what the next one rests on.
use mathlib.Core.Path.{refl}
use native.Mathlib.Omega.{arith}
use Rattle.tails.proofs.Puts.{own_low, first_put, ready_first, own_first, ready_third, pairs_third, tail_key_low, row_solved}
use Rattle.tails.proofs.row.solve.Goals as goal

pub put_stretches-requires-clause-own_cost : goal.put_stretches-requires-clause-own_cost
put_stretches-requires-clause-own_cost c =
    let f = (first_put _ _ c.slot.ensures refl refl c.put_key.ensures) in
    (ready_first _ _ _ _ _ c.args.row.now.own _ f c.requires.0, own_first _ _ _ _ _ c.args.row.now.own _ f c.requires.0 c.requires.1)

pub tail_key-tail-requires-clause-i_in_bounds : goal.tail_key-tail-requires-clause-i_in_bounds
tail_key-tail-requires-clause-i_in_bounds c =
    let z = c.requires.0 in
    let x = ready_third _ _ _ _ _ c.args.row.now.own _ (first_put _ _ c.slot.ensures refl refl c.put_key.ensures) c.put_stretches.ensures c.put_counts.ensures z in
    (omega (arith, x.room, x.here, x.all), omega (arith, x.here, x.all, x.modest.few), omega (arith, x.limited, x.modest.narrow), own_low z c.requires.1)

pub tail_key-tail-requires-clause-by_index : goal.tail_key-tail-requires-clause-by_index
tail_key-tail-requires-clause-by_index c =
    pairs_third _ _ _ _ _ c.args.row.now.own _ (first_put _ _ c.slot.ensures refl refl c.put_key.ensures) c.put_stretches.ensures c.put_counts.ensures c.requires.0 c.requires.1

pub put_key-requires-2 : goal.put_key-requires-2
put_key-requires-2 c =
    let z = c.requires.0 in
    let x = ready_third _ _ _ _ _ c.args.row.now.own _ (first_put _ _ c.slot.ensures refl refl c.put_key.ensures) c.put_stretches.ensures c.put_counts.ensures z in
    let k = c.tail_key-tail.ensures in (
      omega (arith, c.slot-2.ensures, x.room, x.here, x.all),
      tail_key_low _ _ _ _ _ c.args.row.now.own _ (first_put _ _ c.slot.ensures refl refl c.put_key.ensures) c.put_stretches.ensures c.put_counts.ensures _ k z c.requires.1,
      omega (arith, k.small),
    )

pub returns : goal.returns
returns c =
    row_solved _ _ _ _ _ c.args.row.now.own _ (first_put _ _ c.slot.ensures refl refl c.put_key.ensures) c.put_stretches.ensures c.put_counts.ensures _ c.tail_key-tail.ensures _ c.put_key-2.ensures c.slot-2.ensures
