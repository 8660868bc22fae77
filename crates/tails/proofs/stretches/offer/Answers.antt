-- `offer` meets its contract: at each turn the counts so far are offered.
use mathlib.Core.Path.{◌≡◌, ap}
use Prim.Native.Nat.{suc, ◌+◌, ◌-◌, ◌*◌}
use native.Mathlib.Nat.{mul-suc}
use native.Mathlib.Omega.{arith}
use Rattle.optimum.proofs.Matches.{copy_more}
use Rattle.blocks.specs.Keys.{slot, both_in}
use Rattle.tails.specs.Solving.{repeat_key}
use Rattle.tails.proofs.Offers.{made, same_key, read_both, Offering, offering_more, offering_all}
use Rattle.tails.proofs.stretches.offer.Goals as goal
use Rattle.tails.proofs.stretches.offer.Goals.{After-lesser-least}

more : (c : After-lesser-least) → Offering c.args.work.now c.args.row.now.rates c.args.row.now.i c.args.d c.args.w c.args.reach c.args.best c.lesser-least.result (c.loop-cover.count + 1)
more c =
    let a = c.args in
    let L = c.loop-cover in
    let h = L.count in
    let e = L.invariant.1 in
    let x = made c.repeat_cost-both.result c.pair_of-pair.result in
    let body = read_both a.work.now (slot a.row.now.i a.w) c.key_at-body.ensures.0 c.slot.ensures in
    let rest = read_both a.work.now (slot (a.row.now.i + L.cover) (a.d - L.cover)) c.key_at-rest.ensures.0 c.slot-in-loop-cover.ensures in
    let place : slot (a.row.now.i + L.cover) (a.d - L.cover) ≡ slot (a.row.now.i + h * a.w) (a.d - h * a.w) = rw e in
    let here : x ≡ repeat_key a.work.now a.row.now.rates a.row.now.i a.d a.w h =
    same_key _ _ (omega (arith, c.repeat_cost-both.ensures, ap (both_in a.work.now) place)) c.pair_of-pair.ensures.0 in
    offering_more a.work.now a.row.now.rates a.row.now.i a.d a.w a.reach a.best L.least h L.invariant.3
    (omega arith) x _ here c.pair_of-pair.ensures.1 c.lesser-least.ensures

pub loop-cover-preserved : goal.loop-cover-preserved
loop-cover-preserved c =
    let h = c.loop-cover.count in
    let f : h + 1 - 2 ≡ suc (h - 2) = omega (arith, c.loop-cover.invariant.3.twice) in
    let next = copy_more h (h + 1) c.args.w (omega arith) in (
      rw f (omega (arith, mul-suc c.args.row.now.rates.each (h - 2))),
      omega arith,
      omega arith,
      more (goal.at.loop-cover-preserved c).After-lesser-least,
    )

pub returns : goal.returns
returns c =
    let a = c.args in
    offering_all a.work.now a.row.now.rates a.row.now.i a.d a.w a.reach a.best _ _ c.loop-cover.invariant.3 (omega arith)
