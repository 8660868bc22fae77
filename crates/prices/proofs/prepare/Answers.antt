-- `prepare` meets its contract.
use native.Mathlib.Omega.{arith}
use Rattle.prices.proofs.Entries.{upto_two, upto_more, upto_all}
use Rattle.prices.proofs.prepare.Goals as goal

pub loop-h-init : goal.loop-h-init
loop-h-init c = upto_two c.args.first c.args.each c.args.prices.now c.requires

pub loop-h-preserved : goal.loop-h-preserved
loop-h-preserved c =
    let a = c.args in
    upto_more a.first a.each c.loop-h.h c.loop-h.prices c.loop-h.invariant (omega arith) _ _ c.from-two.ensures c.from-more.ensures

pub returns : goal.returns
returns c =
    let a = c.args in
    upto_all a.first a.each c.loop-h.h c.loop-h.prices c.loop-h.invariant (omega arith)
