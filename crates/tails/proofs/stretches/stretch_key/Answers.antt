-- `stretch_key` meets its contract: at each turn the widths so far are offered.
use mathlib.Core.Path.{refl}
use native.Mathlib.Omega.{arith}
use Rattle.tails.proofs.Offers.{stretched_more, stretched_all}
use Rattle.tails.proofs.stretches.stretch_key.Goals as goal

pub loop-w-preserved : goal.loop-w-preserved
loop-w-preserved c = stretched_more _ _ _ _ _ _ _ _ _ _ refl c.loop-w.invariant c.offer_width-best.ensures

pub returns : goal.returns
returns c =
    let a = c.args in
    stretched_all a.work.now a.row.now.matches.now a.row.now.rates a.row.now.own a.row.now.i a.d _ _ (omega arith) c.loop-w.invariant
