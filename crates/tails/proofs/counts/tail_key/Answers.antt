-- `tail_key` meets its contract: at each turn the widths so far are offered.
use mathlib.Core.Path.{◌≡◌}
use Prim.Native.Nat.{◌+◌}
use native.Mathlib.Omega.{arith}
use Rattle.tails.proofs.Offers.{tailed_more}
use Rattle.tails.proofs.counts.tail_key.Goals as goal

pub loop-w-preserved : goal.loop-w-preserved
loop-w-preserved c =
    tailed_more _ _ _ _ _ _ _ _ _ _ (omega arith) (omega arith) (omega arith) (c.requires.by_index _ (omega arith)) c.loop-w.invariant c.tail_width-best.ensures

pub returns : goal.returns
returns c =
    let e : c.loop-w.w ≡ c.args.row.now.limit + 1 = omega arith in
    rw e at c.loop-w.invariant
