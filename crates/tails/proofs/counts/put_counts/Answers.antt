-- `put_counts` meets its contract: at each turn the best counts at the widths so far are put.
use native.Mathlib.Omega.{arith}
use Rattle.tails.proofs.Puts.{counts_more}
use Rattle.tails.proofs.counts.put_counts.Goals as goal

pub loop-w-preserved : goal.loop-w-preserved
loop-w-preserved c = counts_more _ _ (omega arith) (omega arith) c.loop-w.invariant c.put_count.ensures
