-- The entries of the items passed are the first of both slices.
use lib.ListN.{length}
use Rattle.index.proofs.Outermost.{Comparing}
use Rattle.index.proofs.compare.is_index.Given as goal

abbrev pub invariant-loop-offset : goal.invariant-loop-offset
invariant-loop-offset l = Comparing l.s l.p (length l.yielded) l.offsets l.before
