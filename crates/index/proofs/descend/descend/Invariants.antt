-- The node looked for is n nodes further on from the place reached, whatever item stands at the beginning.
use Prim.Native.Nat.{◌-◌}
use lib.ListN.{length}
use Rattle.format.specs.Forest.{Forest}
use Rattle.index.specs.inner.Passing.{NodeIn}
use Rattle.index.proofs.Descending.{Heading, offset_at}
use Rattle.index.proofs.descend.descend.Given as goal

abbrev pub invariant-loop-at : goal.invariant-loop-at
invariant-loop-at l = (f : Forest) → NodeIn l.s l.from l.position f → Heading l.s l.at l.n (offset_at l.from l.position f)

abbrev pub decreases-loop-at : goal.decreases-loop-at
decreases-loop-at l = length l.s - l.at
