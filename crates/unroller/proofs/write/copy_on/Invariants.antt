-- What is written so far is a beginning of the copies.
use Rattle.unroller.proofs.Stores.{Copying}
use Rattle.unroller.proofs.write.copy_on.Given as goal

abbrev pub invariant-loop-i : goal.invariant-loop-i
invariant-loop-i l = Copying l.initial.out l.start l.to l.more l.out l.i
