-- What is written and the form of what is left are the form of the whole.
use Prim.Native.Nat.{◌-◌}
use lib.ListN.{length, drop}
use Rattle.format.specs.Family.{converted}
use Rattle.put.proofs.Along.{Along}
use Rattle.convert.proofs.form.put_form.Given as goal

abbrev pub invariant-loop-at : goal.invariant-loop-at
invariant-loop-at l = Along (converted l.short l.s) (converted l.short (drop l.at l.s)) 0 l.initial.out l.to l.out

abbrev pub decreases-loop-at : goal.decreases-loop-at
decreases-loop-at l = length l.s - l.at
