-- `copy_on` meets its contract.
use native.Mathlib.Omega.{arith}
use Rattle.unroller.proofs.Stores.{copying_more, copying_all}
use Rattle.unroller.proofs.write.copy_on.Goals as goal

pub loop-i-preserved : goal.loop-i-preserved
loop-i-preserved c = copying_more _ _ _ _ c.requires.0 c.requires.1 c.loop-i.invariant (omega arith) (omega arith)

pub returns-clause-out_after : goal.returns-clause-out_after
returns-clause-out_after c = copying_all _ _ _ _ c.requires.0 c.requires.1 c.loop-i.invariant (omega arith)
