use Prim.Native.Nat.{◌+◌}
use lib.ListN.{take}
use Rattle.fold.specs.PutText.{PutText}
use Rattle.fold.proofs.text.put_bytes.Given as goal

abbrev pub invariant-loop-i : goal.invariant-loop-i
invariant-loop-i l = PutText l.initial.out l.out l.at (take l.i l.bytes) (l.at + l.i)
