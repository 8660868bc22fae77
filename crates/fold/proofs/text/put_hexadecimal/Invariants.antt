use Prim.Native.Nat.{◌+◌, ◌*◌}
use mathlib.Core.Path.{◌≡◌}
use lib.ListN.{take}
use Rattle.fold.specs.Text.{hexadecimal}
use Rattle.fold.specs.PutText.{PutText}
use Rattle.fold.proofs.text.put_hexadecimal.Given as goal

abbrev pub invariant-loop-b : goal.invariant-loop-b
invariant-loop-b l = (l.to ≡ l.at + 2 * l.b-index) × PutText l.initial.out l.out l.at (hexadecimal (take l.b-index l.bytes)) l.to
