-- `fold::text::put_bytes` meets its contract: what is written so far is a beginning of the bytes.
use native.Mathlib.Nat.{add-zero}
use native.Mathlib.Omega.{arith}
use mathlib.Core.Path.{◌≡◌}
use lib.ListN.{length}
use Rattle.fold.proofs.Puts.{put_none, put_next, put_whole, put_length}
use Rattle.fold.proofs.text.put_bytes.Goals as goal

pub loop-i-init : goal.loop-i-init
loop-i-init c = rw add-zero (put_none _ _ (omega arith))

pub bounds-out-at : goal.bounds-out-at
bounds-out-at c = omega (arith, put_length c.loop-i.invariant)

pub loop-i-preserved : goal.loop-i-preserved
loop-i-preserved c = put_next _ _ (omega arith) c.loop-i.invariant (omega arith)

pub shape_of-out : goal.shape_of-out
shape_of-out c = put_length c.loop-i.invariant

pub returns : goal.returns
returns c =
    let all : c.loop-i.i ≡ length c.args.bytes.now = omega arith in
    rw (← all) (put_whole _ _ all c.loop-i.invariant)
