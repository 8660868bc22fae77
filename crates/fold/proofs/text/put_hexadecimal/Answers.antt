-- `fold::text::put_hexadecimal` meets its contract: what is written so far are the digits of a beginning of the bytes.
use Rattle.fold.proofs.Digits.{put_byte, put_every}
use native.Mathlib.Omega.{arith}
use lib.ListN.{length-set}
use Rattle.fold.specs.Text.{hexadecimal}
use Rattle.fold.proofs.Puts.{put_none, put_length}
use Rattle.fold.proofs.text.put_hexadecimal.Goals as goal

pub loop-b-init : goal.loop-b-init
unfolding hexadecimal
loop-b-init c = (omega arith, put_none _ _ (omega arith))

pub bounds-out-to : goal.bounds-out-to
bounds-out-to c = omega (arith, put_length c.loop-b.invariant.1)

pub bounds-out-to-in-loop-b : goal.bounds-out-to-in-loop-b
bounds-out-to-in-loop-b c = simp length-set (omega (arith, put_length c.loop-b.invariant.1))

pub loop-b-preserved : goal.loop-b-preserved
loop-b-preserved c = (
  omega arith,
  put_byte c.args.bytes.now c.loop-b.b-index _ _ c.digit_of.ensures c.digit_of-in-loop-b.ensures c.loop-b.invariant.1 (omega arith) (omega arith),
)

pub shape_of-out : goal.shape_of-out
shape_of-out c = put_length c.loop-b.invariant.1

pub returns : goal.returns
returns c = put_every c.args.bytes.now c.loop-b.b-index (omega arith) c.loop-b.invariant.1
