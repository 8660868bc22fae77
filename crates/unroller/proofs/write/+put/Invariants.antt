-- Each function falls by the bytes that are left; at one offset a sequence stands above an item. The loop keeps how far the walk
-- over whatever sequence stands at the beginning has come.
use Rattle.std.proofs.Common.{length, ◌-◌, ◌+◌, ◌*◌}
use Rattle.format.specs.Forest.{Forest}
use Rattle.unroller.specs.inner.Writing.{SequenceFrom}
use Rattle.unroller.proofs.Walks.{Writing}
use Rattle.unroller.proofs.write.+put.Given as goal

abbrev pub decreases-put_item : goal.decreases-put_item
decreases-put_item l = 2 * (length l.s.now - l.w.at)

abbrev pub decreases-put_sequence : goal.decreases-put_sequence
decreases-put_sequence l = 2 * (length l.s.now - l.w.at) + 1

abbrev pub invariant-put_sequence-loop-p : goal.invariant-put_sequence-loop-p
invariant-put_sequence-loop-p l = (f : Forest) → (z : SequenceFrom l.s (length l.initial.out) l.initial.p f) → Writing l.s l.initial.out l.out l.initial.p l.p f z.stands.rest

abbrev pub decreases-put_sequence-loop-p : goal.decreases-put_sequence-loop-p
decreases-put_sequence-loop-p l = length l.s - l.p.at
