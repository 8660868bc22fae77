-- Each function falls by the bytes that are left; at one offset a sequence stands above a group or a repeat. The loop keeps that of
-- whatever sequence stands at the beginning the first items are passed and counted, and the others stand at the spot reached.
use Rattle.std.proofs.Common.{length, ◌-◌, ◌+◌, ◌*◌}
use Rattle.format.specs.Forest.{Forest}
use Rattle.index.specs.inner.Passing.{SequenceFrom}
use Rattle.index.proofs.Passing.{Walked}
use Rattle.index.proofs.pass.+pass.Given as goal

abbrev pub decreases-pass_holder : goal.decreases-pass_holder
decreases-pass_holder l = 2 * (length l.s.now - l.w.at)

abbrev pub decreases-pass_sequence : goal.decreases-pass_sequence
decreases-pass_sequence l = 2 * (length l.s.now - l.w.at) + 1

abbrev pub invariant-pass_sequence-loop-p : goal.invariant-pass_sequence-loop-p
invariant-pass_sequence-loop-p l = (f : Forest) → (z : SequenceFrom l.s l.initial.p f) → Walked l.s l.initial.p l.p f z.stands.rest

abbrev pub decreases-pass_sequence-loop-p : goal.decreases-pass_sequence-loop-p
decreases-pass_sequence-loop-p l = length l.s - l.p.at
