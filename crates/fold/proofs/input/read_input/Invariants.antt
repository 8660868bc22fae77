use Rattle.std.proofs.Common.{length, ◌-◌, ◌≤◌}
use Rattle.fold.proofs.input.read_input.Given as goal

abbrev pub invariant-loop-length : goal.invariant-loop-length
invariant-loop-length g l = l.length ≤ length l.bytes

abbrev pub decreases-loop-length : goal.decreases-loop-length
decreases-loop-length g l = length l.bytes - l.length
