use Rattle.std.proofs.Common.{length, ◌+◌, ◌≤◌}
use Rattle.known.proofs.finding.right_positions.Given as goal

abbrev pub invariant-loop-rest : goal.invariant-loop-rest
invariant-loop-rest l = l.position + length l.rest ≤ length l.run

abbrev pub decreases-loop-rest : goal.decreases-loop-rest
decreases-loop-rest l = length l.rest
