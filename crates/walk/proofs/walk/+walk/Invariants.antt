-- Each function falls by the bytes that are left; between calls at one offset a sequence stands above an item, and an item above
-- a group or a repeat.
use Rattle.std.proofs.Common.{length, ◌-◌, ◌+◌, ◌*◌}
use Rattle.walk.specs.Walk.{rules_of}
use Rattle.walk.proofs.Walking.{Along}
use Rattle.walk.proofs.walk.+walk.Given as goal

abbrev pub decreases-group : goal.decreases-group
decreases-group l = 3 * (length l.s.now - l.at)

abbrev pub decreases-item : goal.decreases-item
decreases-item l = 3 * (length l.s.now - l.at) + 1

abbrev pub decreases-repeat : goal.decreases-repeat
decreases-repeat l = 3 * (length l.s.now - l.at)

abbrev pub decreases-sequence : goal.decreases-sequence
decreases-sequence l = 3 * (length l.s.now - l.at) + 2

abbrev pub invariant-sequence-loop-now : goal.invariant-sequence-loop-now
invariant-sequence-loop-now l = Along (rules_of l.a) l.s l.d l.fn.at l.fn.t l.now.at l.now.tally

abbrev pub decreases-sequence-loop-now : goal.decreases-sequence-loop-now
decreases-sequence-loop-now l = length l.s - l.now.at
