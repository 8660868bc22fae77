-- An item falls to its body, of fewer steps than its width says; the steps fall to their items. The loop has put the items up to
-- step i.
use Rattle.std.proofs.Common.{◌+◌, ◌*◌, ◌-◌, ◌%◌}
use Rattle.season.proofs.Writings.{Putting}
use Rattle.season.proofs.write.+put.Given as goal

abbrev pub decreases-put_item : goal.decreases-put_item
decreases-put_item l = 2 * (l.pair % 64) + 1

abbrev pub decreases-put_steps : goal.decreases-put_steps
decreases-put_steps l = 2 * (l.end - l.from)

abbrev pub invariant-put_steps-loop-i : goal.invariant-put_steps-loop-i
invariant-put_steps-loop-i l = Putting l.run l.work l.tail l.from l.end l.to l.initial.out l.i l.p l.out

abbrev pub decreases-put_steps-loop-i : goal.decreases-put_steps-loop-i
decreases-put_steps-loop-i l = l.end - l.i
