-- The loop's invariant: entry `low` is not above n, and entry `high`, where there is one, is.
use Prim.Native.Nat.{◌-◌, ◌≤◌, ◌<◌}
use lib.ListN.{length, get_or}
use Rattle.index.proofs.search.last_up_to.Given as goal

abbrev pub invariant-loop-high : goal.invariant-loop-high
invariant-loop-high l = (l.low < l.high) × (l.high ≤ length l.entries) × (get_or l.entries l.low 0 ≤ l.n) × (l.high < length l.entries → l.n < get_or l.entries l.high 0)

abbrev pub decreases-loop-high : goal.decreases-loop-high
decreases-loop-high l = l.high - l.low
