use mathlib.Core.Path.{◌≡◌}
use Prim.Native.Nat.{◌+◌, ◌-◌, ◌*◌, ◌≤◌}
use Rattle.tails.proofs.Offers.{Offering}
use Rattle.tails.proofs.stretches.offer.Given as goal

abbrev pub invariant-loop-cover : goal.invariant-loop-cover
invariant-loop-cover l =
    (l.price ≡ l.row.rates.first + l.row.rates.each * (l.count - 2))
    × (l.cover ≡ l.count * l.w)
    × (l.cover ≤ l.d + l.w)
    × Offering l.work l.row.rates l.row.i l.d l.w l.reach l.initial.least l.least l.count

abbrev pub decreases-loop-cover : goal.decreases-loop-cover
decreases-loop-cover l = l.d + l.w - l.cover
