-- Fewer bytes are left behind each group's label. The loop's invariant: whatever sequence stands at the beginning, its first nodes are
-- listed and the others stand at the spot reached.
use Rattle.std.proofs.Common.{length, ◌-◌, ◌≤◌, ℕ}
use Rattle.format.specs.Forest.{Forest}
use Rattle.table.specs.Nodes.{SequenceAt}
use Rattle.table.proofs.Spots.{Along}
use Rattle.table.proofs.nodes.Nodes.+list_from.Given as goal

abbrev pub decreases-list_from : goal.decreases-list_from
decreases-list_from l = length l.run.now - l.from.at

abbrev pub invariant-loop-p : goal.invariant-loop-p
invariant-loop-p l =
    (l.p.number ≤ 1024)
    × ((b : ℕ) (f : Forest) → SequenceAt l.initial.run l.initial.p b f
    → Along l.initial.run l.initial.self.places l.initial.self.nexts l.self.places l.self.nexts l.initial.p l.p b f)

abbrev pub decreases-loop-p : goal.decreases-loop-p
decreases-loop-p l = length l.run - l.p.at
