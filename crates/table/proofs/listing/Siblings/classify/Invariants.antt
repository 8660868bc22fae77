use mathlib.Core.Path.{◌≡◌}
use lib.ListN.{length}
use Rattle.format.specs.Limits.{marked_in}
use Rattle.format.specs.Tree.{tree_of}
use Rattle.table.specs.Listing.{Classed}
use Rattle.table.proofs.listing.Siblings.classify.Given as goal

abbrev pub invariant-loop-i : goal.invariant-loop-i
invariant-loop-i l =
    (l.self.offsets ≡ l.initial.self.offsets)
    × (l.self.numbers ≡ l.initial.self.numbers)
    × (length l.self.kinds ≡ 1025)
    × Classed (marked_in l.marks) (tree_of l.s) l.i l.self.kinds
