use Rattle.format.specs.Tree.{tree_of}
use Rattle.table.proofs.Listings.{None}
use Rattle.table.proofs.listing.Siblings.first_equal.Given as goal

abbrev pub invariant-loop-j : goal.invariant-loop-j
invariant-loop-j l = None (tree_of l.s) l.i l.j
