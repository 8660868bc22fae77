use mathlib.Core.Path.{◌≡◌}
use mathlib.Core.Bool.{false}
use lib.ListN.{drop}
use Rattle.format.specs.Limits.{marked_in}
use Rattle.table.specs.Listing.{marked_from}
use Rattle.table.proofs.listing.holds_marked.Given as goal

abbrev pub invariant-loop-c : goal.invariant-loop-c
invariant-loop-c l = marked_from (marked_in l.marks) false l.part ≡ marked_from (marked_in l.marks) l.label (drop l.c-index l.part)
