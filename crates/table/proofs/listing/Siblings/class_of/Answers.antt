-- `table::listing::class_of` meets its contract.
use mathlib.Core.Path.{◌≡◌, refl, sym, ◌∙◌}
use mathlib.Core.Bool.{Bool, false}
use mathlib.Core.List.{List}
use Prim.Native.Nat.{ℕ}
use Rattle.format.specs.Forest.{at_most, bytes, holds}
use Rattle.format.specs.Tree.{tree_of}
use Rattle.optimum.specs.Cheapest.{node}
use Rattle.optimum.proofs.Cut.{run_front, run_back}
use Rattle.table.specs.Listing.{Spelled, free, alone, marked_from}
use Rattle.table.proofs.Listings.{marked_part}
use Rattle.table.proofs.listing.Siblings.class_of.Goals as goal

-- What a part's bytes say of the marks in it.
marked_at : (m : ℕ → Bool) (s part : List ℕ) (i : ℕ) (r : Bool) → Spelled s → part ≡ bytes (node i (tree_of s)) → r ≡ marked_from m false part
    → holds m (node i (tree_of s)) ≡ r
marked_at m s part i r z e f = sym (f ∙ marked_part m (node i (tree_of s)) part (run_front 1 (run_back i (z.run (at_most 0)))).plain e)

pub returns-then-holds_marked : goal.returns-then-holds_marked
returns-then-holds_marked c =
    alone (marked_at _ _ _ c.args.i _ c.requires.sibling.spelled c.part.ensures c.holds_marked.ensures ∙ c.if-holds_marked.true) refl

pub returns : goal.returns
returns c =
    free (marked_at _ _ _ c.args.i _ c.requires.sibling.spelled c.part.ensures c.holds_marked.ensures ∙ c.if-holds_marked.false)
    c.first_equal.ensures
