-- `table::listing::Siblings::part` meets its contract: the offsets are where sibling i starts and where it ends.
use mathlib.Core.List.{List}
use Prim.Native.Nat.{ℕ, ◌+◌, ◌≤◌}
use native.Mathlib.Omega.{arith}
use lib.ListN.{length, get_or}
use Rattle.table.specs.Listing.{SiblingPlaced}
use Rattle.table.proofs.Listings.{part_bounds, place_part}
use Rattle.table.proofs.listing.Siblings.part.Goals as goal

bounds : {s offsets : List ℕ} {i : ℕ} → SiblingPlaced s offsets i → (get_or offsets i 0 ≤ get_or offsets (i + 1) 0) × (get_or offsets (i + 1) 0 ≤ length s)
bounds {i} r = part_bounds _ r.spelled i r.within _ _ (r.placed.offset i (omega arith)) (r.placed.offset (i + 1) (omega arith))

pub slice_bounds-result-count : goal.slice_bounds-result-count
slice_bounds-result-count c = (bounds c.requires).0

pub slice_bounds-result-start : goal.slice_bounds-result-start
slice_bounds-result-start c = (bounds c.requires).0

pub slice_bounds-result-end : goal.slice_bounds-result-end
slice_bounds-result-end c = (bounds c.requires).1

pub returns : goal.returns
returns c =
    let r = c.requires in
    place_part _ r.spelled c.args.i _ _ (r.placed.offset c.args.i (omega arith)) (r.placed.offset (c.args.i + 1) (omega arith))
