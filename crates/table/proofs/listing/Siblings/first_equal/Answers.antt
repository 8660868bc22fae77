-- `table::listing::Siblings::first_equal` meets its contract. The loop's invariant: no sibling before j equals sibling i.
use Rattle.table.proofs.Listings.{first_found}
use Rattle.table.proofs.listing.Siblings.first_equal.Goals as goal

pub returns-then-equal : goal.returns-then-equal
returns-then-equal c =
    first_found _ _ _ _ _ c.loop-j-test.true c.part.ensures c.part-then-from-j.ensures (c.equal.ensures.0 c.if-equal.true) c.loop-j.invariant
