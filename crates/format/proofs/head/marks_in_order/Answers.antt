-- `marks_in_order` meets its contract: both tests of the definition, in their order. What the second goes over are all the marks,
-- where the code names the slice or a range of it up to its length.
use Rattle.std.proofs.Common.{rules, ◌≡◌, ◌<◌, ◌≤◌, length}
use borrow.Author.Tests.{tests, eq-eqb, ne_eqb}
use Rattle.std.proofs.lemmas.List.{take_all}
use Rattle.std.proofs.lemmas.Iterator.{cases_from_all, YieldsList-from_slice}
use Rattle.format.specs.Head.{marks_in_order}
use Rattle.format.proofs.EachMark.{each_looked_at}
use Rattle.format.proofs.head.marks_in_order.Goals as goal

pub returns-then-marks-eq-LABELS : goal.returns-then-marks-eq-LABELS
unfolding marks_in_order
returns-then-marks-eq-LABELS c =
    let all_of_them : c.iter.result.rest.now ≡ c.args.marks.now = search (rules, take_all) in
    let looked = cases_from_all _ _ _ (λ x. x ≤ 1) (λ x. 1 < x) c.all.ensures.ran (YieldsList-from_slice c.iter.result.rest.now cc) (λ x q k. search (rules, tests)) (λ x q k. search (rules, tests)) in
    rw (eq-eqb (length c.args.marks.now) 256 c.if-marks-eq-LABELS.true) (each_looked_at c.args.marks.now c.all.result (rw all_of_them at looked))

pub returns-else-marks-eq-LABELS : goal.returns-else-marks-eq-LABELS
unfolding marks_in_order
returns-else-marks-eq-LABELS c = rw (ne_eqb (length c.args.marks.now) 256 c.if-marks-eq-LABELS.false)
