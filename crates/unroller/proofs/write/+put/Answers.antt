-- The walk that writes meets its contracts: what the laws of Places.antt and Walks.antt say of each item.
use Rattle.std.proofs.Common.{arith, rules}
use Rattle.std.proofs.lemmas.Bool.Decides.{nat_tests}
use Rattle.walk.specs.Walk.{NoClose}
use lib.ListN.{length-set}
use Rattle.format.proofs.Standing.{item_there, item_node, more_before_close}
use Rattle.unroller.proofs.Places.{node_fits, its_repeat, repeat_inside}
use Rattle.unroller.proofs.Walks.{opened_length, step_put, opened_inside, group_next, group_room, group_put, count_some, repeat_next, repeat_room, repeat_put, writing_none, writing_ends, item, writing_item, writing_further, writing_more}
use Rattle.unroller.proofs.write.+put.Goals as goal

pub put_item-bounds-s-at : goal.put_item-bounds-s-at
put_item-bounds-s-at t c = item_there c.requires.1.stands

pub put_item-put_sequence-body-requires : goal.put_item-put_sequence-body-requires
put_item-put_sequence-body-requires t c =
    let there = (its_repeat c.requires.1 c.if-c-eq-REPEAT.true).there in
    (omega (arith, there), (_, repeat_inside c.requires.1 c.if-c-eq-REPEAT.true))

pub put_item-overflow_sub-count : goal.put_item-overflow_sub-count
put_item-overflow_sub-count t c = count_some c.args.out.now c.requires.1 c.if-c-eq-REPEAT.true c.operand-count.ensures.0

pub put_item-copy_on-end-requires : goal.put_item-copy_on-end-requires
put_item-copy_on-end-requires t c =
    repeat_room c.args.out.now c.requires.1 c.if-c-eq-REPEAT.true c.operand-count.ensures.0 c.put_sequence-body.ensures

pub put_item-overflow_add-result : goal.put_item-overflow_add-result
put_item-overflow_add-result t c =
    omega (arith, repeat_next c.args.out.now c.requires.1 c.if-c-eq-REPEAT.true c.operand-count.ensures.0 c.put_sequence-body.ensures)

pub put_item-returns-then-c-eq-REPEAT : goal.put_item-returns-then-c-eq-REPEAT
put_item-returns-then-c-eq-REPEAT t c =
    λ f i. repeat_put c.args.out.now i c.if-c-eq-REPEAT.true c.operand-count.ensures.0 c.put_sequence-body.ensures c.copy_on-end.ensures.value c.copy_on-end.ensures.out_after

pub put_item-bounds-out-to : goal.put_item-bounds-out-to
put_item-bounds-out-to t c = omega (arith, node_fits c.requires.1 c.if-c-eq-REPEAT.false)

pub put_item-overflow_add-out : goal.put_item-overflow_add-out
put_item-overflow_add-out t c = omega (arith, item_node c.requires.1.stands c.if-c-eq-REPEAT.false)

pub put_item-bounds-s-at-2 : goal.put_item-bounds-s-at-2
put_item-bounds-s-at-2 t c = omega (arith, item_node c.requires.1.stands c.if-c-eq-REPEAT.false)

pub put_item-bounds-out-to-2 : goal.put_item-bounds-out-to-2
put_item-bounds-out-to-2 t c = simp length-set (omega (arith, node_fits c.requires.1 c.if-c-eq-REPEAT.false))

pub put_item-overflow_add-inside : goal.put_item-overflow_add-inside
put_item-overflow_add-inside t c = omega (arith, item_node c.requires.1.stands c.if-c-eq-REPEAT.false)

pub put_item-returns-then-c-eq-STEP : goal.put_item-returns-then-c-eq-STEP
put_item-returns-then-c-eq-STEP t c = λ f i. step_put c.args.out.now i c.if-c-eq-STEP.true

pub put_item-put_sequence-body-requires-2 : goal.put_item-put_sequence-body-requires-2
put_item-put_sequence-body-requires-2 t c =
    let there = item_node c.requires.1.stands c.if-c-eq-REPEAT.false in
    (omega (arith, there), (_, opened_inside c.args.out.now c.requires.1 c.if-c-eq-REPEAT.false c.if-c-eq-STEP.false))

pub put_item-bounds-out-end : goal.put_item-bounds-out-end
put_item-bounds-out-end t c = group_room c.args.out.now c.requires.1 c.if-c-eq-REPEAT.false c.if-c-eq-STEP.false c.put_sequence-body-2.ensures

pub put_item-overflow_add-result-2 : goal.put_item-overflow_add-result-2
put_item-overflow_add-result-2 t c =
    omega (arith, group_next c.args.out.now c.requires.1 c.if-c-eq-REPEAT.false c.if-c-eq-STEP.false c.put_sequence-body-2.ensures)

pub put_item-overflow_add-result-3 : goal.put_item-overflow_add-result-3
put_item-overflow_add-result-3 t c =
    let room = group_room c.args.out.now c.requires.1 c.if-c-eq-REPEAT.false c.if-c-eq-STEP.false c.put_sequence-body-2.ensures in
    omega (arith, room, c.put_sequence-body-2.auto.out, opened_length c.args.s.now c.args.out.now c.args.w)

pub put_item-returns : goal.put_item-returns
put_item-returns t c = λ f i. group_put c.args.out.now i c.if-c-eq-REPEAT.false c.if-c-eq-STEP.false c.put_sequence-body-2.ensures

pub put_sequence-loop-p-init : goal.put_sequence-loop-p-init
put_sequence-loop-p-init t c = λ f z. writing_none c.args.out.now z

-- Where no close stands there is a next item of whatever sequence stands at the beginning.
pub put_sequence-put_item-p-requires : goal.put_sequence-put_item-p-requires
put_sequence-put_item-p-requires t c =
    let z = c.requires.1 in
    let a = c.loop-p.invariant c.requires.0 z in
    let no_close : NoClose c.args.s.now c.loop-p.p.at = grind (arith, nat_tests) in
    let m = more_before_close a.along z.stands.ends c.loop-p-test.true no_close.no_group_end no_close.no_repeat_end in
    (omega (arith, a.put.passed), (item a m, writing_item a m))

pub put_sequence-loop-p-smaller : goal.put_sequence-loop-p-smaller
put_sequence-loop-p-smaller t c =
    let z = c.requires.1 in
    let a = c.loop-p.invariant c.requires.0 z in
    let no_close : NoClose c.args.s.now c.loop-p.p.at = grind (arith, nat_tests) in
    let m = more_before_close a.along z.stands.ends c.loop-p-test.true no_close.no_group_end no_close.no_repeat_end in
    omega (arith, writing_further a m (c.put_item-p.ensures (item a m) (writing_item a m)))

pub put_sequence-loop-p-preserved : goal.put_sequence-loop-p-preserved
put_sequence-loop-p-preserved t c =
    λ f z. let a = c.loop-p.invariant f z in
    let no_close : NoClose c.args.s.now c.loop-p.p.at = search rules in
    let m = more_before_close a.along z.stands.ends c.loop-p-test.true no_close.no_group_end no_close.no_repeat_end in
    writing_more a m (c.put_item-p.ensures (item a m) (writing_item a m))

pub put_sequence-returns-else-not-closes : goal.put_sequence-returns-else-not-closes
put_sequence-returns-else-not-closes t c = λ f i. writing_ends (c.loop-p.invariant f i) (λ _. grind (arith, nat_tests))

pub put_sequence-returns-after-loop-p : goal.put_sequence-returns-after-loop-p
put_sequence-returns-after-loop-p t c = λ f i. writing_ends (c.loop-p.invariant f i) (λ e. absurd (omega (arith, c.loop-p-test.false)))
