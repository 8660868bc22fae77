-- The walk that counts meets its contracts: what the laws of Passing.antt say of each item.
use Rattle.std.proofs.Common.{◌≢◌, refl, get_or, arith}
use Rattle.std.proofs.lemmas.Bool.Decides.{nat_tests}
use Rattle.walk.specs.Walk.{NoClose}
use Rattle.format.proofs.Standing.{more_before_close, item_there, item_node}
use Rattle.index.proofs.Passing.{step_passed, node_few, group_inside, group_next, group_passed, its_repeat, repeat_inside, repeat_next, repeat_few, repeat_passed, walked_none, walked_ended, item, walked_item, walked_further, walked_more}
use Rattle.index.proofs.pass.+pass.Goals as goal

pub pass_holder-bounds-s-at : goal.pass_holder-bounds-s-at
pass_holder-bounds-s-at t c = item_there c.requires.1.item.stands

pub pass_holder-pass_sequence-body-requires : goal.pass_holder-pass_sequence-body-requires
pass_holder-pass_sequence-body-requires t c =
    let i = c.requires.1.item in
    (omega (arith, (its_repeat i c.if-s-at-eq-REPEAT.true).there), (_, repeat_inside i c.if-s-at-eq-REPEAT.true))

pub pass_holder-overflow_add-result : goal.pass_holder-overflow_add-result
pass_holder-overflow_add-result t c =
    omega (arith, repeat_next c.requires.1.item c.if-s-at-eq-REPEAT.true c.pass_sequence-body.ensures c.operand-count.ensures.0)

pub pass_holder-overflow_mul-result : goal.pass_holder-overflow_mul-result
pass_holder-overflow_mul-result t c =
    omega (arith, repeat_few c.requires.1.item c.if-s-at-eq-REPEAT.true c.pass_sequence-body.ensures c.operand-count.ensures.0)

pub pass_holder-overflow_add-result-then-s-at-eq-REPEAT : goal.pass_holder-overflow_add-result-then-s-at-eq-REPEAT
pass_holder-overflow_add-result-then-s-at-eq-REPEAT t c =
    omega (arith, repeat_few c.requires.1.item c.if-s-at-eq-REPEAT.true c.pass_sequence-body.ensures c.operand-count.ensures.0)

pub pass_holder-returns-then-s-at-eq-REPEAT : goal.pass_holder-returns-then-s-at-eq-REPEAT
pass_holder-returns-then-s-at-eq-REPEAT t c =
    λ f z. repeat_passed z.item c.if-s-at-eq-REPEAT.true c.pass_sequence-body.ensures c.operand-count.ensures.0

pub pass_holder-overflow_add-at-2 : goal.pass_holder-overflow_add-at-2
pass_holder-overflow_add-at-2 t c = omega (arith, item_node c.requires.1.item.stands c.if-s-at-eq-REPEAT.false)

pub pass_holder-pass_sequence-body-requires-2 : goal.pass_holder-pass_sequence-body-requires-2
pass_holder-pass_sequence-body-requires-2 t c =
    let z = c.requires.1 in
    (omega (arith, item_node z.item.stands c.if-s-at-eq-REPEAT.false), (_, group_inside z.item c.if-s-at-eq-REPEAT.false z.no_step refl))

pub pass_holder-overflow_add-result-2 : goal.pass_holder-overflow_add-result-2
pass_holder-overflow_add-result-2 t c =
    let z = c.requires.1 in
    omega (arith, group_next z.item c.if-s-at-eq-REPEAT.false z.no_step refl c.pass_sequence-body-2.ensures)

pub pass_holder-returns : goal.pass_holder-returns
pass_holder-returns t c = λ f z. group_passed z.item c.if-s-at-eq-REPEAT.false z.no_step refl c.pass_sequence-body-2.ensures

pub pass_sequence-loop-p-init : goal.pass_sequence-loop-p-init
pass_sequence-loop-p-init t c = λ f z. walked_none z.stands.stands z.few

-- Where no close stands there is a next item of whatever sequence stands at the beginning.
pub pass_sequence-past_step-p-requires : goal.pass_sequence-past_step-p-requires
pass_sequence-past_step-p-requires t c =
    let z = c.requires.1 in
    let a = c.loop-p.invariant c.requires.0 z in
    let i = walked_item a (more_before_close a.along z.stands.ends c.loop-p-test.true (omega (arith, c.if-s-p-eq-STEP.true)) (omega (arith, c.if-s-p-eq-STEP.true))) in
    let no_repeat : get_or c.args.s.now c.loop-p.p.at 0 ≢ 0x20 = omega (arith, c.if-s-p-eq-STEP.true) in
    (omega (arith, item_node i.stands no_repeat), omega (arith, node_few i no_repeat))

pub pass_sequence-loop-p-preserved-then-s-p-eq-STEP : goal.pass_sequence-loop-p-preserved-then-s-p-eq-STEP
pass_sequence-loop-p-preserved-then-s-p-eq-STEP t c =
    λ f z. let a = c.loop-p.invariant f z in
    let m = more_before_close a.along z.stands.ends c.loop-p-test.true (omega (arith, c.if-s-p-eq-STEP.true)) (omega (arith, c.if-s-p-eq-STEP.true)) in
    walked_more a m (rw c.past_step-p.ensures (step_passed (walked_item a m) c.if-s-p-eq-STEP.true))

pub pass_sequence-pass_holder-p-requires : goal.pass_sequence-pass_holder-p-requires
pass_sequence-pass_holder-p-requires t c =
    let z = c.requires.1 in
    let a = c.loop-p.invariant c.requires.0 z in
    let no_close : NoClose c.args.s.now c.loop-p.p.at = grind (arith, nat_tests) in
    let m = more_before_close a.along z.stands.ends c.loop-p-test.true no_close.no_group_end no_close.no_repeat_end in
    (omega (arith, a.along.passed), (item a m, record { item = walked_item a m; no_step = c.if-s-p-eq-STEP.false }))

pub pass_sequence-loop-p-smaller : goal.pass_sequence-loop-p-smaller
pass_sequence-loop-p-smaller t c =
    let z = c.requires.1 in
    let a = c.loop-p.invariant c.requires.0 z in
    let no_close : NoClose c.args.s.now c.loop-p.p.at = grind (arith, nat_tests) in
    let m = more_before_close a.along z.stands.ends c.loop-p-test.true no_close.no_group_end no_close.no_repeat_end in
    omega (arith, walked_further a m (c.pass_holder-p.ensures (item a m) (record { item = walked_item a m; no_step = c.if-s-p-eq-STEP.false })))

pub pass_sequence-loop-p-preserved : goal.pass_sequence-loop-p-preserved
pass_sequence-loop-p-preserved t c =
    λ f z. let a = c.loop-p.invariant f z in
    let no_close : NoClose c.args.s.now c.loop-p.p.at = grind (arith, nat_tests) in
    let m = more_before_close a.along z.stands.ends c.loop-p-test.true no_close.no_group_end no_close.no_repeat_end in
    walked_more a m (c.pass_holder-p.ensures (item a m) (record { item = walked_item a m; no_step = c.if-s-p-eq-STEP.false }))

pub pass_sequence-returns-else-not-closes : goal.pass_sequence-returns-else-not-closes
pass_sequence-returns-else-not-closes t c = λ f z. walked_ended (c.loop-p.invariant f z) (λ _. grind (arith, nat_tests))

pub pass_sequence-returns-after-loop-p : goal.pass_sequence-returns-after-loop-p
pass_sequence-returns-after-loop-p t c = λ f z. walked_ended (c.loop-p.invariant f z) (λ there. absurd (omega (arith, c.loop-p-test.false, there)))
