-- `write_entries` meets its contract.
use Rattle.std.proofs.Common.{arith}
use Rattle.index.proofs.Passing.{item}
use Rattle.index.proofs.Answers.{was_read}
use Rattle.index.proofs.Outermost.{outer_bytes, outer_nodes, some_left, outer_item, filling_none, item_there, filling_more, filling_all}
use Rattle.index.proofs.entries.write_entries.Goals as goal

pub loop-i-init : goal.loop-i-init
loop-i-init c = filling_none (was_read c.args.fold.now) c.args.offsets.now c.args.before.now

pub pass_item-next-requires : goal.pass_item-next-requires
pass_item-next-requires c =
    let there = item_there c.loop-i.invariant (was_read c.args.fold.now) (record { all = c.requires.all; for_offsets = c.requires.room.0; for_before = c.requires.room.1 }) c.loop-i-test.true in
    (_, outer_item c.loop-i.invariant.outer (was_read c.args.fold.now) there)

pub overflow_cast-offsets : goal.overflow_cast-offsets
overflow_cast-offsets c = omega (arith, outer_bytes c.loop-i.invariant.outer (was_read c.args.fold.now))

pub overflow_cast-before : goal.overflow_cast-before
overflow_cast-before c = omega (arith, outer_nodes c.loop-i.invariant.outer (was_read c.args.fold.now))

pub loop-i-preserved : goal.loop-i-preserved
loop-i-preserved c =
    let o = c.loop-i.invariant.outer in
    let z = was_read c.args.fold.now in
    let there = item_there c.loop-i.invariant z (record { all = c.requires.all; for_offsets = c.requires.room.0; for_before = c.requires.room.1 }) c.loop-i-test.true in
    filling_more c.loop-i.invariant z (record { all = c.requires.all; for_offsets = c.requires.room.0; for_before = c.requires.room.1 }) c.loop-i-test.true (c.pass_item-next.ensures (item o.walked (some_left o z there)) (outer_item o z there))

pub returns : goal.returns
returns c =
    let all = filling_all c.loop-i.invariant (was_read c.args.fold.now) (record { all = c.requires.all; for_offsets = c.requires.room.0; for_before = c.requires.room.1 }) c.loop-i-test.false in
    record { offsets_after = all.0; before_after = all.1 }
