-- `count_entries` meets its contract.
use mathlib.Core.Path.{sym, ap, ◌∙◌}
use native.Mathlib.Omega.{arith}
use Rattle.format.specs.Tree.{tree_of}
use Rattle.index.specs.Index.{byte_length}
use Rattle.index.proofs.Sums.{outermost, length_sums}
use Rattle.index.proofs.Passing.{item}
use Rattle.index.proofs.Answers.{was_read}
use Rattle.index.proofs.Outermost.{outer_none, outer_bytes, outer_number, outer_all, some_left, outer_item, outer_further, outer_more}
use Rattle.index.proofs.entries.count_entries.Goals as goal

pub loop-p-init : goal.loop-p-init
loop-p-init c = outer_none (was_read c.args.fold.now)

pub pass_item-p-requires : goal.pass_item-p-requires
pass_item-p-requires c = (_, outer_item c.loop-p.invariant (was_read c.args.fold.now) c.loop-p-test.true)

pub overflow_add-i : goal.overflow_add-i
overflow_add-i c = omega (arith, outer_number c.loop-p.invariant (was_read c.args.fold.now), outer_bytes c.loop-p.invariant (was_read c.args.fold.now))

pub loop-p-smaller : goal.loop-p-smaller
loop-p-smaller c =
    let o = c.loop-p.invariant in
    let there = c.loop-p-test.true in
    omega (arith, outer_further o (was_read c.args.fold.now) there (c.pass_item-p.ensures (item o.walked (some_left o (was_read c.args.fold.now) there)) (outer_item o (was_read c.args.fold.now) there)))

pub loop-p-preserved : goal.loop-p-preserved
loop-p-preserved c =
    let o = c.loop-p.invariant in
    let there = c.loop-p-test.true in
    outer_more o (was_read c.args.fold.now) there (c.pass_item-p.ensures (item o.walked (some_left o (was_read c.args.fold.now) there)) (outer_item o (was_read c.args.fold.now) there))

pub returns : goal.returns
returns c =
    c.loop-p.invariant.number
    ∙ ap outermost (outer_all c.loop-p.invariant (was_read c.args.fold.now) c.loop-p-test.false)
    ∙ sym (length_sums byte_length 0 (tree_of c.args.fold.now.bytes.now))
