-- `is_index` meets its contract.
use Rattle.std.proofs.Common.{sym, ◌∙◌, ◌∷◌, [], length-append, arith, rules}
use borrow.Author.Tests.{ne_eqb}
use Rattle.std.proofs.lemmas.Slice.Zip.{zip_turn, zip_end}
use Rattle.index.proofs.Passing.{item}
use Rattle.index.proofs.Answers.{was_read}
use Rattle.index.proofs.Outermost.{some_left, outer_item, comparing_none, offsets_long, still_there, offset_differs, nodes_differ, comparing_more, last_compared, uneven}
use Rattle.index.proofs.compare.is_index.Goals as goal
use Rattle.index.proofs.compare.is_index.Goals.{then-p-s-via-then-p-s, then-p-s-via-else-p-s+then-offset-p, then-p-s-via-else-p-s+else-offset-p+then-nodes-p}

pub loop-offset-init : goal.loop-offset-init
loop-offset-init c = comparing_none (was_read c.args.fold.now) c.args.offsets.now c.args.before.now

pub returns-then-p-s : goal.returns-then-p-s
returns-then-p-s c =
    let v = c.loop-offset.invariant in
    let z = was_read c.args.fold.now in
    let here = zip_turn c.args.offsets.now c.args.before.now c.loop-offset.yielded c.into_iter-offset-iterator.result c.loop-offset.offset-iterator c.next.new.self c.next.result (search rules) (search rules) c.loop-offset.yielded_by _ c.in-Some.is c.next.ensures.steps in
    elim c.then-p-s.branch [
      | then-p-s-via-then-p-s w ↦ sym (offsets_long v z (omega (arith, w.if-p-s.true)) here.0)
      | then-p-s-via-else-p-s+then-offset-p w ↦ sym (offset_differs v z (still_there v z w.if-p-s.false) (λ e. w.if-offset-p.true (here.2 0 ∙ e)))
      | then-p-s-via-else-p-s+else-offset-p+then-nodes-p w ↦ sym (nodes_differ v z (still_there v z w.if-p-s.false) (λ e. w.if-nodes-p.true (here.3 0 ∙ e)))
    ]

pub pass_item-p-requires : goal.pass_item-p-requires
pass_item-p-requires c =
    let v = c.loop-offset.invariant in
    (_, outer_item v.outer (was_read c.args.fold.now) (still_there v (was_read c.args.fold.now) c.if-p-s.false))

pub loop-offset-preserved : goal.loop-offset-preserved
loop-offset-preserved c =
    let v = c.loop-offset.invariant in
    let z = was_read c.args.fold.now in
    let there = still_there v z c.if-p-s.false in
    let here = zip_turn c.args.offsets.now c.args.before.now c.loop-offset.yielded c.into_iter-offset-iterator.result c.loop-offset.offset-iterator c.next.new.self c.next.result (search rules) (search rules) c.loop-offset.yielded_by _ c.in-Some.is c.next.ensures.steps in
    rw (length-append c.loop-offset.yielded ((c.in-Some.offset, c.in-Some.nodes) ∷ []))
    (comparing_more v z there (c.pass_item-p.ensures (item v.outer.walked (some_left v.outer z there)) (outer_item v.outer z there))
    here.0 here.1 (sym (here.2 0) ∙ c.if-offset-p.false) (sym (here.3 0) ∙ c.if-nodes-p.false))

pub returns-then-offsets-before : goal.returns-then-offsets-before
returns-then-offsets-before c =
    let all = zip_end c.args.offsets.now c.args.before.now c.loop-offset.yielded c.into_iter-offset-iterator.result c.loop-offset.offset-iterator c.next.new.self c.next.result (search rules) (search rules) c.loop-offset.yielded_by c.in-None.is c.next.ensures.steps in
    last_compared c.loop-offset.invariant (was_read c.args.fold.now) (omega (arith, all, c.if-offsets-before.true)) (omega (arith, all, c.if-offsets-before.true))

pub returns-else-offsets-before : goal.returns-else-offsets-before
returns-else-offsets-before c = ne_eqb _ _ c.if-offsets-before.false ∙ sym (uneven c.args.fold.now.bytes.now _ _ c.if-offsets-before.false)
