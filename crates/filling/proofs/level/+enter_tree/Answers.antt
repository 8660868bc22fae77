-- `filling::level::enter_tree` meets its contract: it passes the siblings one by one, and calls itself on the bytes inside each group.
use Rattle.std.proofs.Common.{arith}
use Rattle.format.specs.Limits.{allowed}
use Rattle.filling.specs.Filling.{counted_of}
use Rattle.filling.proofs.Recursion.{through_none, through_listed, through_less, passing, through_step, group_long, opening, through_group, through_all}
use Rattle.filling.proofs.level.+enter_tree.Goals as goal
use Rattle.filling.proofs.level.+enter_tree.Goals.{then-part-eq-GROUP, else-part-eq-GROUP}

pub loop-q-init : goal.loop-q-init
loop-q-init t c =
    let a = c.args in
    let w = a.tables.now in
    through_none (allowed a.level.limit w.marks.now) (counted_of w.steps.now w.groups.now w.repeats.now) a.s.now a.level.span.behind a.costs.now
    a.choices.now a.level.span.first c.requires.level_listed.listed.numbered

pub offset_bounds-nodes-q : goal.offset_bounds-nodes-q
offset_bounds-nodes-q t c =
    let r = c.requires in omega (arith, through_listed c.args.tables.now.marks.now r.level_ready r.level_listed c.loop-q.invariant)

pub bounds-nodes-q : goal.bounds-nodes-q
bounds-nodes-q t c =
    let r = c.requires in
    omega (arith, through_listed c.args.tables.now.marks.now r.level_ready r.level_listed c.loop-q.invariant)

pub bounds-part-0 : goal.bounds-part-0
bounds-part-0 t c =
    let r = c.requires in
    omega (arith, passing c.args.tables.now.marks.now r.level_ready r.level_listed c.loop-q.invariant c.loop-q-test.true c.part_of-part.ensures)

pub slice_bounds-enter_tree-count : goal.slice_bounds-enter_tree-count
slice_bounds-enter_tree-count t c =
    let r = c.requires in
    omega (
      arith,
      group_long c.args.tables.now.marks.now r.level_ready r.level_listed c.loop-q.invariant c.loop-q-test.true c.part_of-part.ensures c.if-part-eq-GROUP.true,
    )

pub slice_bounds-enter_tree-start : goal.slice_bounds-enter_tree-start
slice_bounds-enter_tree-start t c =
    let r = c.requires in
    omega (
      arith,
      group_long c.args.tables.now.marks.now r.level_ready r.level_listed c.loop-q.invariant c.loop-q-test.true c.part_of-part.ensures c.if-part-eq-GROUP.true,
    )

pub inside-requires : goal.inside-requires
inside-requires t c =
    let r = c.requires in (
      omega (arith, c.loop-q-test.true),
      omega (arith, through_listed c.args.tables.now.marks.now r.level_ready r.level_listed c.loop-q.invariant),
    )

pub enter_tree-requires : goal.enter_tree-requires
enter_tree-requires t c =
    let r = c.requires in
    let o =
    opening c.args.tables.now.marks.now r.level_ready r.level_listed c.loop-q.invariant c.loop-q-test.true c.part_of-part.ensures c.if-part-eq-GROUP.true
    c.inside.ensures in
    (omega (arith, o.shorter, c.decreases), (o.ready, o.listed))

pub loop-q-smaller : goal.loop-q-smaller
loop-q-smaller t c =
    let r = c.requires in omega (arith, through_less c.args.tables.now.marks.now r.level_ready r.level_listed c.loop-q.invariant c.loop-q-test.true)

pub loop-q-preserved : goal.loop-q-preserved
loop-q-preserved t c =
    let r = c.requires in
    let m = c.args.tables.now.marks.now in
    let w = c.loop-q.invariant in
    let more = c.loop-q-test.true in
    let part = c.part_of-part.ensures in
    elim c.if-part-eq-GROUP.branch [
      | then-part-eq-GROUP o ↦
          let e = o.enter_tree.ensures in
          rw (o.costs-is, o.choices-is)
          (through_group m r.level_ready r.level_listed w more part o.if-part-eq-GROUP.true o.inside.ensures e.entered e.kept.0 e.kept.1)
      | else-part-eq-GROUP o ↦ rw (o.costs-is, o.choices-is) (through_step m r.level_ready r.level_listed w more part o.if-part-eq-GROUP.false)
    ]

pub enter_level-requires-clause-below : goal.enter_level-requires-clause-below
enter_level-requires-clause-below t c =
    let r = c.requires in through_all c.args.tables.now.marks.now r.level_ready r.level_listed c.loop-q.invariant c.loop-q-test.false
