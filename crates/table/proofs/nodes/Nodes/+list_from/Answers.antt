-- `table::nodes::Nodes::list_from` meets its contract: each turn lists the node at the spot reached, and what a group holds is listed by
-- the call.
use Rattle.std.proofs.Common.{arith}
use Rattle.table.proofs.Spots.{along_none, along_ends, along_step, along_close, along_group, node_there, group_at}
use Rattle.table.proofs.nodes.Nodes.+list_from.Goals as goal
use Rattle.table.proofs.nodes.Nodes.+list_from.Goals.{then-run-p-eq-STEP, else-run-p-eq-STEP}

pub loop-p-init : goal.loop-p-init
loop-p-init t c = (omega arith, along_none _ _ _ _)

pub overflow_sub-inside : goal.overflow_sub-inside
overflow_sub-inside t c =
    let q = c.requires.stands in
    (node_there _ (c.loop-p.invariant.1 q.0 q.1.0 q.1.1).ahead c.loop-p-test.true c.if-run-p-ne-GROUP_END.true).1

pub list_from-held-requires : goal.list_from-held-requires
list_from-held-requires t c =
    let q = c.requires.stands in
    let so_far = c.loop-p.invariant.1 q.0 q.1.0 q.1.1 in
    let opens = group_at _ so_far.ahead c.loop-p-test.true c.if-run-p-ne-GROUP_END.true c.if-run-p-eq-STEP.false in
    (omega (arith, c.decreases, so_far.over.passed, c.loop-p-test.true), ((_, (_, opens.inside)), omega arith))

pub overflow_add-p : goal.overflow_add-p
overflow_add-p t c =
    let q = c.requires.stands in
    let so_far = c.loop-p.invariant.1 q.0 q.1.0 q.1.1 in
    omega (
      arith,
      along_close so_far c.requires.few (omega arith) (omega arith) c.loop-p-test.true c.if-run-p-ne-GROUP_END.true
          c.if-run-p-eq-STEP.false c.list_from-held.ensures,
    )

pub loop-p-smaller : goal.loop-p-smaller
loop-p-smaller t c =
    let q = c.requires.stands in
    let so_far = c.loop-p.invariant.1 q.0 q.1.0 q.1.1 in
    elim c.if-run-p-eq-STEP.branch [
      | then-run-p-eq-STEP w ↦ rw w.p-is (omega (arith, c.loop-p-test.true))
      | else-run-p-eq-STEP w ↦
          rw w.p-is
          (omega (
            arith,
            c.loop-p-test.true,
            along_close so_far c.requires.few (omega arith) (omega arith) c.loop-p-test.true c.if-run-p-ne-GROUP_END.true
                w.if-run-p-eq-STEP.false w.list_from-held.ensures,
          ))
    ]

pub loop-p-preserved : goal.loop-p-preserved
loop-p-preserved t c =
    let q = c.requires.stands in
    let so_far = c.loop-p.invariant.1 q.0 q.1.0 q.1.1 in
    elim c.if-run-p-eq-STEP.branch [
      | then-run-p-eq-STEP w ↦
          rw (w.p-is, w.self-is) (
            omega arith,
            λ b f z.
                along_step (c.loop-p.invariant.1 b f z) c.requires.few (omega arith) (omega arith) c.loop-p-test.true
                w.if-run-p-eq-STEP.true,
          )
      | else-run-p-eq-STEP w ↦
          rw (w.p-is, w.self-is) (
            omega (
              arith,
              along_close so_far c.requires.few (omega arith) (omega arith) c.loop-p-test.true c.if-run-p-ne-GROUP_END.true
                  w.if-run-p-eq-STEP.false w.list_from-held.ensures,
            ),
            λ b f z.
                along_group (c.loop-p.invariant.1 b f z) c.requires.few (omega arith) (omega arith) c.loop-p-test.true
                c.if-run-p-ne-GROUP_END.true w.if-run-p-eq-STEP.false w.list_from-held.ensures,
          )
    ]

pub returns-else-run-p-ne-GROUP_END : goal.returns-else-run-p-ne-GROUP_END
returns-else-run-p-ne-GROUP_END t c =
    λ b f z. along_ends (c.loop-p.invariant.1 b f z) (λ _. c.if-run-p-ne-GROUP_END.false)

pub returns-after-loop-p : goal.returns-after-loop-p
returns-after-loop-p t c =
    λ b f z. along_ends (c.loop-p.invariant.1 b f z) (λ h. absurd (omega (arith, c.loop-p-test.false)))
