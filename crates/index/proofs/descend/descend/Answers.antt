-- `descend` meets its contract.
use native.Mathlib.Omega.{arith}
use Rattle.index.proofs.Descending.{heading_in, heading_there, heading_close, node_found, node_passed, body_from, passes_few, behind_there, behind_further, repeat_entered, repeat_passed}
use Rattle.index.proofs.descend.descend.Goals as goal

pub loop-at-init : goal.loop-at-init
loop-at-init c = λ f z. heading_in z

pub loop-at-preserved-in-18 : goal.loop-at-preserved-in-18
loop-at-preserved-in-18 c = λ f z. heading_close (c.loop-at.invariant f z) c.in-18.is

pub pass_sequence-body-requires : goal.pass_sequence-body-requires
pass_sequence-body-requires c = (_, body_from (c.loop-at.invariant c.requires.0 c.requires.1) c.in-32.is)

pub overflow_mul-all : goal.overflow_mul-all
overflow_mul-all c =
    let h = c.loop-at.invariant c.requires.0 c.requires.1 in
    omega (arith, passes_few h c.in-32.is c.pass_sequence-body.ensures c.operand.ensures.0)

pub loop-at-preserved-then-n-all : goal.loop-at-preserved-then-n-all
loop-at-preserved-then-n-all c =
    λ f z. repeat_entered (c.loop-at.invariant f z) c.in-32.is c.pass_sequence-body.ensures c.operand.ensures.0 c.if-n-all.true

pub overflow_add-at-else-n-all : goal.overflow_add-at-else-n-all
overflow_add-at-else-n-all c =
    let h = c.loop-at.invariant c.requires.0 c.requires.1 in
    omega (arith, behind_there h c.in-32.is c.pass_sequence-body.ensures c.operand.ensures.0)

pub loop-at-smaller-else-n-all : goal.loop-at-smaller-else-n-all
loop-at-smaller-else-n-all c =
    let h = c.loop-at.invariant c.requires.0 c.requires.1 in
    omega (arith, behind_further h c.in-32.is c.pass_sequence-body.ensures c.operand.ensures.0)

pub loop-at-preserved-else-n-all : goal.loop-at-preserved-else-n-all
loop-at-preserved-else-n-all c =
    λ f z. repeat_passed (c.loop-at.invariant f z) c.in-32.is c.pass_sequence-body.ensures c.operand.ensures.0 c.if-n-all.false

pub returns-then-n-eq0 : goal.returns-then-n-eq0
returns-then-n-eq0 c =
    λ f z. node_found (c.loop-at.invariant f z) (omega (arith, c.in_default)) (omega arith) c.if-n-eq0.true

pub loop-at-preserved : goal.loop-at-preserved
loop-at-preserved c =
    λ f z. node_passed (c.loop-at.invariant f z) (omega (arith, c.in_default)) (omega arith) c.if-n-eq0.false

pub returns : goal.returns
returns c = λ f z. absurd (omega (arith, c.loop-at-test.false, heading_there (c.loop-at.invariant f z)))
