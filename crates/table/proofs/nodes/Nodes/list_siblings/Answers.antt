-- `table::nodes::Nodes::list_siblings` meets its contract. The loop's invariant: the first m siblings are followed, and q is the next
-- one's number.
use mathlib.Core.Path.{refl}
use Prim.Native.Nat.{◌+◌, ◌≤◌}
use native.Mathlib.Omega.{arith}
use Rattle.format.specs.Forest.{nodes, at_most}
use Rattle.format.specs.Tree.{tree_of}
use Rattle.table.proofs.Following.{reached_all, reached_within, reached_place, reached_less, followed_none, followed_more, followed_placed, followed_numbered}
use Rattle.table.proofs.nodes.Nodes.list_siblings.Goals as goal

pub loop-q-init : goal.loop-q-init
loop-q-init c =
    (refl, omega arith, omega (arith, c.requires.span_listed), followed_none _ _ _ _ _ c.requires.span_listed.numbered (omega arith) (omega arith))

pub overflow_sub-row : goal.overflow_sub-row
overflow_sub-row c =
    let L = c.loop-q in
    omega (
      arith,
      reached_place (at_most 0) _ _ (c.requires.spelled.run (at_most 0)) _ _ L.invariant.3.reached _ _ _ c.requires.span_listed.listed c.loop-q-test.true,
    )

pub loop-q-smaller : goal.loop-q-smaller
loop-q-smaller c =
    let L = c.loop-q in
    reached_less (at_most 0) _ _ (c.requires.spelled.run (at_most 0)) _ _ L.invariant.3.reached _ _ _ c.requires.span_listed.listed c.loop-q-test.true

pub loop-q-preserved : goal.loop-q-preserved
loop-q-preserved c =
    let few : c.args.span.behind + nodes (tree_of c.args.s.now) ≤ 1024 = omega (arith, c.requires.span_listed) in
    let r = c.requires.spelled.run (at_most 0) in
    let next = followed_more (at_most 0) _ _ r _ _ _ _ c.loop-q.invariant.3 _ _ _ c.requires.span_listed.listed few c.loop-q-test.true in
    let w = reached_within (at_most 0) _ _ r _ _ next.reached in
    (c.loop-q.invariant.0, omega (arith, w.0), omega (arith, w.1), next)

pub returns : goal.returns
returns c =
    let w = c.loop-q.invariant.3 in
    let z = c.requires.spelled in
    let few : c.args.span.behind + nodes (tree_of c.args.s.now) ≤ 1024 = omega (arith, c.requires.span_listed) in
    record {
      counted = reached_all (at_most 0) _ _ (z.run (at_most 0)) _ _ w.reached c.loop-q-test.false;
      placed = followed_placed _ z _ _ _ _ _ w few c.loop-q-test.false;
      numbered = followed_numbered _ z _ _ _ _ _ w few c.loop-q-test.false;
      same_kinds = c.loop-q.invariant.0;
    }
