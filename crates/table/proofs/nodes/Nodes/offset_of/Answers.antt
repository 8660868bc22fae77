-- `table::nodes::Nodes::offset_of` meets its contract: past the last sibling the bytes end, and each sibling stands where it is listed.
use mathlib.Core.List.{List}
use mathlib.Core.Path.{◌≡◌}
use Prim.Native.Nat.{ℕ, ◌+◌}
use native.Mathlib.Omega.{arith}
use lib.ListN.{length, get_or}
use Rattle.format.specs.Forest.{at_most, bytes}
use Rattle.format.specs.Tree.{tree_of}
use Rattle.optimum.specs.Cheapest.{front}
use Rattle.table.specs.Listing.{Spelled}
use Rattle.table.specs.Nodes.{Reached, SpanListed}
use Rattle.table.specs.declared.nodes.Span.{Span}
use Rattle.table.proofs.Following.{reached_place, reached_end, span_few}
use Rattle.table.proofs.nodes.Nodes.offset_of.Goals as goal

pub returns-then-q-span : goal.returns-then-q-span
returns-then-q-span c = λ i w. reached_end _ c.requires.spelled _ _ _ w (omega (arith, c.if-q-span.true))

-- Where the sibling stands.
stands : {places nexts s : List ℕ} {span : Span} {q i : ℕ} → Spelled s → SpanListed places nexts span (tree_of s) → (q ≡ span.behind → ⊥)
    → Reached span.behind (tree_of s) i q → get_or places q 0 ≡ span.start + length (bytes (front i (tree_of s)))
stands z l h w = reached_place (at_most 0) _ _ (z.run (at_most 0)) _ _ w _ _ _ l.listed (omega (arith, w.numbered, h))

pub offset_bounds-self-q : goal.offset_bounds-self-q
offset_bounds-self-q c = omega (arith, span_few c.requires.spelled c.requires.span_listed.1 c.requires.reached.1)

pub bounds-self-q : goal.bounds-self-q
bounds-self-q c = omega (arith, span_few c.requires.spelled c.requires.span_listed.1 c.requires.reached.1)

pub overflow_sub-result : goal.overflow_sub-result
overflow_sub-result c = omega (arith, stands c.requires.spelled c.requires.span_listed.1 c.if-q-span.false c.requires.reached.1)

pub returns : goal.returns
returns c = λ i w. omega (arith, stands c.requires.spelled c.requires.span_listed.1 c.if-q-span.false w)
