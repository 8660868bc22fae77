-- `table::nodes::Nodes::part_of` meets its contract: the sibling's part ends where the next one starts.
use Prim.Native.Nat.{ℕ, ◌+◌, ◌<◌, ◌≤◌}
use native.Mathlib.Omega.{arith}
use lib.ListN.{length, get_or}
use mathlib.Core.List.{List}
use mathlib.Core.Path.{◌≡◌}
use Rattle.format.specs.Forest.{at_most, bytes}
use Rattle.format.specs.Tree.{tree_of}
use Rattle.table.specs.Nodes.{Reached, SpanListed}
use Rattle.table.specs.Listing.{Spelled}
use Rattle.table.specs.declared.nodes.Span.{Span}
use Rattle.optimum.specs.Cheapest.{front}
use Rattle.table.proofs.Listings.{part_bounds, place_part}
use Rattle.table.proofs.Following.{reached_on, reached_next, span_few}
use Rattle.table.proofs.nodes.Nodes.part_of.Goals as goal

-- The number that follows is that of the next sibling, or of the end.
next : {places nexts s : List ℕ} {span : Span} {q i : ℕ} → Spelled s → SpanListed places nexts span (tree_of s) → span.behind < q
    → Reached span.behind (tree_of s) i q → Reached span.behind (tree_of s) (i + 1) (get_or nexts q 0)
next z l h w = reached_next (at_most 0) _ _ (z.run (at_most 0)) _ _ w _ _ _ l.listed h

-- The part's bounds are in order, and within the bytes.
bounds : {places nexts s : List ℕ} {span : Span} {q at stop : ℕ} → Spelled s → SpanListed places nexts span (tree_of s)
    → (span.behind < q) × ((i : ℕ) × Reached span.behind (tree_of s) i q)
    → ((j : ℕ) → Reached span.behind (tree_of s) j q → at ≡ length (bytes (front j (tree_of s))))
    → ((j : ℕ) → Reached span.behind (tree_of s) j (get_or nexts q 0) → stop ≡ length (bytes (front j (tree_of s)))) → (at ≤ stop) × (stop ≤ length s)
bounds z l (h, (i, w)) e f =
    part_bounds _ z i (reached_on (at_most 0) _ _ (z.run (at_most 0)) _ _ w h) _ _ (e i w) (f (i + 1) (next z l h w))

pub offset_bounds-self-q : goal.offset_bounds-self-q
offset_bounds-self-q c = omega (arith, span_few c.requires.spelled c.requires.span_listed c.requires.behind_lt_q.1.1)

pub bounds-self-q : goal.bounds-self-q
bounds-self-q c = omega (arith, span_few c.requires.spelled c.requires.span_listed c.requires.behind_lt_q.1.1)

pub offset_of-end-requires-clause-reached : goal.offset_of-end-requires-clause-reached
offset_of-end-requires-clause-reached c =
    let r = c.requires in (_, next r.spelled r.span_listed r.behind_lt_q.0 r.behind_lt_q.1.1)

pub slice_bounds-result-count : goal.slice_bounds-result-count
slice_bounds-result-count c =
    (bounds c.requires.spelled c.requires.span_listed c.requires.behind_lt_q c.offset_of-at.ensures c.offset_of-end.ensures).0

pub slice_bounds-result-start : goal.slice_bounds-result-start
slice_bounds-result-start c =
    (bounds c.requires.spelled c.requires.span_listed c.requires.behind_lt_q c.offset_of-at.ensures c.offset_of-end.ensures).0

pub slice_bounds-result-end : goal.slice_bounds-result-end
slice_bounds-result-end c =
    (bounds c.requires.spelled c.requires.span_listed c.requires.behind_lt_q c.offset_of-at.ensures c.offset_of-end.ensures).1

pub returns : goal.returns
returns c =
    let r = c.requires in
    λ i w. place_part _ r.spelled i _ _ (c.offset_of-at.ensures i w) (c.offset_of-end.ensures (i + 1) (next r.spelled r.span_listed r.behind_lt_q.0 w))
