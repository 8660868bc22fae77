-- What the writer's functions rest on and promise: the bytes of the cheapest fold and their length, by the choices in the table.
use Rattle.std.specs.Prelude.{◌≡◌, List, ◌++◌, ℕ, zero, suc, ◌+◌, ◌<◌, ◌≤◌, length, get_or, drop}
use Rattle.std.proofs.lemmas.List.Edits.{sets}
use Rattle.format.specs.Limits.{Prices, cells}
use Rattle.format.specs.Forest.{Forest, Allowed, nodes, form_in, bytes}
use Rattle.optimum.specs.Cheapest.{Run, front, cheapest}
use Rattle.table.specs.Used.{UsedFilled}
use Rattle.table.specs.Nodes.{NodesListed}
use Rattle.writer.specs.declared.Source.{Source}
use Rattle.put.specs.Bounds.{most_bytes}
use Rattle.put.specs.Written.{Written}

-- All that the length and the bytes of the cheapest fold of a sequence, in a family, rest on: the sequence stands in the run, its
-- nodes are listed by their numbers, from `first` down to `behind`, and the table has the stretches of it that a fold can use.
pub record WriteReady (source : Source) (first behind : ℕ) : Type 0 where
  pub tree : Forest
  pub is_run : (A : Allowed) → Run A tree
  pub place : ℕ
  pub rest : List ℕ
  pub stands : drop place source.run.now ≡ bytes tree ++ rest
  pub listed : NodesListed source.nodes.now.places source.nodes.now.nexts place behind tree
  pub counted : first ≡ behind + nodes tree
  pub total : first ≤ 1024
  pub room : cells first ≤ length source.choices.now
  pub allowed : Allowed
  pub prices_are : Prices
  pub costs : List ℕ
  pub filled : UsedFilled allowed prices_are behind tree costs source.choices.now

-- The same for the first node of a sequence, by itself.
pub record NodeReady (source : Source) (q : ℕ) : Type 0 where
  pub behind : ℕ
  pub ready : WriteReady source q behind
  pub some : behind < q

-- The bytes of the cheapest fold of a sequence, and of its first node.
abbrev pub fold_bytes : {source : Source} {first behind : ℕ} → WriteReady source first behind → List ℕ
fold_bytes {source} z = form_in source.short (cheapest z.allowed z.prices_are z.tree)

abbrev pub node_bytes : {source : Source} {q : ℕ} → NodeReady source q → List ℕ
node_bytes {source} z = form_in source.short (cheapest z.ready.allowed z.ready.prices_are (front 1 z.ready.tree))

-- A sequence, or a node, whose fold ends at such a place when it begins at `to`.
pub record SpanFits (source : Source) (first behind to : ℕ) : Type 0 where
  pub ready : WriteReady source first behind
  pub fits : to + length (fold_bytes ready) ≤ most_bytes

pub record NodeFits (source : Source) (q to : ℕ) : Type 0 where
  pub ready : NodeReady source q
  pub fits : to + length (node_bytes ready) ≤ most_bytes

-- A length is that of the cheapest fold, for whatever sequence, tables and prices the choices were made.
pub record FoldLength (source : Source) (first behind r : ℕ) : Type 0 where
  pub is_length : (z : WriteReady source first behind) → r ≡ length (fold_bytes z)

-- It is written at the front, as far as there is room, and nothing else; the answer is its length.
pub record FoldWritten (source : Source) (first behind : ℕ) (before after : List ℕ) (r : ℕ) : Type 0 where
  pub is_length : (z : WriteReady source first behind) → r ≡ length (fold_bytes z)
  pub written : (z : WriteReady source first behind) → after ≡ sets before 0 (fold_bytes z)

abbrev pub SpanWritten : (source : Source) (first behind to : ℕ) (before after : List ℕ) (r : ℕ) → Type 0
SpanWritten source first behind = Written (λ (z : WriteReady source first behind). fold_bytes z)

abbrev pub NodeWritten : (source : Source) (q to : ℕ) (before after : List ℕ) (r : ℕ) → Type 0
NodeWritten source q = Written (λ (z : NodeReady source q). node_bytes z)

-- The number that is reached from q by going to the next one k times.
unfoldable pub follow : (nexts : List ℕ) (q k : ℕ) → ℕ
follow nexts q zero = q
follow nexts q (suc k) = follow nexts (get_or nexts q 0) k

-- Each of these numbers but the last has a next one in a list of the nodes.
pub record Follows (nexts : List ℕ) (q k : ℕ) : Type 0 where
  pub within : (i : ℕ) → i < k → follow nexts q i ≤ 1024
