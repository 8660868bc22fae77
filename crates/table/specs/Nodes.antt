-- The nodes of a run, listed by their numbers: where each stands in the run's bytes, and which number comes next at its level.
use Rattle.std.specs.Prelude.{◌≡◌, List, [], ◌∷◌, ◌++◌, ℕ, ◌+◌, ◌<◌, ◌≤◌, length, get_or, drop}
use Rattle.format.specs.Forest.{Forest, end, step, group, repeat, Plain, siblings, nodes, bytes}
use Rattle.table.specs.Table.{number}
use Rattle.table.specs.declared.nodes.Spot.{Spot}
use Rattle.table.specs.declared.nodes.Span.{Span}

-- The first node of a sequence, listed at the number q: it stands at the offset `at`, and the number of its next sibling is `next`,
-- or that is the end of its sequence.
abbrev pub ListedAt : (places nexts : List ℕ) (q at next : ℕ) → Type 0
ListedAt places nexts q at next = (get_or places q 0 ≡ at) × (get_or nexts q 0 ≡ next)

-- All nodes of the sequence t, which stands at the offset `at` and behind which b nodes of the run follow, and of the sequences inside
-- its groups.
abbrev pub NodesListed : (places nexts : List ℕ) (at b : ℕ) → Forest → Type 0
NodesListed places nexts at b end = Unit
NodesListed places nexts at b (step l f) = ListedAt places nexts (b + (1 + nodes f)) at (b + nodes f) × NodesListed places nexts (at + 2) b f
NodesListed places nexts at b (group l g f) =
    ListedAt places nexts (b + (1 + nodes g + nodes f)) at (b + nodes f)
    × NodesListed places nexts (at + 2) (b + nodes f) g
    × NodesListed places nexts (at + 3 + length (bytes g)) b f
NodesListed places nexts at b (repeat h w g f) = Unit

-- The sequence t, listed, as a span of the run.
pub record SpanListed (places nexts : List ℕ) (span : Span) (t : Forest) : Type 0 where
  pub listed : NodesListed places nexts span.start span.behind t
  pub numbered : span.first ≡ span.behind + nodes t
  pub few : span.first ≤ 1024

-- Sibling i of the sequence t has the number q, or the sequence ends there.
pub record Reached (b : ℕ) (t : Forest) (i q : ℕ) : Type 0 where
  pub few : i ≤ siblings t
  pub numbered : q ≡ number b t i

-- Where a sequence of a run ends: at the end of the run, or at the close of its group.
abbrev pub Closed : List ℕ → Type 0
Closed [] = Unit
Closed (c ∷ s) = c ≡ 0x12

-- At a spot of the run stands the sequence t, behind which b nodes of the run follow.
pub record SequenceAt (run : List ℕ) (w : Spot) (b : ℕ) (t : Forest) : Type 0 where
  pub rest : List ℕ
  pub form : drop w.at run ≡ bytes t ++ rest
  pub closed : Closed rest
  pub plain : Plain t
  pub numbered : w.number ≡ b + nodes t

-- Only the entries of numbers above b, up to q, have changed.
pub record ChangedWithin (b q : ℕ) (before after : List ℕ) : Type 0 where
  pub same_length : length after ≡ length before
  pub others : (x : ℕ) → (b < x → x ≤ q → ⊥) → get_or after x 0 ≡ get_or before x 0

-- From the spot w to the spot r the sequence t was listed, and nothing else.
pub record ListedOver (places₀ nexts₀ places nexts : List ℕ) (w : Spot) (b : ℕ) (t : Forest) (r : Spot) : Type 0 where
  pub passed : r.at ≡ w.at + length (bytes t)
  pub reached : r.number ≡ b
  pub listed : NodesListed places nexts w.at b t
  pub kept_places : ChangedWithin b w.number places₀ places
  pub kept_nexts : ChangedWithin b w.number nexts₀ nexts
