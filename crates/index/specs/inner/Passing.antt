-- What the inner functions promise: they walk over the byte form of a tree and count its nodes, and search the index.
use Rattle.std.specs.Prelude.{◌≡◌, List, ◌≢◌, ℕ, suc, ◌+◌, ◌≤◌, ◌<◌, length, get_or}
use Rattle.format.specs.Limits.{limits}
use Rattle.format.specs.Forest.{Forest, Allowed, Sound, nodes, bytes}
use Rattle.format.specs.Tree.{tree_of}
use Rattle.format.specs.inner.Standing.{SequenceAt, ItemAt}
use Rattle.index.specs.declared.pass.Spot.{Spot}

-- At a spot stands the sequence f, and with its nodes the count passes no limit.
pub record SequenceFrom (s : List ℕ) (w : Spot) (f : Forest) : Type 0 where
  pub stands : SequenceAt s w.at f
  pub few : w.nodes + nodes f ≤ limits.nodes

-- At a spot stands the item f, and with its nodes the count passes no limit.
pub record ItemFrom (s : List ℕ) (w : Spot) (f : Forest) : Type 0 where
  pub stands : ItemAt s w.at f
  pub few : w.nodes + nodes f ≤ limits.nodes

-- The item at a spot is a group or a repeat.
pub record HolderFrom (s : List ℕ) (w : Spot) (f : Forest) : Type 0 where
  pub item : ItemFrom s w f
  pub no_step : get_or s w.at 0 ≢ 0x10

-- At offset p stands the item f, and its run has a node at the position.
pub record NodeIn (s : List ℕ) (p position : ℕ) (f : Forest) : Type 0 where
  pub stands : ItemAt s p f
  pub below : position < nodes f
  pub few : nodes f ≤ limits.nodes

-- From w to r the walk passed over f and counted its nodes.
pub record PassedOver (w : Spot) (f : Forest) (r : Spot) : Type 0 where
  pub passed : r.at ≡ w.at + length (bytes f)
  pub counted : r.nodes ≡ w.nodes + nodes f

-- Bytes that were read before and not refused: they are the byte form of their tree, within the limit of nodes.
pub record WasRead (s : List ℕ) : Type 0 where
  pub form : bytes (tree_of s) ≡ s
  pub allowed : Allowed
  pub sound : Sound allowed (tree_of s)
  pub few : nodes (tree_of s) ≤ limits.nodes

-- Entry i is the last of ascending entries that is not above n: it is not, and the one behind it is.
pub record LastUpTo (entries : List ℕ) (n i : ℕ) : Type 0 where
  pub there : i < length entries
  pub reached : get_or entries i 0 ≤ n
  pub next_above : suc i < length entries → n < get_or entries (suc i) 0
