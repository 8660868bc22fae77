-- What the inner functions of the unroller promise: they walk over the byte form of a tree and write the bytes that it
-- unrolls to.
use Rattle.std.specs.Prelude.{◌≡◌, List, ℕ, ◌+◌, ◌≤◌, length}
use Rattle.std.proofs.lemmas.List.Edits.{sets}
use Rattle.format.specs.Forest.{Forest, bytes, unroll}
use Rattle.format.specs.inner.Standing.{SequenceAt, ItemAt}
use Rattle.unroller.specs.declared.write.Place.{Place}

-- At a place stands the sequence f, and what it unrolls to has room in an output of that many bytes.
pub record SequenceFrom (s : List ℕ) (room : ℕ) (w : Place) (f : Forest) : Type 0 where
  pub stands : SequenceAt s w.at f
  pub fits : w.to + length (bytes (unroll f)) ≤ room

-- At a place stands the item f, and what it unrolls to has room.
pub record ItemFrom (s : List ℕ) (room : ℕ) (w : Place) (f : Forest) : Type 0 where
  pub stands : ItemAt s w.at f
  pub fits : w.to + length (bytes (unroll f)) ≤ room

-- From w to r the walk passed over f and wrote what it unrolls to, and nothing else.
pub record PassedOver (before after : List ℕ) (w : Place) (f : Forest) (r : Place) : Type 0 where
  pub passed : r.at ≡ w.at + length (bytes f)
  pub reached : r.to ≡ w.to + length (bytes (unroll f))
  pub output : after ≡ sets before w.to (bytes (unroll f))
