-- The nodes of a sequence that are listed by their numbers: those of its first siblings, and the number that following them reaches.
use mathlib.Core.Path.{◌≡◌}
use mathlib.Core.List.{List}
use Prim.Native.Nat.{ℕ, zero, suc, ◌+◌, ◌≤◌}
use native.Mathlib.Omega.{arith}
use Rattle.format.specs.Forest.{Forest, siblings, nodes, Allowed}
use Rattle.optimum.specs.Cheapest.{Run, front, back}
use Rattle.optimum.proofs.Cut.{join_cut, run_front}
use Rattle.table.specs.Table.{number}
use Rattle.table.specs.Nodes.{NodesListed}
use Rattle.table.proofs.ByNumber.{listed_parts, listed_next}
use Rattle.table.proofs.Tables.{number_within}
use Rattle.writer.specs.Writing.{Follows, follow}

module _ (places nexts : List ℕ) (A : Allowed) (at b : ℕ) (t : Forest) (r : Run A t) (l : NodesListed places nexts at b t) where
  pub listed_front : (i : ℕ) → NodesListed places nexts at (number b t i) (front i t)
  listed_front i = (listed_parts places nexts (front i t) (back i t) at b (run_front i r).plain (rw join_cut l)).0

  -- The sibling that is k further on than sibling i.
  pub listed_follow : (k i : ℕ) → i + k ≤ siblings t → follow nexts (number b t i) k ≡ number b t (i + k)
  unfolding follow
  listed_follow zero i h = let e : i + 0 ≡ i = omega arith in rw e
  listed_follow (suc k) i h =
      let e : i + 1 + k ≡ i + suc k = omega arith in
      rw (listed_next places nexts A at b t r l i (omega arith)) (rw e at (listed_follow k (i + 1) (omega arith)))

  pub listed_follows : (k i : ℕ) → i + k ≤ siblings t → b + nodes t ≤ 1024 → Follows nexts (number b t i) k
  listed_follows k i h m =
      record { within = λ j n. omega (arith, listed_follow j i (omega arith), number_within b (i + j) t) }
