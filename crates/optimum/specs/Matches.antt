-- How far a run equals itself some siblings further on: the copies of its beginning are found by this.
use Rattle.std.specs.Prelude.{Bool, ℕ, ◌+◌, ◌<◌, ◌≤◌}
use Rattle.format.specs.Forest.{Forest, siblings}
use Rattle.optimum.specs.Cheapest.{front, back, node, FreeCopy}

-- k siblings from the first on equal the one w further and hold no marked label, and no more.
pub record Matched (marked : ℕ → Bool) (T : Forest) (w k : ℕ) : Type 0 where
  pub shift : FreeCopy marked (front k T) (front k (back w T))
  pub bound : k + w ≤ siblings T
  pub stop : k + w < siblings T → FreeCopy marked (node k T) (node (k + w) T) → ⊥
