-- Bytes that a walk writes behind each other.
use Rattle.std.specs.Prelude.{◌≡◌, List, ℕ, ◌+◌, length}
use Rattle.std.proofs.lemmas.List.Edits.{sets}

-- The bytes that each of X has are written from the place `to` on, as far as there is room, and nothing else; the answer is the place
-- behind them.
pub record Written {X : Type 0} (of_each : X → List ℕ) (to : ℕ) (before after : List ℕ) (r : ℕ) : Type 0 where
  pub is_end : (x : X) → r ≡ to + length (of_each x)
  pub written : (x : X) → after ≡ sets before to (of_each x)
