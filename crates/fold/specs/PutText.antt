-- What the functions that write text promise.
use Rattle.std.specs.Prelude.{◌≡◌, List, ℕ, ◌+◌, ◌≤◌, length}
use Rattle.std.proofs.lemmas.List.Edits.{sets}

-- The whole text stands in the output from a place on, all else is as it was, and r is the place behind it.
pub record PutText (before after : List ℕ) (at : ℕ) (text : List ℕ) (r : ℕ) : Type 0 where
  pub reached : r ≡ at + length text
  pub within : r ≤ length before
  pub written : after ≡ sets before at text
