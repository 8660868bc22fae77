-- The answers as docs/REFUSALS.md and docs/FORMAT.md give them, in numbers: the number of a refusal and its place, both 0 on success,
-- and the values, 0 after a refusal.
use Rattle.std.specs.Prelude.{ℕ}

-- The builder's answer: the number of entries.
pub record Indexed : Type 0 where
  pub refusal : ℕ
  pub place : ℕ
  pub entries : ℕ

-- The finder's answer: the node's label and command, and where in the fold that command stands.
pub record Found : Type 0 where
  pub refusal : ℕ
  pub place : ℕ
  pub label : ℕ
  pub command : ℕ
  pub offset : ℕ
