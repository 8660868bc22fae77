-- The answers as docs/REFUSALS.md and docs/FORMAT.md give them, in numbers: the number of a refusal and its place, both 0 on success,
-- and the values, 0 after a refusal.
use Rattle.std.specs.Prelude.{ℕ}

-- The run reader's answer: the nodes of the run, how many of them are steps, and the most groups open together.
pub record RunReading : Type 0 where
  pub refusal : ℕ
  pub place : ℕ
  pub nodes : ℕ
  pub steps : ℕ
  pub depth : ℕ

-- The fold reader's answer: the nodes and the bytes of the run, the fold's cost, and the run's steps and depth.
pub record FoldReading : Type 0 where
  pub refusal : ℕ
  pub place : ℕ
  pub nodes : ℕ
  pub length : ℕ
  pub cost : ℕ
  pub steps : ℕ
  pub depth : ℕ

-- The answer where one text is written, by the unroller and by the conversions: the length written.
pub record Written : Type 0 where
  pub refusal : ℕ
  pub place : ℕ
  pub length : ℕ

-- The folder's answer: the length written, and the fold's cost.
pub record Folded : Type 0 where
  pub refusal : ℕ
  pub place : ℕ
  pub length : ℕ
  pub cost : ℕ
