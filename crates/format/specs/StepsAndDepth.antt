-- What is said of steps and depth: what they can be, and that a fold is read as a run is.
use Rattle.std.specs.Prelude.{◌≡◌, List, ◌↔◌, ℕ, ◌≤◌, length}
use Rattle.format.specs.Machine.{Rules}
use Rattle.format.specs.Readings.{run_reading}
use Rattle.format.specs.declared.tally.Tally.{Tally}
use Rattle.format.specs.Numbers.{FoldReading}

-- The counts have no more steps than nodes and no greater depth than groups may be open; and the depth is 0 exactly where every
-- node is a step.
pub record StepsAndDepth (R : Rules) (t : Tally) : Type 0 where
  pub few : t.steps ≤ t.nodes
  pub shallow : t.depth ≤ R.limits.groups
  pub flat : (t.depth ≡ 0) ↔ (t.steps ≡ t.nodes)

-- The fold reader's answer is success, and so is the run reader's about the run; both have the same nodes, steps and depth, and
-- the length is the run's.
pub record Alike (fold : FoldReading) (run : List ℕ) : Type 0 where
  pub success : fold.refusal ≡ 0
  pub no_place : fold.place ≡ 0
  pub accepted : (run_reading run).refusal ≡ 0
  pub nodes : fold.nodes ≡ (run_reading run).nodes
  pub bytes : fold.length ≡ length run
  pub steps : fold.steps ≡ (run_reading run).steps
  pub depth : fold.depth ≡ (run_reading run).depth
