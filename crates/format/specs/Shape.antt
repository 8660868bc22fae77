-- The trees whose byte forms the machine accepts, and what it then answers.
use Rattle.std.specs.Prelude.{◌≡◌, false, List, ℕ, ◌≤◌, length}
use Rattle.format.specs.Limits.{Prices}
use Rattle.format.specs.Forest.{Forest, Coded, Sound, Plain, group_depth, repeat_depth, siblings, nodes, steps, cost, form_in, bytes, unroll}
use Rattle.format.specs.Machine.{Rules}
use Rattle.format.specs.declared.tally.Tally.{Tally}

-- A tree of the right shape for these rules.
pub record Shaped (R : Rules) (f : Forest) : Type 0 where
  pub coded : Coded f
  pub sound : Sound R.allowed f
  pub plain : R.folds ≡ false → Plain f
  pub groups : group_depth f ≤ R.limits.groups
  pub repeats : repeat_depth f ≤ R.limits.repeats
  pub total : nodes f ≤ R.limits.nodes

-- The counts of a tree.
unfoldable pub tally_of : Prices → Forest → Tally
tally_of P f =
    record {
      siblings = siblings f;
      nodes = nodes f;
      size = length (bytes (unroll f));
      cost = cost P f;
      steps = steps f;
      depth = group_depth f;
    }

-- A byte list that reads as a tree: it is the byte form, in the rules' family, of one of the right shape, with these counts and
-- this text.
pub record Reads (R : Rules) (s : List ℕ) (t : Tally) (x : List ℕ) : Type 0 where
  pub tree : Forest
  pub form : form_in R.short tree ≡ s
  pub shape : Shaped R tree
  pub counts : tally_of R.prices tree ≡ t
  pub text : bytes (unroll tree) ≡ x
