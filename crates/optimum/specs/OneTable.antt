-- The cheapest fold where one table prices the labels of steps and groups alike: by the one-table cost, against any bytes.
use Rattle.std.specs.Prelude.{◌≡◌, List, [], ℕ, ◌≤◌}
use Rattle.format.specs.Limits.{tariff}
use Rattle.format.specs.Order.{Bytes}
use Rattle.format.specs.Forest.{widest_of}
use Rattle.format.specs.Readings.{format_rules, WellFormed}
use Rattle.format.specs.Tree.{tree_of}
use Rattle.format.specs.OneTable.{label_cost}
use Rattle.optimum.specs.Fewest.{ComesFirst}

-- The bytes g are a fold of the run within the limit, well formed under the marks whatever the prices, and this is their one-table
-- cost.
pub record FoldByLabel (run : List ℕ) (limit : ℕ) (table marks : List ℕ) (first each : ℕ) (g : List ℕ) (cost : ℕ) : Type 0 where
  pub formed : WellFormed (format_rules (tariff [] [] marks 0 0)) g
  pub unrolls : formed.text ≡ run
  pub within : widest_of (tree_of g) ≤ limit
  pub costs : label_cost table first each (tree_of g) ≡ cost

-- The bytes f are the cheapest of these: no fold of the run within the limit costs less, and every other one of that cost has
-- more `20` commands, or as many and bytes that come later.
pub record CheapestByLabel (run : List ℕ) (limit : ℕ) (table marks : List ℕ) (first each : ℕ) (f : List ℕ) (cost : ℕ) : Type 0 where
  pub fold : FoldByLabel run limit table marks first each f cost
  pub no_cheaper : (g : List ℕ) (c : ℕ) → Bytes g → FoldByLabel run limit table marks first each g c → cost ≤ c
  pub earliest : (g : List ℕ) (c : ℕ) → Bytes g → FoldByLabel run limit table marks first each g c → c ≡ cost → (g ≡ f → ⊥) → ComesFirst f g
