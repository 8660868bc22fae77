-- The steps that fold an accepted run: its table is filled, the fold is measured and written by it, and the table is cleared.
use Rattle.std.specs.Prelude.{◌≡◌, Bool, List, ◌++◌, ℕ, ◌≤◌, length, drop, replicate}
use Rattle.format.specs.Limits.{Prices, cells}
use Rattle.format.specs.Forest.{nodes, cost, form_in, Allowed}
use Rattle.format.specs.Tree.{tree_of}
use Rattle.format.specs.Numbers.{Folded}
use Rattle.optimum.specs.Verdict.{room_answer, room_output}
use Rattle.optimum.specs.Fewest.{counting, preferred}
use Rattle.table.specs.Keys.{factor}
use Rattle.table.specs.Listing.{Spelled}
use Rattle.table.specs.Used.{UsedFilled}

-- An accepted run of n nodes, and work that has room for all its stretches.
pub record RunReady (run : List ℕ) (n : ℕ) (costs choices : List ℕ) : Type 0 where
  pub spelled : Spelled run
  pub all : nodes (tree_of run) ≡ n
  pub few : n ≤ 1024
  pub cost_room : cells n ≤ length costs
  pub choice_room : cells n ≤ length choices

-- Its table is filled: it has the stretches that a fold can use, at prices that count repeats.
pub record RunFilled (run : List ℕ) (n : ℕ) (A : Allowed) (P : Prices) (costs choices : List ℕ) : Type 0 where
  pub ready : RunReady run n costs choices
  pub filled : UsedFilled A (counting factor P) 0 (tree_of run) costs choices

-- The preferred fold is written, in a family, where there is room, for whatever repeats and prices the table was filled.
pub record RunWritten (short : Bool) (run : List ℕ) (n : ℕ) (costs choices out out' : List ℕ) (r : Folded) : Type 0 where
  pub answered : (A : Allowed) (P : Prices) → RunFilled run n A P costs choices
      → r ≡ room_answer (length out) (form_in short (preferred A P (tree_of run))) (cost P (preferred A P (tree_of run)))
  pub written : (A : Allowed) (P : Prices) → RunFilled run n A P costs choices
      → out' ≡ room_output (form_in short (preferred A P (tree_of run))) out

-- An accepted run of n nodes is folded, in a family: the answer, the output and both work slices, with room enough in these.
pub record RunFolded (short : Bool) (run : List ℕ) (n : ℕ) (A : Allowed) (P : Prices) (costs costs' choices choices' out out' : List ℕ) (r : Folded) : Type 0 where
  pub answered : r ≡ room_answer (length out) (form_in short (preferred A P (tree_of run))) (cost P (preferred A P (tree_of run)))
  pub written : out' ≡ room_output (form_in short (preferred A P (tree_of run))) out
  pub costs_cleared : costs' ≡ replicate (cells n) 0 ++ drop (cells n) costs
  pub choices_cleared : choices' ≡ replicate (cells n) 0 ++ drop (cells n) choices
