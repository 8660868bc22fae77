-- The steps that fold an accepted season run: its blocks are filled, the fold is measured and written by them, and they are
-- cleared.
use Rattle.std.specs.Prelude.{◌≡◌, List, ◌++◌, ℕ, ◌≤◌, length, drop, replicate}
use Rattle.format.specs.Limits.{Prices, allowed}
use Rattle.format.specs.Forest.{cost, bytes, Allowed}
use Rattle.format.specs.Tree.{tree_of}
use Rattle.format.specs.Numbers.{Folded}
use Rattle.optimum.specs.Fewest.{counting, preferred}
use Rattle.optimum.specs.Verdict.{room_answer, room_output}
use Rattle.blocks.specs.Keys.{factor}
use Rattle.blocks.specs.Solved.{SolvedFrom, Modest}
use Rattle.tails.specs.declared.rates.Rates.{Rates}
use Rattle.tails.specs.Solving.{FlatRun, PricesAre}
use Rattle.season.specs.Folding.{work_entries}

-- The blocks of an accepted run of n steps are solved, at prices that count repeats.
pub record RunFilled (run : List ℕ) (n : ℕ) (A : Allowed) (P : Prices) (work : List ℕ) : Type 0 where
  pub flat : FlatRun run n
  pub modest : Modest A (counting factor P) (tree_of run)
  pub solved : SolvedFrom A (counting factor P) (tree_of run) work 0
  pub room : work_entries n ≤ length work

-- The preferred fold is written where there is room, for whatever repeats and prices the blocks were filled.
pub record RunWritten (run : List ℕ) (n : ℕ) (work out out' : List ℕ) (r : Folded) : Type 0 where
  pub answered : (A : Allowed) (P : Prices) → RunFilled run n A P work
      → r ≡ room_answer (length out) (bytes (preferred A P (tree_of run))) (cost P (preferred A P (tree_of run)))
  pub written : (A : Allowed) (P : Prices) → RunFilled run n A P work → out' ≡ room_output (bytes (preferred A P (tree_of run))) out

-- An accepted run of n steps is folded: the answer, the output and the work, with room enough in this.
pub record RunFolded (run steps marks : List ℕ) (R : Rates) (limit n : ℕ) (work work' out out' : List ℕ) (r : Folded) : Type 0 where
  pub answered : (P : Prices) → PricesAre steps R (counting factor P)
      → (let f = preferred (allowed limit marks) P (tree_of run) in r ≡ room_answer (length out) (bytes f) (cost P f))
  pub written : (P : Prices) → PricesAre steps R (counting factor P) → out' ≡ room_output (bytes (preferred (allowed limit marks) P (tree_of run))) out
  pub cleared : work' ≡ replicate (work_entries n) 0 ++ drop (work_entries n) work
