-- The number of repeats, which decides between folds of the same cost: how it is counted, the order that it is part of, and the
-- fold that comes first.
use Rattle.std.specs.Prelude.{◌≡◌, cond, List, [], ◌∷◌, ℕ, zero, suc, ◌+◌, ◌*◌, ◌<◌, eqb}
use Rattle.format.specs.Limits.{Prices}
use Rattle.format.specs.Order.{Before}
use Rattle.format.specs.Forest.{Forest, end, step, group, repeat, nodes, cost, bytes, Allowed}
use Rattle.format.specs.Machine.{operands}
use Rattle.optimum.specs.Optimal.{FoldOf}
use Rattle.optimum.specs.Cheapest.{cheapest}

-- The `20` commands among the commands of some bytes, `skip` operand bytes to pass over first. Each counts once, however often
-- its body is written, and those inside groups and bodies count too.
unfoldable pub repeats_from : List ℕ → (skip : ℕ) → ℕ
repeats_from [] k = 0
repeats_from (c ∷ s) zero = cond (eqb c 0x20) 1 0 + repeats_from s (operands c)
repeats_from (c ∷ s) (suc k) = repeats_from s k

unfoldable pub repeats_in : List ℕ → ℕ
unfolding repeats_from
repeats_in s = repeats_from s 0

-- Of two folds of the same cost f comes first: it has fewer `20` commands, or as many and bytes that come earlier.
pub data ComesFirst (f g : List ℕ) : Type 0 where
  fewer : repeats_in f < repeats_in g → ComesFirst f g
  as_many : repeats_in f ≡ repeats_in g → Before f g → ComesFirst f g

-- The number of repeats of a tree, and the same order with the cost before it: f leads g where it is cheaper, or the same, or of the
-- same cost with fewer repeats, or with as many and earlier bytes.
unfoldable pub repeats_of : Forest → ℕ
repeats_of end = 0
repeats_of (step l f) = repeats_of f
repeats_of (group l b f) = repeats_of b + repeats_of f
repeats_of (repeat h w b f) = 1 + repeats_of b + repeats_of f

pub data Leads (P : Prices) (f g : Forest) : Type 0 where
  by_cost : cost P f < cost P g → Leads P f g
  by_repeats : cost P f ≡ cost P g → repeats_of f < repeats_of g → Leads P f g
  itself : f ≡ g → Leads P f g
  by_bytes : cost P f ≡ cost P g → repeats_of f ≡ repeats_of g → Before (bytes f) (bytes g) → Leads P f g

-- f is the preferred fold of t: a fold of t, and it leads every other.
pub record Preferred (A : Allowed) (P : Prices) (t f : Forest) : Type 0 where
  pub fold : FoldOf A t f
  pub leads : (g : Forest) → FoldOf A t g → Leads P f g

-- Cost and repeats as one number, and the prices at which that number is the cost: every price times the factor N, and 1 more for
-- a repeat. Where N is above the repeats of every fold, the cheapest fold at these prices is the preferred one.
abbrev pub combined : (N cost repeats : ℕ) → ℕ
combined N c r = c * N + r

abbrev pub counting : ℕ → Prices → Prices
counting N P =
    record {
      of_step = λ l. P.of_step l * N;
      of_group = λ l. P.of_group l * N;
      first = combined N P.first 1;
      each = P.each * N;
    }

-- The preferred fold: the cheapest one at prices that count repeats. One more than the run's nodes is factor enough, since a fold has
-- at most half as many repeats.
unfoldable pub preferred : Allowed → Prices → Forest → Forest
unfolding cheapest nodes
preferred A P t = cheapest A (counting (suc (nodes t)) P) t
