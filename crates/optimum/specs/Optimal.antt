-- The statement of the optimum: which fold of a run is the cheapest at any prices, ties by byte order. At prices that count repeats,
-- fewer repeats come before byte order (Fewest.antt).
use Rattle.std.specs.Prelude.{◌≡◌, ◌<◌}
use Rattle.format.specs.Limits.{Prices}
use Rattle.format.specs.Order.{Before}
use Rattle.format.specs.Forest.{Forest, Allowed, Sound, unroll, cost, bytes}

-- f is a fold of the run t: sound, with widths within the limit, and it unrolls to t.
pub record FoldOf (A : Allowed) (t f : Forest) : Type 0 where
  pub sound : Sound A f
  pub unrolls : unroll f ≡ t

-- f is no worse than g: cheaper, or the same, or of the same cost with earlier bytes.
pub data NoWorse (P : Prices) (f g : Forest) : Type 0 where
  cheaper : cost P f < cost P g → NoWorse P f g
  same : f ≡ g → NoWorse P f g
  earlier : cost P f ≡ cost P g → Before (bytes f) (bytes g) → NoWorse P f g

-- f is the cheapest fold of t: a fold of t, and no worse than any other.
pub record Optimal (A : Allowed) (P : Prices) (t f : Forest) : Type 0 where
  pub fold : FoldOf A t f
  pub best : (g : Forest) → FoldOf A t g → NoWorse P f g
