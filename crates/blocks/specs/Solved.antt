-- What the blocks hold once they are solved: the keys of the cheapest folds of stretches and tails, and the best count at each
-- width. The prices count repeats, so that every cost is cost and repeats, combined.
use Rattle.std.specs.Prelude.{◌≡◌, List, ℕ, ◌+◌, ◌-◌, ◌*◌, ◌<◌, ◌≤◌}
use Rattle.format.specs.Limits.{Prices}
use Rattle.format.specs.Forest.{Forest, end, step, group, repeat, Allowed, siblings}
use Rattle.optimum.specs.Cheapest.{front, back, Power, Least, best_cost}
use Rattle.blocks.specs.Keys.{bases, factor, packed, slot, tail_slot, count_slot, both_in, pair_in}

-- A flat run: steps alone.
abbrev pub Flat : Forest → Type 0
Flat end = Unit
Flat (step l f) = Flat f
Flat (group l b f) = ⊥
Flat (repeat h w b f) = ⊥

-- A key is that of the cheapest fold of t: its cost, and the pair of its first item.
pub record Best (A : Allowed) (P : Prices) (t : Forest) (both pair : ℕ) : Type 0 where
  pub count : ℕ
  pub width : ℕ
  pub least : Least A P bases (best_cost A P) t count width
  pub is_cost : both ≡ best_cost A P t
  pub is_pair : pair ≡ packed count width

-- What h copies of width w from step i on cost beyond the first two and their body, with the tail behind them.
abbrev pub behind : Allowed → Prices → Forest → (i w h : ℕ) → ℕ
behind A P t i w h = P.each * (h - 2) + best_cost A P (back (i + h * w) t)

-- A key is that of the best count at width w from step i on: by what is behind, and of several by the smallest.
pub record BestCount (A : Allowed) (P : Prices) (t : Forest) (i w both pair : ℕ) : Type 0 where
  pub count : ℕ
  pub power : Power A (back i t) count w
  pub is_cost : both ≡ behind A P t i w count
  pub is_pair : pair ≡ packed count w
  pub least : (h : ℕ) → Power A (back i t) h w → both * factor + count ≤ behind A P t i w h * factor + h

-- The block of step i is solved: its stretches within the limit, the tail, and the best count at each width of which there are two
-- copies.
pub record Solved (A : Allowed) (P : Prices) (t : Forest) (W : List ℕ) (i : ℕ) : Type 0 where
  pub stretch : (d : ℕ) → d ≤ A.widest → i + d ≤ siblings t
      → Best A P (front d (back i t)) (both_in W (slot i d)) (pair_in W (slot i d))
  pub tail : Best A P (back i t) (both_in W (slot i tail_slot)) (pair_in W (slot i tail_slot))
  pub counts : (w : ℕ) → Power A (back i t) 2 w
      → BestCount A P t i w (both_in W (slot i (count_slot w))) (pair_in W (slot i (count_slot w)))

-- The blocks from step i on are solved, that of the end too.
abbrev pub SolvedFrom : Allowed → Prices → Forest → List ℕ → (i : ℕ) → Type 0
SolvedFrom A P t W i = (j : ℕ) → i ≤ j → j ≤ siblings t → Solved A P t W j

-- A flat run of at most 65,535 steps at prices of 16 bits that count repeats, and widths of at most 32.
pub record Modest (A : Allowed) (P : Prices) (t : Forest) : Type 0 where
  pub flat : Flat t
  pub few : siblings t < 65536
  pub narrow : A.widest ≤ 32
  pub low : (l : ℕ) → P.of_step l ≤ 65535 * factor
