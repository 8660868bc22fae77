-- Pieces of one level, the n siblings of t from sibling i on: the laws for a table that has a cell for each of them.
use mathlib.Core.Path.{◌≡◌, refl, ◌∙◌}
use Prim.Native.Nat.{ℕ, ◌+◌, ◌-◌, ◌*◌, ◌≤◌, ◌<◌}
use native.Mathlib.Omega.{arith}
use Rattle.format.specs.Limits.{Prices, of_repeat}
use Rattle.format.specs.Forest.{Forest, siblings, Allowed}
use Rattle.optimum.specs.Cheapest.{Run, front, back, node, Power, price, Bases, rank, Least, best_cost}
use Rattle.optimum.proofs.Cut.{front_front, back_back, back_piece, run_front, run_back, siblings_piece}
use Rattle.optimum.proofs.Powers.{node_front, node_back, power_of_front}
use Rattle.optimum.proofs.Least.{price_piece}
use Rattle.optimum.proofs.Cheapest.{best_cost_end, price_plain}
use Rattle.optimum.proofs.Cover.{Bound}

-- The prices at a piece: of its first sibling and the rest, and of a repeat and the rest.
pub plain_at : (A : Allowed) (P : Prices) (t : Forest) (i j m n : ℕ) → Run A t → i + 1 ≡ j → 1 + m ≡ n
    → price P (best_cost A P) (front n (back i t)) 0 0 ≡ best_cost A P (node i t) + best_cost A P (front m (back j t))
plain_at A P t i j m n r d e =
    let one : node 0 (front n (back i t)) ≡ node i t = node_front 0 n (back i t) (omega arith) ∙ node_back i 0 i t (omega arith) in
    price_plain A P (front n (back i t)) (run_front n (run_back i r)) ∙ rw (one, back_piece i j 1 m n t d e)

pub power_at : (A : Allowed) (P : Prices) (t : Forest) (i j m n h w : ℕ) → Power A (back i t) h w → i + h * w ≡ j → h * w + m ≡ n
    → price P (best_cost A P) (front n (back i t)) h w
    ≡ of_repeat P h + best_cost A P (front w (back i t)) + best_cost A P (front m (back j t))
power_at A P t i j m n h w p d e =
    price_piece P (best_cost A P) (back i t) h w m n p e ∙ rw (back_back i (h * w) j t d)

-- A bound by what the table holds of shorter pieces.
pub record BoundAt (A : Allowed) (P : Prices) (B : Bases) (t : Forest) (i n k : ℕ) : Type 0 where
  pub plain : (j m : ℕ) → i + 1 ≡ j → 1 + m ≡ n → k ≤ rank B (best_cost A P (node i t) + best_cost A P (front m (back j t))) 0 0
  pub whole : (h w : ℕ) → Power A (back i t) h w → h * w ≡ n → k ≤ rank B (of_repeat P h + best_cost A P (front w (back i t))) h w
  pub first : (j c m h w : ℕ) → i + c ≡ j → c + m ≡ n → 0 < c → 0 < m → h * w ≡ c → Least A P B (best_cost A P) (front c (back i t)) h w
      → Least A P B (best_cost A P) (front n (back i t)) h w → k ≤ rank B (best_cost A P (front c (back i t)) + best_cost A P (front m (back j t))) h w

pub bound_at : (A : Allowed) (P : Prices) (B : Bases) (t : Forest) (i n k : ℕ) → Run A t → i + n ≤ siblings t → 0 < n
    → BoundAt A P B t i n k → Bound A P B (front n (back i t)) k
unfolding front
bound_at A P B t i n k r f pos b =
    let size = siblings_piece i n r f in
    record {
      plain = rw (plain_at A P t i (i + 1) (n - 1) n r refl (omega arith)) (b.plain (i + 1) (n - 1) refl (omega arith));
      whole = λ h w p e.
          let q = power_of_front n (run_back i r).plain p in
          let z : h * w + 0 ≡ n = omega arith in
          let v : price P (best_cost A P) (front n (back i t)) h w ≡ of_repeat P h + best_cost A P (front w (back i t)) =
          omega (arith, power_at A P t i (i + h * w) 0 n h w q refl z, best_cost_end A P) in
          rw v (b.whole h w q (omega arith));
      first = λ c m h w e q p d l whole.
          let z : c + m ≡ n = e ∙ size in
          let v = front_front c m n (back i t) z in
          rw (v, back_piece i (i + c) c m n t refl z) (b.first (i + c) c m h w refl z q p d (rw v at l) whole);
    }
