-- The numbers of the triangular table's entries: each interval below n has one of its own, among the first `cells n`.
use mathlib.Core.Path.{◌≡◌}
use Prim.Native.Nat.{ℕ, suc, ◌+◌, ◌-◌, ◌*◌, ◌<◌, ◌≤◌}
use native.Mathlib.Nat.{mul-add, suc-mul, mul_comm, mul-le-mul}
use native.Mathlib.Numerals.{add-one}
use native.Mathlib.Decide.{dec_lt}
use native.Mathlib.Omega.{arith}
use Rattle.format.specs.Limits.{cells}
use Rattle.table.specs.Table.{cell}

-- The intervals that end at the last of n + 1 nodes are n + 1, and their entries follow all others.
pub cells_next : (n : ℕ) → cells (n + 1) ≡ cells n + (n + 1)
cells_next n =
    let e : (n + 1) * (n + 1 + 1) ≡ n * (n + 1) + 2 * (n + 1) =
    rw (add-one n, suc-mul n (suc n + 1), mul-add n (suc n) 1) (omega arith) in
    omega arith

pub cell_cells : (p q : ℕ) → 0 < q → cell p q ≡ cells (q - 1) + p
cell_cells p q h =
    let e : q - 1 + 1 ≡ q = omega arith in
    rw (e, mul_comm q (q - 1))

pub cells_mono : (m n : ℕ) → m ≤ n → cells m ≤ cells n
cells_mono m n h =
    let e : m * (m + 1) ≤ n * (n + 1) = mul-le-mul h (omega arith) in
    omega arith

-- So entries go by where their intervals end, and no two intervals share one.
pub cell_below : (p q : ℕ) → p < q → cell p q < cells q
cell_below p q h =
    let e : q - 1 + 1 ≡ q = omega arith in
    omega (arith, rw e at (cells_next (q - 1)), mul_comm q (q - 1))

pub cell_in : (p q n : ℕ) → p < q → q ≤ n → cell p q < cells n
cell_in p q n h l = omega (arith, cell_below p q h, cells_mono q n l)

cell_later : (p q p' q' : ℕ) → p < q → p' < q' → q < q' → cell p q < cell p' q'
cell_later p q p' q' h h' l =
    omega (arith, cell_in p q (q' - 1) h (omega arith), cell_cells p' q' (omega arith))

pub cell_same : (p q p' q' : ℕ) → p < q → p' < q' → cell p q ≡ cell p' q' → (p ≡ p') × (q ≡ q')
cell_same p q p' q' h h' e = by_order (dec_lt q q') (dec_lt q' q)
  where
    by_order : Dec (q < q') → Dec (q' < q) → (p ≡ p') × (q ≡ q')
    by_order (yes l) d = absurd (omega (arith, cell_later p q p' q' h h' l))
    by_order (no l) (yes m) = absurd (omega (arith, cell_later p' q' p q h' h m))
    by_order (no l) (no m) =
        let z : q ≡ q' = omega arith in
        let f : cell p q ≡ cell p' q = rw z (rw z at e) in
        (omega arith, z)
