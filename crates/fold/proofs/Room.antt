-- When 5,050 entries of work are enough: for 100 nodes and no more.
use Prim.Native.Nat.{ℕ, ◌+◌, ◌≤◌, ◌<◌}
use native.Mathlib.Nat.{mul-le-mul}
use native.Mathlib.Omega.{arith}
use Rattle.format.specs.Limits.{cells}

pub enough_work : (n : ℕ) → n ≤ 100 → cells n ≤ 5050
enough_work n h = omega (arith, mul-le-mul {n₁ = n} {m₁ = n + 1} {n₂ = 100} {m₂ = 101} h (omega arith))

pub too_little_work : (n : ℕ) → 100 < n → 5050 < cells n
too_little_work n h = omega (arith, mul-le-mul {n₁ = 101} {m₁ = 102} {n₂ = n} {m₂ = n + 1} h (omega arith))
