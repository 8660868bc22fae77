-- The digits of the key of a stretch: cost and repeats, combined, and count and width of its first item.
use mathlib.Core.Path.{◌≡◌}
use Prim.Native.Nat.{ℕ, ◌<◌}
use native.Mathlib.Omega.{arith}
use Rattle.format.specs.Limits.{Prices}
use Rattle.format.specs.Forest.{Forest, Allowed}
use Rattle.optimum.specs.Cheapest.{Spans, usual, best_cost}
use Rattle.optimum.proofs.Rank.{rank_usual}
use Rattle.table.specs.Keys.{packed, key, combined_digits, pair_digits, count_digit, width_digit}
use Rattle.table.specs.Table.{BestKey}

module _ {A : Allowed} {P : Prices} {t : Forest} {k : ℕ} (b : BestKey A P t k) (s : Spans A usual t) where
  pub digits : (b.count < usual.counts) × (b.width < usual.widths) × (k ≡ key (best_cost A P t) (packed b.count b.width))
  digits = (
    s.count b.count b.width b.least.candidate,
    s.width b.count b.width b.least.candidate,
    omega (arith, b.is_rank, rank_usual (best_cost A P t) b.count b.width),
  )

  pub combined_is : combined_digits k ≡ best_cost A P t
  combined_is = let d = digits in omega arith

  pub pair_is : pair_digits k ≡ packed b.count b.width
  pair_is = let d = digits in omega arith

  pub count_is : count_digit k ≡ b.count
  count_is = let d = digits in omega arith

  pub width_is : width_digit k ≡ b.width
  width_is = let d = digits in omega arith
