-- Which repeats need be looked at: those that cover the whole run, and those that are the optimal fold of what they cover.
use mathlib.Core.Path.{◌≡◌, refl, sym, ap, ◌∙◌}
use Prim.Native.Nat.{ℕ, ◌+◌, ◌-◌, ◌*◌, ◌≤◌, ◌<◌}
use native.Mathlib.Decide.{ℕ_discrete}
use native.Mathlib.Omega.{arith}
use Rattle.format.specs.Limits.{Prices}
use Rattle.format.specs.Forest.{Forest, end, step, group, repeat, join, copies, unroll, siblings, Allowed}
use Rattle.format.proofs.Forests.{join_end}
use Rattle.optimum.specs.Optimal.{Optimal}
use Rattle.optimum.specs.Cheapest.{Run, front, back, Power, Candidate, price, Bases, rank, Spans, Least, cheapest, best_cost}
use Rattle.optimum.proofs.Cut.{run_front}
use Rattle.optimum.proofs.Pieces.{pieces}
use Rattle.optimum.proofs.Powers.{reach, spans_front}
use Rattle.optimum.proofs.Items.{count_of, width_of, parts}
use Rattle.optimum.proofs.Least.{price_power, price_piece}
use Rattle.optimum.proofs.Cheapest.{cheapest_optimal, least_of_optimal, best_cost_least, best_cost_end}

-- A pair that is the least one of all that it covers is priced by that and the rest.
pub price_covered : (A : Allowed) (P : Prices) (B : Bases) (t : Forest) (h w : ℕ) → Run A t → Spans A B t → Power A t h w
    → Least A P B (best_cost A P) (front (h * w) t) h w
    → price P (best_cost A P) t h w ≡ best_cost A P (front (h * w) t) + best_cost A P (back (h * w) t)
unfolding front
price_covered A P B t h w r s p l =
    let n = h * w in
    let a = price_power P (best_cost A P) t h w p.repeats.twice in
    let b = price_piece P (best_cost A P) t h w 0 n p (omega arith) in
    let c = best_cost_least A P B (front n t) h w (run_front n r) (spans_front n r.plain s) l in
    omega (arith, best_cost_end A P)

-- A number that is at most the plain rank, the rank of each pair that covers the whole run, and, for each shorter beginning
-- whose least pair covers it and is the least one of the run too, the rank of that pair followed by the rest.
pub record Bound (A : Allowed) (P : Prices) (B : Bases) (t : Forest) (k : ℕ) : Type 0 where
  pub plain : k ≤ rank B (price P (best_cost A P) t 0 0) 0 0
  pub whole : (h w : ℕ) → Power A t h w → h * w ≡ siblings t → k ≤ rank B (price P (best_cost A P) t h w) h w
  pub first : (c m h w : ℕ) → c + m ≡ siblings t → 0 < c → 0 < m → h * w ≡ c → Least A P B (best_cost A P) (front c t) h w
      → Least A P B (best_cost A P) t h w → k ≤ rank B (best_cost A P (front c t) + best_cost A P (back c t)) h w

module _ (A : Allowed) (P : Prices) where
  -- The repeat that an optimal fold begins with is the optimal fold of what it covers.
  pub first_optimal : (t b f : Forest) (h w : ℕ) → Optimal A P t (repeat h w b f) → Optimal A P (front (h * w) t) (repeat h w b end)
  unfolding join unroll
  first_optimal t b f h w o =
      let p = parts o.fold in
      let e : unroll (repeat h w b end) ≡ front (h * w) t =
      join_end (copies h (unroll b)) ∙ ap (copies h) p.body.unrolls ∙ sym p.first.copied in
      rw e at (pieces A P t (repeat h w b end) f o).0

  cover_least : (B : Bases) (t : Forest) (k : ℕ) → Run A t → Spans A B t → Bound A P B t k → (f : Forest) → Optimal A P t f
      → k ≤ rank B (price P (best_cost A P) t (count_of f) (width_of f)) (count_of f) (width_of f)
  unfolding count_of width_of
  cover_least B t k r s bound end o = bound.plain
  cover_least B t k r s bound (step l f) o = bound.plain
  cover_least B t k r s bound (group l b f) o = bound.plain
  cover_least B t k r s bound (repeat h w b f) o =
      let n = h * w in
      let p = (parts o.fold).first in
      let c = reach p in
      let l : Least A P B (best_cost A P) (front n t) h w =
      least_of_optimal A P B (front n t) (repeat h w b end) (spans_front n r.plain s) (first_optimal t b f h w o) in
      elim (ℕ_discrete n (siblings t)) [
        | yes e ↦ bound.whole h w p e
        | no e ↦ rw (price_covered A P B t h w r s p l) (bound.first n (siblings t - n) h w (omega arith) (omega (arith, c.some, c.count, p.repeats.twice)) (omega arith) refl l (least_of_optimal A P B t (repeat h w b f) s o))
      ]

  -- COVER: such a number is at most the rank of every pair.
  pub cover : (B : Bases) (t : Forest) (k : ℕ) → Run A t → Spans A B t → Bound A P B t k
      → (h w : ℕ) → Candidate A t h w → k ≤ rank B (price P (best_cost A P) t h w) h w
  cover B t k r s bound h w d =
      let o = cheapest_optimal A P t r.plain r.sound in
      let l = least_of_optimal A P B t (cheapest A P t) s o in
      omega (arith, cover_least B t k r s bound (cheapest A P t) o, l.least h w d)

  -- So a pair whose rank is such a number is the least one.
  pub least_by_cover : (B : Bases) (t : Forest) (h w : ℕ) → Run A t → Spans A B t → Candidate A t h w
      → Bound A P B t (rank B (price P (best_cost A P) t h w) h w) → Least A P B (best_cost A P) t h w
  least_by_cover B t h w r s d bound = record { candidate = d; least = cover B t (rank B (price P (best_cost A P) t h w) h w) r s bound }
