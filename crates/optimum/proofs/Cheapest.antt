-- The cheapest fold is optimal, and how long it is at most; the optimal fold by its least pair, and the least cost.
use mathlib.Core.Bool.{Bool}
use mathlib.Core.Path.{◌≡◌, sym, ap, ◌∙◌}
use Prim.Native.Nat.{ℕ, zero, suc, ◌+◌, ◌*◌, ◌≤◌, ◌<◌}
use native.Mathlib.Omega.{arith}
use lib.ListN.{length}
use Rattle.format.specs.Limits.{Prices}
use Rattle.format.specs.Forest.{Forest, end, step, group, repeat, siblings, nodes, form_in, cost, Plain, Allowed, Sound}
use Rattle.format.proofs.Forests.{nodes_unroll}
use Rattle.format.proofs.Short.{form_short}
use Rattle.optimum.specs.Optimal.{FoldOf, Optimal}
use Rattle.optimum.specs.Cheapest.{Run, front, back, node, build, price, Bases, usual, own, Spans, Least, choose, cheapest_by, cheapest, best_cost}
use Rattle.optimum.proofs.Cut.{run_body}
use Rattle.optimum.proofs.Powers.{spans_own, spans_usual}
use Rattle.optimum.proofs.Pieces.{no_dearer, unique}
use Rattle.optimum.proofs.Items.{count_of, width_of, count_build, width_build, run_of, itself}
use Rattle.optimum.proofs.Least.{cost_build, least_bases, least_one, least_optimal}
use Rattle.optimum.proofs.Choose.{choose_least, choose_built}

-- Fuel for one step more solves runs of one node more.
module _ (A : Allowed) (P : Prices) where
  grow : (n : ℕ) → ((t : Forest) → Run A t → nodes t < n → Optimal A P t (cheapest_by A P n t))
      → (t : Forest) → Run A t → nodes t ≤ n → Optimal A P t (cheapest_by A P (suc n) t)
  unfolding cheapest_by
  grow n solves t r l =
      let least = choose_least A P (cheapest_by A P n) t in
      rw choose_built (least_optimal A P (cheapest_by A P n) n solves (own t) t _ _ r l (spans_own A t) least)

  fuelled : (n : ℕ) (t : Forest) → Run A t → nodes t < n → Optimal A P t (cheapest_by A P n t)
  fuelled zero t r l = absurd (omega arith)
  fuelled (suc n) t r l = grow n (fuelled n) t r (omega arith)

-- THE OPTIMUM: the cheapest fold is optimal.
pub cheapest_optimal : (A : Allowed) (P : Prices) (t : Forest) → Plain t → Sound A t → Optimal A P t (cheapest A P t)
unfolding cheapest
cheapest_optimal A P t p s = fuelled A P (suc (nodes t)) t (record { plain = p; sound = s }) (omega arith)

module _ (A : Allowed) (P : Prices) where
  solves : (t : Forest) → Run A t → Optimal A P t (cheapest A P t)
  solves t r = cheapest_optimal A P t r.plain r.sound

  -- It is a fold, and so it is short, in either family.
  pub cheapest_short : (short : Bool) (t : Forest) → Run A t → length (form_in short (cheapest A P t)) ≤ 4 * nodes t
  cheapest_short short t r =
      let o = (solves t r).fold in
      omega (arith, form_short short A (cheapest A P t) o.sound, nodes_unroll (cheapest A P t), ap nodes o.unrolls)

  -- It is the only one, and so the least cost is that of any.
  pub is_cheapest : {t f : Forest} → Optimal A P t f → f ≡ cheapest A P t
  is_cheapest {t} {f} o = unique A P t f (cheapest A P t) o (solves t (run_of o.fold))

  pub cost_optimal : {t f : Forest} → Optimal A P t f → cost P f ≡ best_cost A P t
  unfolding best_cost
  cost_optimal o = ap (cost P) (is_cheapest o)

  -- THE STEP: the pair of least rank and the optimal folds of the parts make the optimal fold.
  pub least_builds : (B : Bases) (t : Forest) (h w : ℕ) → Run A t → Spans A B t → Least A P B (best_cost A P) t h w
      → Optimal A P t (build (cheapest A P) t h w)
  unfolding best_cost
  least_builds B t h w r s l = least_optimal A P (cheapest A P) (suc (nodes t)) (λ x q k. solves x q) B t h w r (omega arith) s l

  pub optimal_end : Optimal A P end end
  unfolding build siblings
  optimal_end =
      let one = least_one A P usual (best_cost A P) end (omega arith) in
      least_builds usual end 0 0 (record { plain = tt; sound = tt }) (spans_usual A end (omega arith)) one

  -- And back: an optimal fold begins with the pair of least rank.
  pub least_of_optimal : (B : Bases) (t f : Forest) → Spans A B t → Optimal A P t f
      → Least A P B (best_cost A P) t (count_of f) (width_of f)
  unfolding best_cost
  least_of_optimal B t f s o =
      let h = (choose A P (cheapest A P) t).count in
      let w = (choose A P (cheapest A P) t).width in
      let l : Least A P B (best_cost A P) t h w =
      least_bases A P (own t) (best_cost A P) t h w B (spans_own A t) s (choose_least A P (cheapest A P) t) in
      let e : f ≡ build (cheapest A P) t h w =
      unique A P t f (build (cheapest A P) t h w) o (least_builds B t h w (run_of o.fold) s l) in
      rw (e, count_build, width_build (cheapest A P) t h w l.candidate) l

  -- The least cost is that of the least pair, and no more than that of any fold and of the run itself.
  pub best_cost_least : (B : Bases) (t : Forest) (h w : ℕ) → Run A t → Spans A B t → Least A P B (best_cost A P) t h w
      → best_cost A P t ≡ price P (best_cost A P) t h w
  unfolding best_cost
  best_cost_least B t h w r s l = sym (cost_optimal (least_builds B t h w r s l)) ∙ cost_build P (cheapest A P) t h w

  pub best_cost_fold : {t g : Forest} → FoldOf A t g → best_cost A P t ≤ cost P g
  unfolding best_cost
  best_cost_fold {t} {g} q = no_dearer ((solves t (run_of q)).best g q)

  pub best_cost_run : (t : Forest) → Run A t → best_cost A P t ≤ cost P t
  best_cost_run t r = best_cost_fold (itself r)

  -- Of a run of at most one sibling.
  best_cost_one : (t : Forest) → Run A t → siblings t ≤ 1 → best_cost A P t ≡ price P (best_cost A P) t 0 0
  best_cost_one t r l =
      best_cost_least usual t 0 0 r (spans_usual A t (omega arith)) (least_one A P usual (best_cost A P) t l)

  pub best_cost_end : best_cost A P end ≡ 0
  unfolding price siblings
  best_cost_end = best_cost_one end (record { plain = tt; sound = tt }) (omega arith)

  pub best_cost_step : (l : ℕ) → best_cost A P (step l end) ≡ P.of_step l
  unfolding price siblings
  best_cost_step l = omega (arith, best_cost_one (step l end) (record { plain = tt; sound = tt }) (omega arith), best_cost_end)

  pub best_cost_group : (l : ℕ) (b : Forest) → Run A b → 0 < siblings b
      → best_cost A P (group l b end) ≡ P.of_group l + best_cost A P b
  unfolding price siblings
  best_cost_group l b r n =
      let e = best_cost_one (group l b end) (record { plain = (r.plain, tt); sound = (n, r.sound, tt) }) (omega arith) in
      omega (arith, best_cost_end)

  -- The plain pair's price is the least cost of the first sibling and of the rest.
  pub price_plain : (t : Forest) → Run A t → price P (best_cost A P) t 0 0 ≡ best_cost A P (node 0 t) + best_cost A P (back 1 t)
  unfolding price front back
  price_plain end r = omega (arith, best_cost_end)
  price_plain (step l f) r = omega (arith, best_cost_step l)
  price_plain (group l b f) r = omega (arith, best_cost_group l b (run_body r) r.sound.0)
  price_plain (repeat h w b f) r = absurd r.plain
