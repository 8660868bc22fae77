-- The same optimum at other prices: with every price times N and 1 more for a repeat the cost is N × cost + repeats, and where N is
-- above the repeats of every fold, the cheapest fold at these prices is the preferred one.
use mathlib.Core.Bool.{Bool}
use mathlib.Core.Path.{◌≡◌, sym, ap, ◌∙◌}
use mathlib.Core.Logic.{◌↔◌}
use mathlib.Core.List.{List, [], ◌∷◌, ◌++◌, append_assoc, append-nil}
use Prim.Native.Nat.{ℕ, suc, ◌+◌, ◌-◌, ◌*◌, ◌≤◌, ◌<◌}
use native.Mathlib.Nat.{add-mul, mul_assoc, mul_comm, mul-le-mul_right}
use native.Mathlib.Decide.{dec_lt}
use native.Mathlib.Omega.{arith}
use lib.ListN.{length}
use Rattle.format.specs.Limits.{Prices, of_repeat}
use Rattle.format.specs.Forest.{Forest, end, step, group, repeat, nodes, cost, form_in, bytes, Allowed, Sound}
use Rattle.format.proofs.Forests.{nodes_unroll}
use Rattle.format.proofs.Depth.{siblings_nodes}
use Rattle.optimum.specs.Optimal.{FoldOf, NoWorse, cheaper, same, earlier, Optimal}
use Rattle.optimum.specs.Cheapest.{Run, cheapest, best_cost}
use Rattle.optimum.specs.Fewest.{repeats_from, repeats_in, repeats_of, Leads, by_cost, by_repeats, itself, by_bytes, Preferred, combined, counting, preferred}
use Rattle.optimum.proofs.Rank.{high_le, high_lt}
use Rattle.optimum.proofs.Cheapest.{cheapest_optimal, cheapest_short, is_cheapest, best_cost_fold}

-- The `20` commands of a tree's bytes are its repeats.
repeats_before : (f : Forest) (s : List ℕ) → repeats_from (bytes f ++ s) 0 ≡ repeats_of f + repeats_from s 0
unfolding repeats_from repeats_of form_in
repeats_before end s = omega arith
repeats_before (step l f) s = omega (arith, repeats_before f s)
repeats_before (group l b f) s =
    omega (arith, ap (λ (x : List ℕ). repeats_from x 0) (append_assoc (bytes b) (0x12 ∷ bytes f) s), repeats_before b (0x12 ∷ bytes f ++ s), repeats_before f s)
repeats_before (repeat h w b f) s =
    omega (arith, ap (λ (x : List ℕ). repeats_from x 0) (append_assoc (bytes b) (0x21 ∷ bytes f) s), repeats_before b (0x21 ∷ bytes f ++ s), repeats_before f s)

pub repeats_bytes : (f : Forest) → repeats_in (bytes f) ≡ repeats_of f
unfolding repeats_in repeats_from
repeats_bytes f = ap (λ (s : List ℕ). repeats_from s 0) (sym (append-nil (bytes f))) ∙ omega (arith, repeats_before f [])

-- The price of a repeat, and the cost of a fold, at prices that count repeats.
pub counted_repeat : (N : ℕ) (P : Prices) (h : ℕ) → of_repeat (counting N P) h ≡ combined N (of_repeat P h) 1
counted_repeat N P h =
    let copies : P.each * N * (h - 2) ≡ P.each * (h - 2) * N =
    mul_assoc P.each N (h - 2) ∙ ap (λ (n : ℕ). P.each * n) (mul_comm N (h - 2)) ∙ sym (mul_assoc P.each (h - 2) N) in
    omega (arith, copies, add-mul P.first (P.each * (h - 2)) N)

pub counted_cost : (N : ℕ) (P : Prices) (f : Forest) → cost (counting N P) f ≡ combined N (cost P f) (repeats_of f)
unfolding cost repeats_of
counted_cost N P end = omega arith
counted_cost N P (step l f) = omega (arith, add-mul (P.of_step l) (cost P f) N, counted_cost N P f)
counted_cost N P (group l b f) =
    omega (
      arith,
      add-mul (P.of_group l + cost P b) (cost P f) N,
      add-mul (P.of_group l) (cost P b) N,
      counted_cost N P b,
      counted_cost N P f,
    )
counted_cost N P (repeat h w b f) =
    omega (
      arith,
      counted_repeat N P h,
      add-mul (of_repeat P h + cost P b) (cost P f) N,
      add-mul (of_repeat P h) (cost P b) N,
      counted_cost N P b,
      counted_cost N P f,
    )

-- FEW REPEATS: a fold of n nodes has at most n / 2 repeats.
pub few_repeats : (A : Allowed) (f : Forest) → Sound A f → 2 * repeats_of f ≤ nodes f
unfolding repeats_of nodes
few_repeats A end s = omega arith
few_repeats A (step l f) s = omega (arith, few_repeats A f s)
few_repeats A (group l b f) s = omega (arith, few_repeats A b s.1, few_repeats A f s.2)
few_repeats A (repeat h w b f) s =
    let r = s.0 in
    omega (arith, r.some, siblings_nodes b, mul-le-mul_right (nodes b) r.twice, few_repeats A b s.1, few_repeats A f s.2)

-- Two numbers of two digits are the same where their digits are.
module _ (N : ℕ) (c r c' r' : ℕ) (low : r < N) (low' : r' < N) where
  same_high : combined N c r ≡ combined N c' r' → c ≡ c'
  same_high e =
      let i : c ≤ c' = high_le N c r c' r' low' (omega arith) in
      let j : c' ≤ c = high_le N c' r' c r low (omega arith) in
      omega arith

module _ (A : Allowed) (P : Prices) (t : Forest) (N : ℕ) (enough : nodes t < 2 * N) where
  -- The repeats of every fold are below N.
  below : {f : Forest} → FoldOf A t f → repeats_of f < N
  below {f} o = omega (arith, few_repeats A f o.sound, nodes_unroll f, ap nodes o.unrolls)

  module _ (f g : Forest) (o : FoldOf A t f) (q : FoldOf A t g) where
    leads : NoWorse (counting N P) f g → Leads P f g
    leads (cheaper l) =
        let a = counted_cost N P f in
        let b = counted_cost N P g in
        let i : cost P f ≤ cost P g = high_le N (cost P f) (repeats_of f) (cost P g) (repeats_of g) (below q) (omega arith) in
        elim (dec_lt (cost P f) (cost P g)) [
          | yes k ↦ by_cost k
          | no k ↦
              let e : cost P f ≡ cost P g = omega arith in
              let m : cost P f * N ≡ cost P g * N = rw e in
              by_repeats e (omega arith)
        ]
    leads (same e) = itself e
    leads (earlier e b) =
        let d : combined N (cost P f) (repeats_of f) ≡ combined N (cost P g) (repeats_of g) = sym (counted_cost N P f) ∙ e ∙ counted_cost N P g in
        let i : cost P f ≡ cost P g = same_high N (cost P f) (repeats_of f) (cost P g) (repeats_of g) (below o) (below q) d in
        let m : cost P f * N ≡ cost P g * N = rw i in
        by_bytes i (omega arith) b

    no_worse : Leads P f g → NoWorse (counting N P) f g
    no_worse (by_cost l) =
        cheaper (rw (counted_cost N P f, counted_cost N P g) (high_lt N (cost P f) (repeats_of f) (cost P g) (repeats_of g) (below o) l))
    no_worse (by_repeats e l) = let m : cost P f * N ≡ cost P g * N = rw e in cheaper (omega (arith, counted_cost N P f, counted_cost N P g))
    no_worse (itself e) = same e
    no_worse (by_bytes e d b) = let m : cost P f * N ≡ cost P g * N = rw e in earlier (omega (arith, counted_cost N P f, counted_cost N P g)) b

  -- THE SAME OPTIMUM AT OTHER PRICES: the preferred fold is the optimal one at prices that count repeats, by any factor above them.
  pub preferred_exactly : (f : Forest) → Optimal A (counting N P) t f ↔ Preferred A P t f
  preferred_exactly f = (
    λ o. record { fold = o.fold; leads = λ g q. leads f g o.fold q (o.best g q) },
    λ o. record { fold = o.fold; best = λ g q. no_worse f g o.fold q (o.leads g q) },
  )

-- What leads is not dearer.
pub leads_cost : {P : Prices} {f g : Forest} → Leads P f g → cost P f ≤ cost P g
leads_cost (by_cost l) = omega arith
leads_cost (by_repeats e l) = omega arith
leads_cost {P} (itself e) = omega (arith, ap (cost P) e)
leads_cost (by_bytes e d b) = omega arith

-- So the preferred fold is there, and the factor does not matter.
module _ (A : Allowed) (P : Prices) (t : Forest) (r : Run A t) where
  pub preferred_first : Preferred A P t (preferred A P t)
  unfolding preferred
  preferred_first =
      let N = suc (nodes t) in
      (preferred_exactly A P t N (omega arith) (preferred A P t)).0 (cheapest_optimal A (counting N P) t r.plain r.sound)

  pub any_factor : (N : ℕ) → nodes t < 2 * N → cheapest A (counting N P) t ≡ preferred A P t
  unfolding preferred
  any_factor N enough =
      sym (is_cheapest A (counting N P) ((preferred_exactly A P t N enough (preferred A P t)).1 preferred_first))

  -- NO COST MOVES: it costs what the cheapest fold costs, whatever decides between folds of the same cost.
  pub preferred_cost : cost P (preferred A P t) ≡ best_cost A P t
  unfolding best_cost
  preferred_cost =
      let least = cheapest_optimal A P t r.plain r.sound in
      omega (arith, leads_cost (preferred_first.leads (cheapest A P t) least.fold), best_cost_fold A P preferred_first.fold)

  -- The least cost at prices that count repeats: its cost and its repeats, which are below the factor.
  pub best_counted : (N : ℕ) → nodes t < 2 * N → best_cost A (counting N P) t ≡ combined N (cost P (preferred A P t)) (repeats_of (preferred A P t))
  unfolding best_cost
  best_counted N enough = counted_cost N P (cheapest A (counting N P) t) ∙ rw (any_factor N enough)

  pub counted_few : (N : ℕ) → nodes t < 2 * N → repeats_of (preferred A P t) < N
  counted_few N enough = below A P t N enough preferred_first.fold

  -- It is a fold, and so it is short.
  pub preferred_short : (short : Bool) → length (form_in short (preferred A P t)) ≤ 4 * nodes t
  unfolding preferred
  preferred_short short = cheapest_short A (counting (suc (nodes t)) P) short t r
