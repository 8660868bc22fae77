-- The key of the cheapest fold: the least of those that may stand first. And the best count at a width, one step earlier than one
-- copy on.
use mathlib.Core.Path.{◌≡◌, refl, sym, ap, ◌∙◌}
use mathlib.Core.Logic.{◌⊎◌, inl, inr}
use Prim.Native.Nat.{ℕ, suc, ◌+◌, ◌-◌, ◌*◌, ◌≤◌, ◌<◌}
use native.Mathlib.Nat.{mul-suc, mul-le-mul_right}
use native.Mathlib.Decide.{dec_le}
use native.Mathlib.Omega.{arith}
use Rattle.format.specs.Limits.{Prices}
use Rattle.format.specs.Forest.{Forest, Allowed, siblings}
use Rattle.optimum.specs.Cheapest.{Run, back, Power, Candidate, plain, power, price, rank, Spans, Least, best_cost}
use Rattle.optimum.specs.Matches.{Matched}
use Rattle.optimum.proofs.Cut.{back_back, run_back}
use Rattle.optimum.proofs.Powers.{spans}
use Rattle.optimum.proofs.Cheapest.{best_cost_least}
use Rattle.optimum.proofs.Matches.{copy_more, near_power, power_near, matched_later}
use Rattle.blocks.specs.declared.keys.Key.{Key}
use Rattle.blocks.specs.Keys.{bases, factor, packed, pair_base, order, Lesser}
use Rattle.blocks.specs.Solved.{Flat, Best, BestCount, behind, Modest}
use Rattle.blocks.proofs.Flats.{flat_run, run}

-- A key of something that may stand first, no later than that of anything else that may.
pub record Lowest (A : Allowed) (P : Prices) (T : Forest) (k : Key) : Type 0 where
  pub count : ℕ
  pub width : ℕ
  pub candidate : Candidate A T count width
  pub is_cost : k.both ≡ price P (best_cost A P) T count width
  pub is_pair : k.pair ≡ packed count width
  pub plainly : order k ≤ price P (best_cost A P) T 0 0 * pair_base
  pub repeats : (h w : ℕ) → Power A T h w → order k ≤ price P (best_cost A P) T h w * pair_base + packed h w

rank_order : (c h w : ℕ) → rank bases c h w ≡ c * pair_base + packed h w
unfolding rank
rank_order c h w = omega arith

module _ {A : Allowed} {P : Prices} {t : Forest} (m : Modest A P t) where
  pub spanned : (T : Forest) → siblings T < 65536 → Spans A bases T
  spanned T few = spans (omega arith) (omega (arith, m.narrow))

  -- It is the key of the cheapest fold.
  pub lowest_best : (T : Forest) → Flat T → siblings T < 65536 → (k : Key) → Lowest A P T k → Best A P T k.both k.pair
  lowest_best T z few k l =
      let h = l.count in
      let w = l.width in
      let least : Least A P bases (best_cost A P) T h w = record { candidate = l.candidate; least = below } in
      record {
        count = h;
        width = w;
        least = least;
        is_cost = l.is_cost ∙ sym (best_cost_least A P bases T h w (flat_run A T z) (spanned T few) least);
        is_pair = l.is_pair;
      }
    where
      below : (h w : ℕ) → Candidate A T h w
          → rank bases (price P (best_cost A P) T l.count l.width) l.count l.width ≤ rank bases (price P (best_cost A P) T h w) h w
      below h w plain =
          rw (rank_order (price P (best_cost A P) T l.count l.width) l.count l.width, rank_order (price P (best_cost A P) T 0 0) 0 0)
          (omega (arith, l.is_cost, l.is_pair, l.plainly))
      below h w (power p) =
          rw (rank_order (price P (best_cost A P) T l.count l.width) l.count l.width, rank_order (price P (best_cost A P) T h w) h w)
          (omega (arith, l.is_cost, l.is_pair, l.repeats h w p))

  -- The best count, where k steps from step i on match at width w.
  module _ (i w k : ℕ) (d : Matched A.marked (back i t) w k) (pos : 0 < w) (within : w ≤ A.widest) (some : w ≤ k) where
    here : Run A (back i t)
    here = run_back i (run m)

    two_copies : Power A (back i t) 2 w
    two_copies = near_power 2 w k here pos within d (omega arith) (omega arith)

    few_counts : (h : ℕ) → k < 2 * w → Power A (back i t) h w → h ≡ 2
    few_counts h short p = elim (dec_le h 2) [
      | yes l ↦ omega (arith, p.repeats.twice)
      | no l ↦
          let e = copy_more (h - 2) (h - 1) w (omega arith) in
          let one : w ≤ (h - 2) * w = let a : 1 ≤ h - 2 = omega arith in omega (arith, mul-le-mul_right w a) in
          absurd (omega (arith, power_near h w k here d p))
    ]

    two_behind : behind A P t i w 2 ≡ best_cost A P (back (i + 2 * w) t)
    two_behind = omega arith

    pub count_only : k < 2 * w → BestCount A P t i w (best_cost A P (back (i + 2 * w) t)) (packed 2 w)
    count_only short =
        record {
          count = 2;
          power = two_copies;
          is_cost = sym two_behind;
          is_pair = refl;
          least = λ h p. let e = few_counts h short p in rw e (omega (arith, two_behind));
        }

    -- One copy more than from one copy on.
    module _ (long : 2 * w ≤ k) where
      later : Matched A.marked (back (i + w) t) w (k - w)
      later = rw (back_back i w (i + w) t refl) at (matched_later A (back i t) w k (k - w) here (omega arith) d)

      pub two_later : Power A (back (i + w) t) 2 w
      two_later = near_power 2 w (k - w) (run_back (i + w) (run m)) pos within later (omega arith) (omega arith)

      longer : (h : ℕ) → Power A (back (i + w) t) h w → Power A (back i t) (h + 1) w
      longer h p =
          let near = power_near h w (k - w) (run_back (i + w) (run m)) later p in
          let e = copy_more (h - 1) h w (omega (arith, p.repeats.twice)) in
          let f : h + 1 - 1 ≡ h = omega arith in
          near_power (h + 1) w k here pos within d (omega (arith, p.repeats.twice)) (rw f (omega arith))

      shorter : (h : ℕ) → 2 < h → Power A (back i t) h w → Power A (back (i + w) t) (h - 1) w
      shorter h l p =
          let near = power_near h w k here d p in
          let e = copy_more (h - 2) (h - 1) w (omega arith) in
          let f : h - 1 - 1 ≡ h - 2 = omega arith in
          near_power (h - 1) w (k - w) (run_back (i + w) (run m)) pos within later (omega arith) (rw f (omega arith))

      more_behind : (h : ℕ) → 2 ≤ h → behind A P t i w (h + 1) ≡ P.each + behind A P t (i + w) w h
      more_behind h l =
          let e : i + (h + 1) * w ≡ i + w + h * w = omega (arith, copy_more h (h + 1) w (omega arith)) in
          let f : h + 1 - 2 ≡ suc (h - 2) = omega arith in
          let g : P.each * (h + 1 - 2) ≡ P.each + P.each * (h - 2) = rw f (omega (arith, mul-suc P.each (h - 2))) in
          omega (arith, ap (λ (n : ℕ). best_cost A P (back n t)) e)

      pub count_more : (b x : Key) (r : Key) → b.both ≡ best_cost A P (back (i + 2 * w) t) → b.pair ≡ packed 2 w
          → (c y : ℕ) → BestCount A P t (i + w) w c y → x.both ≡ c + P.each → x.pair ≡ y + 64 → Lesser b x r
          → BestCount A P t i w r.both r.pair
      count_more b x r bb bp c y best xb xp l =
          by_one l.one
        where
          n : ℕ
          n = best.count

          next : behind A P t i w (n + 1) ≡ P.each + behind A P t (i + w) w n
          next = more_behind n best.power.repeats.twice

          low : (h : ℕ) → Power A (back i t) h w → order r ≤ (behind A P t i w h * factor + h) * 64 + w
          low h p = elim (dec_le h 2) [
            | yes q ↦ let e : h ≡ 2 = omega (arith, p.repeats.twice) in rw e (omega (arith, l.left, bb, bp, two_behind))
            | no q ↦
                let g = h - 1 in
                let e : h ≡ g + 1 = omega arith in
                let z = best.least g (shorter h (omega arith) p) in
                let v = more_behind g (omega arith) in
                rw e (omega (arith, l.right, xb, xp, best.is_cost, best.is_pair, z, v))
          ]

          by_one : (r ≡ b) ⊎ (r ≡ x) → BestCount A P t i w r.both r.pair
          by_one (inl e) =
              record {
                count = 2;
                power = two_copies;
                is_cost = rw e (bb ∙ sym two_behind);
                is_pair = rw e bp;
                least = λ h p. omega (arith, low h p, ap (λ (q : Key). q.pair) e, bp);
              }
          by_one (inr e) =
              record {
                count = n + 1;
                power = longer n best.power;
                is_cost = rw e (omega (arith, xb, best.is_cost, next));
                is_pair = rw e (omega (arith, xp, best.is_pair));
                least = λ h p. omega (arith, low h p, ap (λ (q : Key). q.pair) e, xp, best.is_pair);
              }
