-- The keys of one block, put one after the other: its stretches, its best counts, its tail.
use mathlib.Core.Path.{◌≡◌, refl, ap, ◌∙◌}
use mathlib.Core.List.{List}
use Prim.Native.Nat.{ℕ, ◌+◌, ◌-◌, ◌*◌, ◌≤◌, ◌<◌}
use native.Mathlib.Decide.{ℕ_discrete}
use native.Mathlib.Omega.{arith}
use lib.ListN.{get_or}
use Rattle.format.specs.Forest.{Forest, bytes}
use Rattle.optimum.specs.Cheapest.{front, back, best_cost}
use Rattle.optimum.proofs.Cut.{siblings_back}
use Rattle.optimum.proofs.Powers.{reach}
use Rattle.optimum.proofs.Cheapest.{best_cost_step}
use Rattle.blocks.specs.declared.keys.Key.{Key}
use Rattle.blocks.specs.Keys.{pair_base, slot, tail_slot, count_slot, both_in, pair_in, both_base, entry_base, SameKey, Put, Touched}
use Rattle.blocks.specs.Solved.{Best, BestCount}
use Rattle.blocks.proofs.Slots.{put_touched, put_other, touched_none, touched_more}
use Rattle.blocks.proofs.Flats.{run, flat_node, stretch_low, tail_low}
use Rattle.blocks.proofs.Bests.{two_later}
use Rattle.tails.specs.declared.rates.Rates.{Rates}
use Rattle.tails.specs.Tops.{top_rate}
use Rattle.tails.specs.Solving.{Stretched, Counted, Twice, Tailed, RowReady, OwnCost, StretchesBelow, CountsBelow, StretchesPut, CountPut, CountsPut, RowSolved, EndPut}
use Rattle.tails.proofs.Rows.{best_end, best_same, count_same, ready_kept, match_inside, near_here, here_near, stretch_best, count_best, tail_best, wide_small}

-- A key that was put stands there.
put_best : {W X : List ℕ} {k : Key} {A : _} {P : _} {T : Forest} (e f : ℕ) → Put W X e k → e ≡ f → Best A P T k.both k.pair
    → Best A P T (both_in X f) (pair_in X f)
put_best e f p q b = rw (← q, p.both, p.pair) b

module _ {W M : List ℕ} {R : Rates} {limit n own i : ℕ} where
  -- What a step costs by itself is low.
  pub own_low : (z : RowReady W M R limit n i) → OwnCost z own → own ≤ top_rate
  own_low z o =
      let t = z.tree in
      let e = ap (best_cost z.allowed z.prices) (flat_node i t z.modest.flat (omega (arith, z.here, z.all))) in
      let l = get_or (bytes t) (2 * i + 1) 0 in
      omega (arith, o, e, best_cost_step z.allowed z.prices l, z.modest.low l)

  -- The stretch of no steps, and one stretch more.
  pub stretches_first : both_in W (slot i 0) ≡ 0 → pair_in W (slot i 0) ≡ 0 → StretchesPut W M R limit n own i 1 W
  unfolding front
  stretches_first b c =
      record {
        touched = touched_none i W;
        stretches = λ z o d l m f. let y : d ≡ 0 = omega arith in rw (y, b, c) (best_end z.allowed z.prices);
      }

  module _ {X : List ℕ} {d : ℕ} (s : StretchesPut W M R limit n own i d X) (k : Key) (r : Stretched X M R own i d 33 k) (pos : 0 < d)
      (within : d ≤ limit) (fits : i + d ≤ n) where
    next_best : (z : RowReady W M R limit n i) → OwnCost z own → Best z.allowed z.prices (front d (back i z.tree)) k.both k.pair
    unfolding ready_kept
    next_best z o =
        stretch_best (ready_kept s.touched z) own d o pos (omega (arith, z.limited)) (omega (arith, z.all)) (s.stretches z o) k r

    pub next_low : (z : RowReady W M R limit n i) → OwnCost z own → k.both < both_base
    next_low z o = omega (arith, (next_best z o).is_cost, stretch_low z.modest i d)

    pub stretches_more : {Y : List ℕ} (e : ℕ) → Put X Y e k → e ≡ slot i d → d ≤ 32 → StretchesPut W M R limit n own i (d + 1) Y
    stretches_more {Y} e p q short =
        let p' : Put X Y (slot i d) k = rw q at p in
        record {
          touched = touched_more s.touched (put_touched i d (omega arith) p');
          stretches = λ z o c l m f. elim (ℕ_discrete c d) [
            | yes y ↦ rw y (put_best e (slot i d) p q (next_best z o))
            | no y ↦ best_same (put_other i d c p' y) (s.stretches z o c (omega arith) m f)
          ];
        }

  -- All that the limit allows and the run has.
  pub stretches_all : {X : List ℕ} (d m : ℕ) → StretchesPut W M R limit n own i d X → m < d → ((c : ℕ) → c ≤ limit → c ≤ n - i → c ≤ m)
      → StretchesPut W M R limit n own i 33 X
  stretches_all d m s l most =
      record {
        touched = s.touched;
        stretches = λ z o c b w f. s.stretches z o c (omega (arith, most c (omega (arith, z.limited)) (omega (arith, z.all)))) w f;
      }

module _ {W M : List ℕ} {R : Rates} {limit n i : ℕ} where
  -- One best count.
  module _ (w : ℕ) (pos : 0 < w) (within : w ≤ limit) where
    pub count_none : get_or M w 0 < w → CountPut W M R limit n i w W
    count_none l =
        record {
          touched = touched_none i W;
          kept = λ s q. record { both = refl; pair = refl };
          count = λ z p. absurd (omega (arith, (here_near z 2 w p).0));
        }

    module _ (some : w ≤ get_or M w 0) (z : RowReady W M R limit n i) where
      two : Twice M w
      two = record { some = pos; copy = some }

      pub count_inside : i + w + get_or M w 0 ≤ n
      count_inside = omega (arith, z.all, match_inside z w pos (omega (arith, z.limited)) (omega arith))

      -- One copy further on the pair is small.
      pub later_small : 2 * w ≤ get_or M w 0 → pair_in W (slot (i + w) (count_slot w)) + 64 < pair_base
      later_small long =
          let A = z.allowed in
          let t = z.tree in
          let in_limit : w ≤ A.widest = omega (arith, z.limited) in
          let inside = count_inside in
          let m = z.matching.matched w pos in_limit (omega (arith, z.all)) in
          let p = two_later z.modest i w (get_or M w 0) m pos in_limit some long in
          let b = (z.solved (i + w) (omega arith) (omega (arith, z.all))).counts w p in
          let r = reach b.power in
          let size = siblings_back (i + w) t (run z.modest).plain (omega (arith, z.all)) in
          omega (arith, b.is_pair, r.count, r.covers, z.modest.few, z.modest.narrow)

      pub count_is : (k : Key) → Counted W R i w (get_or M w 0) k → BestCount z.allowed z.prices z.tree i w k.both k.pair
      count_is k r = count_best z w (omega (arith, z.limited)) two k r

      pub count_low : (k : Key) → Counted W R i w (get_or M w 0) k → (k.both < both_base) × (k.pair < entry_base)
      count_low k r =
          let b = count_is k r in
          let p = near_here z 2 w (omega arith) pos (omega (arith, z.limited)) (omega arith) in
          let c = reach b.power in
          let size = siblings_back i z.tree (run z.modest).plain (omega (arith, z.here, z.all)) in (
            omega (arith, b.least 2 p, b.power.repeats.twice, tail_low z.modest (i + 2 * w)),
            omega (arith, b.is_pair, c.count, c.covers, z.modest.few, z.modest.narrow),
          )

    pub count_some : {X : List ℕ} (k : Key) (e : ℕ) → w ≤ 32 → w ≤ get_or M w 0 → Counted W R i w (get_or M w 0) k → Put W X e k → e ≡ slot i (count_slot w)
        → CountPut W M R limit n i w X
    count_some {X} k e short some r p q =
        let p' : Put W X (slot i (count_slot w)) k = rw q at p in
        record {
          touched = put_touched i (count_slot w) (omega arith) p';
          kept = λ s y. put_other i (count_slot w) s p' y;
          count = λ z y. let b = count_is some z k r in rw (p'.both, p'.pair) b;
        }

  -- One width more.
  pub counts_first : CountsPut W M R limit n i 1 W
  counts_first =
      record {
        touched = touched_none i W;
        kept = λ s l. record { both = refl; pair = refl };
        counts = λ z w l p. absurd (omega (arith, (reach p).some));
      }

  pub counts_more : {X Y : List ℕ} (v u : ℕ) → u ≡ v + 1 → 0 < v → CountsPut W M R limit n i v X → CountPut X M R limit n i v Y → CountsPut W M R limit n i u Y
  unfolding ready_kept
  counts_more {X} {Y} v u e pos s p =
      record {
        touched = touched_more s.touched p.touched;
        kept = λ c l. same_more (s.kept c l) (p.kept c (λ q. omega arith));
        counts = λ z w l q. elim (ℕ_discrete w v) [
          | yes y ↦ rw y (p.count (ready_kept s.touched z) (rw y at q))
          | no y ↦ count_same (p.kept (count_slot w) (λ e. y (omega arith))) (s.counts z w (omega arith) q)
        ];
      }
    where
      same_more : {e : ℕ} → SameKey W X e → SameKey X Y e → SameKey W Y e
      same_more a b = record { both = b.both ∙ a.both; pair = b.pair ∙ a.pair }

-- A whole block, put by put: the stretch of no steps, the stretches, the counts, the tail.
pub record FirstPut (W : List ℕ) (i : ℕ) (X : List ℕ) : Type 0 where
  pub touched : Touched i W X
  pub both : both_in X (slot i 0) ≡ 0
  pub pair : pair_in X (slot i 0) ≡ 0

pub first_put : {W X : List ℕ} {i : ℕ} (e : ℕ) (k : Key) → e ≡ slot i 0 → k.both ≡ 0 → k.pair ≡ 0 → Put W X e k → FirstPut W i X
first_put {W} {X} {i} e k place b c p =
    let p' : Put W X (slot i 0) k = rw place at p in
    record { touched = put_touched i 0 (omega arith) p'; both = p'.both ∙ b; pair = p'.pair ∙ c }

module _ (W M : List ℕ) (R : Rates) (limit n own i : ℕ) {X : List ℕ} (first : FirstPut W i X) where
  unfoldable pub ready_first : RowReady W M R limit n i → RowReady X M R limit n i
  unfolding ready_kept
  ready_first z = ready_kept first.touched z

  pub own_first : (z : RowReady W M R limit n i) → OwnCost z own → OwnCost (ready_first z) own
  unfolding ready_first
  own_first z o = o

  module _ {Y : List ℕ} (second : StretchesPut X M R limit n own i 33 Y) where
    unfoldable pub ready_second : RowReady W M R limit n i → RowReady Y M R limit n i
    unfolding ready_first
    ready_second z = ready_kept second.touched (ready_first z)

    module _ {Z : List ℕ} (third : CountsPut Y M R limit n i (limit + 1) Z) where
      unfoldable pub ready_third : RowReady W M R limit n i → RowReady Z M R limit n i
      unfolding ready_second
      ready_third z = ready_kept third.touched (ready_second z)

      stretches_third : (z : RowReady W M R limit n i) → OwnCost z own → StretchesBelow (ready_third z) Z 33
      unfolding ready_third
      stretches_third z o d l m f = best_same (third.kept d (omega arith)) (second.stretches (ready_first z) o d l m f)

      counts_third : (z : RowReady W M R limit n i) → CountsBelow (ready_third z) Z 33
      unfolding ready_third
      counts_third z w l p = third.counts (ready_second z) w (omega (arith, z.limited, p.repeats.within)) p

      pub pairs_third : (z : RowReady W M R limit n i) → OwnCost z own → (w : ℕ) → w ≤ limit → Twice M w → pair_in Z (slot i (count_slot w)) < pair_base
      unfolding ready_third
      pairs_third z o w l two = wide_small (ready_third z) own o (stretches_third z o) (counts_third z) w (omega (arith, z.limited)) two

      module _ (k : Key) (r : Tailed Z M R own i limit (limit + 1) k) where
        tail_is : (z : RowReady W M R limit n i) → OwnCost z own → Best z.allowed z.prices (back i z.tree) k.both k.pair
        unfolding ready_third
        tail_is z o = tail_best (ready_third z) own o (stretches_third z o) (counts_third z) k r

        pub tail_key_low : (z : RowReady W M R limit n i) → OwnCost z own → k.both < both_base
        tail_key_low z o = omega (arith, (tail_is z o).is_cost, tail_low z.modest i)

        pub row_solved : {U : List ℕ} (g : ℕ) → Put Z U g k → g ≡ slot i tail_slot → RowSolved W M R limit n own i U
        unfolding ready_third
        row_solved {U} g p q =
            let p' : Put Z U (slot i tail_slot) k = rw q at p in
            record {
              touched = touched_more (touched_more (touched_more first.touched second.touched) third.touched) (put_touched i tail_slot (omega arith) p');
              solved = λ z o. record {
                stretch = λ d m f.
                    let short : d ≤ 32 = omega (arith, z.modest.narrow) in
                    best_same (put_other i tail_slot d p' (λ y. omega arith)) (stretches_third z o d (omega arith) m f);
                tail = put_best g (slot i tail_slot) p q (tail_is z o);
                counts = λ w y.
                    let c = reach y in
                    count_same (put_other i tail_slot (count_slot w) p' (λ x. omega (arith, c.some))) (counts_third z w (omega (arith, z.modest.narrow, y.repeats.within)) y);
              };
            }

-- The block of the end.
pub end_put : {W X Y : List ℕ} (n : ℕ) (e f : ℕ) (k l : Key) → e ≡ slot n 0 → f ≡ slot n tail_slot → k.both ≡ 0 → k.pair ≡ 0 → l.both ≡ 0 → l.pair ≡ 0
    → Put W X e k → Put X Y f l → EndPut W n Y
end_put {W} {X} {Y} n e f k l at_first at_tail kb kp lb lp p q =
    let p' : Put W X (slot n 0) k = rw at_first at p in
    let q' : Put X Y (slot n tail_slot) l = rw at_tail at q in
    let s = put_other n tail_slot 0 q' (λ y. omega arith) in
    record {
      touched = touched_more (put_touched n 0 (omega arith) p') (put_touched n tail_slot (omega arith) q');
      none = (s.both ∙ p'.both ∙ kb, s.pair ∙ p'.pair ∙ kp);
      tail = (q'.both ∙ lb, q'.pair ∙ lp);
    }
