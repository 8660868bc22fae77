-- Solving one block: what the least keys of the candidates are the keys of, and that the blocks behind stay as they are.
use mathlib.Core.Path.{◌≡◌, refl, sym, ap, ◌∙◌}
use mathlib.Core.Logic.{inr}
use mathlib.Core.List.{List}
use Prim.Native.Nat.{ℕ, ◌+◌, ◌-◌, ◌*◌, ◌≤◌, ◌<◌}
use native.Mathlib.Nat.{mul-le-mul_right}
use native.Mathlib.Decide.{dec_le}
use native.Mathlib.Omega.{arith}
use lib.ListN.{get_or}
use Rattle.format.specs.Limits.{Prices}
use Rattle.format.specs.Forest.{Forest, end, Allowed, siblings}
use Rattle.optimum.specs.Cheapest.{Run, front, back, Power, plain, power, price, best_cost}
use Rattle.optimum.specs.Matches.{Matched}
use Rattle.optimum.proofs.Cut.{back_back, run_back, siblings_cut, siblings_back, siblings_piece}
use Rattle.optimum.proofs.Powers.{reach, node_back, power_front, power_of_front}
use Rattle.optimum.proofs.Least.{price_power, least_one}
use Rattle.optimum.proofs.Cheapest.{price_plain, best_cost_end}
use Rattle.optimum.proofs.Level.{plain_at, power_at}
use Rattle.optimum.proofs.Matches.{copy_more, near_power, power_near}
use Rattle.blocks.specs.declared.keys.Key.{Key}
use Rattle.blocks.specs.Keys.{bases, packed, pair_base, order, slot, tail_slot, count_slot, both_in, pair_in, SameKey, Touched}
use Rattle.blocks.specs.Solved.{Best, BestCount, behind, Solved, Modest}
use Rattle.blocks.proofs.Slots.{touched_same}
use Rattle.blocks.proofs.Flats.{run, flat_front, flat_back}
use Rattle.blocks.proofs.Bests.{Lowest, lowest_best, two_later, count_only, count_more}
use Rattle.tails.specs.declared.rates.Rates.{Rates}
use Rattle.tails.specs.Solving.{plain_key, repeat_key, Fits, StretchCame, by_plain, by_repeat, Stretched, two_key, more_key, Counted, plain_tail, Twice, TailCame, by_width, Tailed, RowReady, OwnCost, StretchesBelow, CountsBelow}

-- Nothing costs nothing.
pub best_end : (A : Allowed) (P : Prices) → Best A P end 0 0
unfolding siblings
best_end A P =
    record {
      count = 0;
      width = 0;
      least = least_one A P bases (best_cost A P) end (omega arith);
      is_cost = sym (best_cost_end A P);
      is_pair = refl;
    }

-- A key that stands elsewhere too.
pub best_same : {A : Allowed} {P : Prices} {T : Forest} {W X : List ℕ} {e : ℕ} → SameKey W X e → Best A P T (both_in W e) (pair_in W e)
    → Best A P T (both_in X e) (pair_in X e)
best_same s b =
    record { count = b.count; width = b.width; least = b.least; is_cost = s.both ∙ b.is_cost; is_pair = s.pair ∙ b.is_pair }

pub count_same : {A : Allowed} {P : Prices} {t : Forest} {i w : ℕ} {W X : List ℕ} {e : ℕ} → SameKey W X e
    → BestCount A P t i w (both_in W e) (pair_in W e) → BestCount A P t i w (both_in X e) (pair_in X e)
count_same s b =
    record {
      count = b.count;
      power = b.power;
      is_cost = s.both ∙ b.is_cost;
      is_pair = s.pair ∙ b.is_pair;
      least = λ h p. omega (arith, b.least h p, s.both);
    }

-- A solved block stays solved where another changes.
pub solved_kept : {A : Allowed} {P : Prices} {t : Forest} {W X : List ℕ} (i j : ℕ) → Modest A P t → Touched i W X → i < j → Solved A P t W j
    → Solved A P t X j
solved_kept i j m p l s =
    record {
      stretch = λ d n f. best_same (touched_same i j d p (inr l) (omega (arith, m.narrow))) (s.stretch d n f);
      tail = best_same (touched_same i j tail_slot p (inr l) (omega arith)) s.tail;
      counts = λ w q. count_same (touched_same i j (count_slot w) p (inr l) (omega (arith, m.narrow, q.repeats.within))) (s.counts w q);
    }

module _ {W M : List ℕ} {R : Rates} {limit n i : ℕ} where
  unfoldable pub ready_kept : {X : List ℕ} → Touched i W X → RowReady W M R limit n i → RowReady X M R limit n i
  ready_kept p z =
      record {
        allowed = z.allowed;
        prices = z.prices;
        tree = z.tree;
        modest = z.modest;
        limited = z.limited;
        all = z.all;
        here = z.here;
        first = z.first;
        each = z.each;
        matching = z.matching;
        solved = λ j l n. solved_kept i j z.modest p (omega arith) (z.solved j l n);
        room = omega (arith, z.room, p.same_length);
      }

-- What the matches allow is what may stand first.
module _ {W M : List ℕ} {R : Rates} {limit n i : ℕ} (z : RowReady W M R limit n i) where
  abbrev A : Allowed
  A = z.allowed

  abbrev P : Prices
  P = z.prices

  abbrev t : Forest
  t = z.tree

  abbrev c : Forest → ℕ
  c x = best_cost A P x

  here_run : Run A (back i t)
  here_run = run_back i (run z.modest)

  size : i + siblings (back i t) ≡ siblings t
  size = siblings_back i t (run z.modest).plain (omega (arith, z.here, z.all))

  -- Where steps match there are as many.
  pub match_inside : (w : ℕ) → 0 < w → w ≤ A.widest → 0 < get_or M w 0 → i + w + get_or M w 0 ≤ siblings t
  match_inside w pos within some = elim (dec_le (i + w) (siblings t)) [
    | yes l ↦ omega (arith, size, (z.matching.matched w pos within l).bound)
    | no l ↦ absurd (omega (arith, z.matching.none w pos within (omega arith)))
  ]

  pub near_here : (h w : ℕ) → 2 ≤ h → 0 < w → w ≤ A.widest → h * w ≤ get_or M w 0 + w → Power A (back i t) h w
  near_here h w twice pos within near =
      let e = copy_more (h - 1) h w (omega arith) in
      let one : w ≤ (h - 1) * w = omega (arith, mul-le-mul_right {m = 1} {n = h - 1} w (omega arith)) in
      let l = match_inside w pos within (omega arith) in
      near_power h w (get_or M w 0) here_run pos within (z.matching.matched w pos within (omega arith)) twice (omega arith)

  pub here_near : (h w : ℕ) → Power A (back i t) h w → (h * w ≤ get_or M w 0 + w) × (i + h * w ≤ siblings t) × (w ≤ A.widest) × (0 < w) × (2 * w ≤ h * w)
  here_near h w p =
      let r = reach p in
      let e = copy_more (h - 1) h w (omega (arith, p.repeats.twice)) in
      let pos : 0 < w = r.some in
      let within = p.repeats.within in
      let l : i + w ≤ siblings t = omega (arith, size, r.covers, r.width) in
      let near = power_near h w (get_or M w 0) here_run (z.matching.matched w pos within l) p in
      (omega arith, omega (arith, size, r.covers), within, pos, r.width)

  -- The blocks behind: the cost of a stretch, and of a tail.
  behind_stretch : (j d : ℕ) → i < j → d ≤ A.widest → j + d ≤ siblings t → both_in W (slot j d) ≡ c (front d (back j t))
  behind_stretch j d l n f = ((z.solved j (omega arith) (omega arith)).stretch d n f).is_cost

  behind_tail : (j : ℕ) → i < j → j ≤ siblings t → both_in W (slot j tail_slot) ≡ c (back j t)
  behind_tail j l f = (z.solved j (omega arith) f).tail.is_cost

  -- The stretch of d steps.
  module _ (own d : ℕ) (o : OwnCost z own) (pos : 0 < d) (within : d ≤ A.widest) (fits : i + d ≤ siblings t) (shorter : StretchesBelow z W d) where
    abbrev T : Forest
    T = front d (back i t)

    plain_price : price P (best_cost A P) T 0 0 ≡ (plain_key W own i d).both
    plain_price =
        omega (
          arith,
          plain_at A P t i (i + 1) (d - 1) d (run z.modest) refl (omega arith),
          o,
          behind_stretch (i + 1) (d - 1) (omega arith) (omega arith) (omega arith),
        )

    repeat_price : (h w : ℕ) → Power A (back i t) h w → h * w ≤ d → price P (best_cost A P) T h w ≡ (repeat_key W R i d w h).both
    repeat_price h w p l =
        let r = here_near h w p in
        let body = (shorter w (omega (arith, r.3, r.4)) r.2 (omega (arith, r.1, r.4))).is_cost in
        let rest = behind_stretch (i + h * w) (d - h * w) (omega (arith, r.3, r.4)) (omega arith) (omega arith) in
        omega (arith, power_at A P t i (i + h * w) (d - h * w) d h w p refl (omega arith), z.first, ap (λ (e : ℕ). e * (h - 2)) z.each)

    fitting : (h w : ℕ) → Fits M d h w → Power A (back i t) h w
    fitting h w f =
        near_here h w f.twice f.some (omega (arith, f.inside, within, mul-le-mul_right w f.twice)) f.near

    pub stretch_best : (k : Key) → Stretched W M R own i d 33 k → Best A P T k.both k.pair
    stretch_best k s =
        lowest_best z.modest T (flat_front d (back i t) (flat_back i t z.modest.flat)) (omega (arith, z.modest.few, siblings_cut d (back i t), size)) k
        (by_came s.came)
      where
        low : (h w : ℕ) → Power A T h w → order k ≤ price P (best_cost A P) T h w * pair_base + packed h w
        low h w p =
            let q = power_of_front d here_run.plain p in
            let r = here_near h w q in
            let cover : h * w ≤ d = omega (arith, (reach p).covers, siblings_piece i d (run z.modest) fits) in
            let f : Fits M d h w = record { twice = q.repeats.twice; some = r.3; inside = cover; near = r.0 } in
            omega (arith, s.repeats h w (omega (arith, r.2, z.modest.narrow)) f, repeat_price h w q cover)

        by_came : StretchCame W M R own i d k → Lowest A P T k
        by_came (by_plain e) =
            record {
              count = 0;
              width = 0;
              candidate = plain;
              is_cost = ap (λ (x : Key). x.both) e ∙ sym plain_price;
              is_pair = ap (λ (x : Key). x.pair) e;
              plainly = omega (arith, s.plainly, plain_price);
              repeats = low;
            }
        by_came (by_repeat h w f e) =
            let p = fitting h w f in
            record {
              count = h;
              width = w;
              candidate = power (power_front d f.inside p);
              is_cost = ap (λ (x : Key). x.both) e ∙ sym (repeat_price h w p f.inside);
              is_pair = ap (λ (x : Key). x.pair) e;
              plainly = omega (arith, s.plainly, plain_price);
              repeats = low;
            }

  -- The best count at width w.
  pub count_best : (w : ℕ) → w ≤ A.widest → Twice M w → (k : Key) → Counted W R i w (get_or M w 0) k → BestCount A P t i w k.both k.pair
  count_best w within two k r = elim (dec_le (2 * w) (get_or M w 0)) [
    | yes l ↦
        let a : i + w < siblings t = omega (arith, inside, two.some) in
        let p = two_later z.modest i w (get_or M w 0) matched two.some within two.copy l in
        let b = (z.solved (i + w) (omega (arith, two.some)) (omega arith)).counts w p in
        count_more z.modest i w (get_or M w 0) matched two.some within two.copy l (two_key W i w) (more_key W R i w) k two_cost refl _ _ b
        (omega (arith, z.each)) refl (r.more l)
    | no l ↦
        let e = r.only (omega arith) in
        let b = count_only z.modest i w (get_or M w 0) matched two.some within two.copy (omega arith) in
        rw (e, two_cost) b
  ]
    where
      inside : i + w + get_or M w 0 ≤ siblings t
      inside = match_inside w two.some within (omega (arith, two.some, two.copy))

      matched : Matched A.marked (back i t) w (get_or M w 0)
      matched = z.matching.matched w two.some within (omega (arith, inside))

      two_cost : both_in W (slot (i + 2 * w) tail_slot) ≡ c (back (i + 2 * w) t)
      two_cost = behind_tail (i + 2 * w) (omega (arith, two.some)) (omega (arith, inside, two.copy))

  -- The tail, by the stretches and the best counts of this block.
  module _ (own : ℕ) (o : OwnCost z own) (stretches : StretchesBelow z W 33) (counts : CountsBelow z W 33) where
    plain_tail_price : price P (best_cost A P) (back i t) 0 0 ≡ (plain_tail W own i).both
    plain_tail_price =
        omega (
          arith,
          price_plain A P (back i t) here_run,
          ap (best_cost A P) (node_back i 0 i t (omega arith)),
          ap (best_cost A P) (back_back i 1 (i + 1) t refl),
          o,
          behind_tail (i + 1) (omega arith) (omega (arith, z.here, z.all)),
        )

    -- A width of which there are two copies, its body and its best count.
    pub record Wide (w : ℕ) : Type 0 where
      pub best : BestCount A P t i w (both_in W (slot i (count_slot w))) (pair_in W (slot i (count_slot w)))
      pub body : both_in W (slot i w) ≡ c (front w (back i t))

    pub wide : (w : ℕ) → w ≤ A.widest → Twice M w → Wide w
    wide w within two =
        let p = near_here 2 w (omega arith) two.some within (omega (arith, two.copy)) in
        let l = here_near 2 w p in
        record {
          best = counts w (omega (arith, z.modest.narrow)) p;
          body = (stretches w (omega (arith, z.modest.narrow)) within (omega (arith, l.1))).is_cost;
        }

    wide_price : (h w : ℕ) → Power A (back i t) h w → Wide w
        → price P (best_cost A P) (back i t) h w ≡ R.first + both_in W (slot i w) + behind A P t i w h
    wide_price h w p v =
        omega (
          arith,
          price_power P (best_cost A P) (back i t) h w p.repeats.twice,
          ap (best_cost A P) (back_back i (h * w) (i + h * w) t refl),
          v.body,
          z.first,
        )

    pub tail_best : (k : Key) → Tailed W M R own i limit (limit + 1) k → Best A P (back i t) k.both k.pair
    tail_best k s =
        lowest_best z.modest (back i t) (flat_back i t z.modest.flat) (omega (arith, z.modest.few, size)) k (by_came s.came)
      where
        low : (h w : ℕ) → Power A (back i t) h w → order k ≤ price P (best_cost A P) (back i t) h w * pair_base + packed h w
        low h w p =
            let r = here_near h w p in
            let two : Twice M w = record { some = r.3; copy = omega (arith, r.0, r.4) } in
            let v = wide w r.2 two in
            let b = v.best in
            omega (
              arith,
              s.widths w (omega (arith, r.2, z.limited)) two,
              wide_price h w p v,
              b.least h p,
              b.is_pair,
            )

        by_came : TailCame W M R own i limit k → Lowest A P (back i t) k
        by_came (by_plain e) =
            record {
              count = 0;
              width = 0;
              candidate = plain;
              is_cost = ap (λ (x : Key). x.both) e ∙ sym plain_tail_price;
              is_pair = ap (λ (x : Key). x.pair) e;
              plainly = omega (arith, s.plainly, plain_tail_price);
              repeats = low;
            }
        by_came (by_width w l two e) =
            let v = wide w (omega (arith, z.limited)) two in
            let b = v.best in
            record {
              count = b.count;
              width = w;
              candidate = power b.power;
              is_cost = omega (arith, ap (λ (x : Key). x.both) e, wide_price b.count w b.power v, b.is_cost);
              is_pair = ap (λ (x : Key). x.pair) e ∙ b.is_pair;
              plainly = omega (arith, s.plainly, plain_tail_price);
              repeats = low;
            }

    -- A best count's pair is small.
    pub wide_small : (w : ℕ) → w ≤ A.widest → Twice M w → pair_in W (slot i (count_slot w)) < pair_base
    wide_small w within two =
        let b = (wide w within two).best in
        let r = here_near b.count w b.power in
        omega (arith, b.is_pair, (reach b.power).count, r.1, z.modest.few, z.modest.narrow)
