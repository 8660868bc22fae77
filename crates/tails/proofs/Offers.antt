-- The counts of one width, offered one after the other; and the widths of one stretch, and of one tail.
use mathlib.Core.Path.{◌≡◌, refl, ap, ◌∙◌}
use mathlib.Core.Logic.{◌⊎◌, inl, inr}
use mathlib.Core.List.{List}
use Prim.Native.Nat.{ℕ, ◌+◌, ◌*◌, ◌≤◌, ◌<◌}
use native.Mathlib.Nat.{mul-le-mul_right}
use native.Mathlib.Decide.{dec_le, dec_lt, ℕ_discrete}
use native.Mathlib.Omega.{arith}
use lib.ListN.{get_or}
use Rattle.blocks.specs.declared.keys.Key.{Key}
use Rattle.blocks.specs.Keys.{pair_base, order, Lesser, slot, count_slot, both_in, pair_in, key_in}
use Rattle.tails.specs.declared.rates.Rates.{Rates}
use Rattle.tails.specs.Solving.{plain_key, repeat_key, Within, OfferCame, kept, taken, Offered, WidthCame, WidthOffered, StretchCame, by_plain, by_repeat, Stretched, plain_tail, repeat_tail, Twice, TailOffered, TailCame, by_width, Tailed}

-- Keys of the same numbers are the same.
abbrev pub made : (both pair : ℕ) → Key
made x y = record { both = x; pair = y }

pub same_key : (a b : Key) → a.both ≡ b.both → a.pair ≡ b.pair → a ≡ b
same_key a b p q = ap (λ (x : ℕ). made x a.pair) p ∙ ap (made b.both) q

-- A key that was read.
pub read_both : (W : List ℕ) {k : Key} {e : ℕ} (f : ℕ) → k ≡ key_in W e → e ≡ f → k.both ≡ both_in W f
read_both W f p q = ap (λ (x : Key). x.both) p ∙ ap (both_in W) q

pub read_pair : (W : List ℕ) {k : Key} {e : ℕ} (f : ℕ) → k ≡ key_in W e → e ≡ f → k.pair ≡ pair_in W f
read_pair W f p q = ap (λ (x : Key). x.pair) p ∙ ap (pair_in W) q

-- The earlier of two keys keeps to small pairs.
pub lesser_small : {a b r : Key} → Lesser a b r → a.pair < pair_base → b.pair < pair_base → r.pair < pair_base
lesser_small {a} {b} {r} l p q = by_one l.one
  where
    by_one : (r ≡ a) ⊎ (r ≡ b) → r.pair < pair_base
    by_one (inl e) = rw e p
    by_one (inr e) = rw e q

-- The same numbers, in other words.
pub lesser_as : {a b r : Key} (x y : Key) → Lesser a b r → a.both ≡ x.both → a.pair ≡ x.pair → b.both ≡ y.both → b.pair ≡ y.pair
    → Lesser x y r
lesser_as {a} {b} {r} x y l p q u v = rw (same_key a x p q, same_key b y u v) at l

-- The counts below `count` are offered.
pub record Offering (W : List ℕ) (R : Rates) (i d w reach : ℕ) (best least : Key) (count : ℕ) : Type 0 where
  pub twice : 2 ≤ count
  pub came : OfferCame W R i d w reach best least
  pub lower : order least ≤ order best
  pub each : (h : ℕ) → h < count → Within reach w h → order least ≤ order (repeat_key W R i d w h)
  pub small : least.pair < pair_base

module _ (W : List ℕ) (R : Rates) (i d w reach : ℕ) (best : Key) where
  pub offering_none : best.pair < pair_base → Offering W R i d w reach best best 2
  offering_none s =
      record {
        twice = omega arith;
        came = kept refl;
        lower = omega arith;
        each = λ h b q. absurd (omega (arith, q.twice));
        small = s;
      }

  module _ (least : Key) (count : ℕ) (o : Offering W R i d w reach best least count) where
    -- One count more.
    pub offering_more : count * w ≤ reach → (x r : Key) → x ≡ repeat_key W R i d w count → x.pair < pair_base
        → Lesser least x r → Offering W R i d w reach best r (count + 1)
    offering_more l x r here low z =
        record {
          twice = omega (arith, o.twice);
          came = by_one z.one;
          lower = omega (arith, o.lower, z.left);
          each = λ h b q. elim (ℕ_discrete h count) [
            | yes c ↦ rw c (omega (arith, z.right, ap order here))
            | no c ↦ omega (arith, z.left, o.each h (omega arith) q)
          ];
          small = lesser_small z o.small low;
        }
      where
        by_one : (r ≡ least) ⊎ (r ≡ x) → OfferCame W R i d w reach best r
        by_one (inl a) = rw a o.came
        by_one (inr a) = taken count (record { twice = o.twice; fits = l }) (a ∙ here)

    pub offering_all : reach < count * w → Offered W R i d w reach best least
    offering_all l =
        record {
          came = o.came;
          lower = o.lower;
          each = λ h q. elim (dec_lt h count) [
            | yes b ↦ o.each h b q
            | no b ↦
                let m : count * w ≤ h * w = mul-le-mul_right w (omega arith) in
                absurd (omega (arith, q.fits))
          ];
          small = o.small;
        }

-- One width of a stretch, by its counts.
module _ (W M : List ℕ) (R : Rates) (i d w : ℕ) (best : Key) where
  pub width_none : get_or M w 0 < w → best.pair < pair_base → WidthOffered W M R i d w best best
  width_none l s =
      record {
        came = kept refl;
        lower = omega arith;
        each = λ h f. absurd (omega (arith, f.near, mul-le-mul_right w f.twice, f.some));
        small = s;
      }

  pub width_some : (reach : ℕ) → 0 < w → reach ≤ d → reach ≤ get_or M w 0 + w → ((c : ℕ) → c ≤ d → c ≤ get_or M w 0 + w → c ≤ reach) → (r : Key)
      → Offered W R i d w reach best r → WidthOffered W M R i d w best r
  width_some reach pos a b most r o =
      record {
        came = by_came o.came;
        lower = o.lower;
        each = λ h f. o.each h (record { twice = f.twice; fits = most (h * w) f.inside f.near });
        small = o.small;
      }
    where
      by_came : OfferCame W R i d w reach best r → WidthCame W M R i d w best r
      by_came (kept e) = kept e
      by_came (taken h f e) =
          taken h (record { twice = f.twice; some = pos; inside = omega (arith, f.fits); near = omega (arith, f.fits) }) e

-- The widths of a stretch.
module _ (W M : List ℕ) (R : Rates) (own i d : ℕ) where
  pub stretched_none : (k : Key) → k.both ≡ (plain_key W own i d).both → k.pair ≡ 0 → Stretched W M R own i d 1 k
  stretched_none k e f =
      let g = same_key k (plain_key W own i d) e f in
      record {
        came = by_plain g;
        plainly = omega (arith, ap order g);
        repeats = λ h w l q. absurd (omega (arith, q.some));
        small = omega arith;
      }

  pub stretched_more : (v u : ℕ) (k r : Key) → u ≡ v + 1 → Stretched W M R own i d v k → WidthOffered W M R i d v k r → Stretched W M R own i d u r
  stretched_more v u k r e s o =
      record {
        came = by_came o.came;
        plainly = omega (arith, s.plainly, o.lower);
        repeats = λ h w l f. elim (ℕ_discrete w v) [
          | yes q ↦ rw q (o.each h (rw q at f))
          | no q ↦ omega (arith, o.lower, s.repeats h w (omega arith) f)
        ];
        small = o.small;
      }
    where
      by_came : WidthCame W M R i d v k r → StretchCame W M R own i d r
      by_came (kept q) = rw q s.came
      by_came (taken h f q) = by_repeat h v f q

  pub stretched_all : (v : ℕ) (k : Key) → d < v + v → Stretched W M R own i d v k → Stretched W M R own i d 33 k
  stretched_all v k l s =
      record {
        came = s.came;
        plainly = s.plainly;
        repeats = λ h w b f. s.repeats h w (omega (arith, f.inside, mul-le-mul_right w f.twice)) f;
        small = s.small;
      }

-- The widths of a tail.
module _ (W M : List ℕ) (R : Rates) (own i limit : ℕ) where
  pub tailed_none : (k : Key) → k.both ≡ (plain_tail W own i).both → k.pair ≡ 0 → Tailed W M R own i limit 1 k
  tailed_none k e f =
      let g = same_key k (plain_tail W own i) e f in
      record {
        came = by_plain g;
        plainly = omega (arith, ap order g);
        widths = λ w l q. absurd (omega (arith, q.some));
        small = omega arith;
      }

  pub tailed_more : (v u : ℕ) (k r : Key) → u ≡ v + 1 → 0 < v → v ≤ limit → (Twice M v → pair_in W (slot i (count_slot v)) < pair_base)
      → Tailed W M R own i limit v k → TailOffered W M R i v k r → Tailed W M R own i limit u r
  tailed_more v u k r e pos within small s o = elim (dec_le v (get_or M v 0)) [
    | yes l ↦
        let two : Twice M v = record { some = pos; copy = l } in
        let z = o.some two in
        record {
          came = by_one two z.one;
          plainly = omega (arith, s.plainly, z.left);
          widths = λ w b f. elim (ℕ_discrete w v) [
            | yes q ↦ rw q z.right
            | no q ↦ omega (arith, z.left, s.widths w (omega arith) f)
          ];
          small = lesser_small z s.small (small two);
        }
    | no l ↦
        let q = o.none (λ f. l f.copy) in
        rw q (record {
          came = s.came;
          plainly = s.plainly;
          widths = λ w b f. elim (ℕ_discrete w v) [
            | yes g ↦ absurd (l (rw g at f.copy))
            | no g ↦ s.widths w (omega arith) f
          ];
          small = s.small;
        })
  ]
    where
      by_one : Twice M v → (r ≡ k) ⊎ (r ≡ repeat_tail W R i v) → TailCame W M R own i limit r
      by_one two (inl q) = rw q s.came
      by_one two (inr q) = by_width v within two q

  pub tailed_all : (v : ℕ) (k : Key) → limit < v → Tailed W M R own i limit v k → Tailed W M R own i limit (limit + 1) k
  tailed_all v k l s =
      record { came = s.came; plainly = s.plainly; widths = λ w b f. s.widths w (omega arith) f; small = s.small }
