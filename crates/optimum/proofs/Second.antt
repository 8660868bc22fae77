-- The first two items of an optimal fold: together they are the optimal fold of what they cover, so where a repeat is first in a
-- longer stretch, it is first already in the one that ends with the item behind it.
use mathlib.Core.Path.{◌≡◌, refl, sym, ap, ◌∙◌}
use mathlib.Core.Logic.{◌⊎◌, inl, inr}
use Prim.Native.Nat.{ℕ, zero, suc, ◌+◌, ◌*◌, ◌≤◌, ◌<◌}
use native.Mathlib.Nat.{mul-le-mul}
use native.Mathlib.Omega.{arith}
use Rattle.format.specs.Limits.{Prices}
use Rattle.format.specs.Forest.{Forest, end, step, group, repeat, join, unroll, siblings, Allowed, Sound}
use Rattle.format.proofs.Forests.{unroll_join, siblings_unroll, plain_unroll}
use Rattle.optimum.specs.Optimal.{Optimal}
use Rattle.optimum.specs.Cheapest.{Run, front, back, Power, build, Bases, Spans, Least, cheapest, best_cost}
use Rattle.optimum.proofs.Cut.{join_cut, front_join, siblings_cut}
use Rattle.optimum.proofs.Pieces.{pieces}
use Rattle.optimum.proofs.Powers.{spans_front}
use Rattle.optimum.proofs.Items.{count_of, width_of, parts}
use Rattle.optimum.proofs.Cheapest.{least_builds, least_of_optimal}

-- The item behind the repeat (h, w) that is first in t: what it covers, its pair, and that the repeat is first of both.
pub record Second (A : Allowed) (P : Prices) (B : Bases) (t : Forest) (h w : ℕ) : Type 0 where
  pub size : ℕ
  pub count : ℕ
  pub width : ℕ
  pub some : 0 < size
  pub within : h * w + size ≤ siblings t
  pub covers : (size ≡ 1) ⊎ (size ≡ count * width)
  pub least : Least A P B (best_cost A P) (back (h * w) t) count width
  pub first : Least A P B (best_cost A P) (front (h * w + size) t) h w

-- What the first item of a fold covers.
data FirstItem (f : Forest) : Type 0 where
  covering : 0 < siblings (front 1 f) → (siblings (front 1 f) ≡ 1) ⊎ (siblings (front 1 f) ≡ count_of f * width_of f) → FirstItem f

first_item : (A : Allowed) (f : Forest) → Sound A f → 0 < siblings f → FirstItem f
unfolding front siblings count_of width_of
first_item A end s h = absurd (omega arith)
first_item A (step l f) s h = covering (omega arith) (inl refl)
first_item A (group l b f) s h = covering (omega arith) (inl refl)
first_item A (repeat i v b f) s h =
    let r = s.0 in
    let e : i * siblings b ≡ i * v = rw r.true_width in
    covering (omega (arith, mul-le-mul r.twice r.some)) (inr (omega arith))

module _ (A : Allowed) (P : Prices) (B : Bases) (t : Forest) (b f : Forest) (h w : ℕ) (o : Optimal A P t (repeat h w b f)) where
  abbrev both : Forest
  both = repeat h w b (front 1 f)

  cut : join both (back 1 f) ≡ repeat h w b f
  unfolding join
  cut = ap (repeat h w b) (join_cut 1 f)

  size_both : siblings (unroll both) ≡ h * w + siblings (front 1 f)
  unfolding siblings
  size_both =
      let e : h * siblings b ≡ h * w = rw o.fold.sound.0.true_width in
      siblings_unroll both ∙ omega arith

  covers_both : unroll both ≡ front (h * w + siblings (front 1 f)) t
  covers_both =
      let all : join (unroll both) (unroll (back 1 f)) ≡ t = sym (unroll_join both (back 1 f)) ∙ ap unroll cut ∙ o.fold.unrolls in
      sym (front_join (h * w + siblings (front 1 f)) (unroll both) (unroll (back 1 f)) (plain_unroll both) size_both)
      ∙ ap (front (h * w + siblings (front 1 f))) all

  both_optimal : Optimal A P (front (h * w + siblings (front 1 f)) t) both
  both_optimal = rw covers_both at (pieces A P t both (back 1 f) (rw cut o)).0

  some_left : h * w < siblings t → 0 < siblings f
  unfolding siblings
  some_left more =
      let e : h * siblings b ≡ h * w = rw o.fold.sound.0.true_width in
      omega (arith, siblings_unroll (repeat h w b f), ap siblings o.fold.unrolls)

  rest_optimal : Optimal A P (back (h * w) t) f
  unfolding join
  rest_optimal = rw (parts o.fold).rest.unrolls at (pieces A P t (repeat h w b end) f o).1

  second_of : Run A t → Spans A B t → Spans A B (back (h * w) t) → h * w < siblings t → Second A P B t h w
  unfolding count_of width_of
  second_of r s s' more = by_item (first_item A f o.fold.sound.2 (some_left more))
    where
      by_item : FirstItem f → Second A P B t h w
      by_item (covering p c) =
          record {
            size = siblings (front 1 f);
            count = count_of f;
            width = width_of f;
            some = p;
            within = omega (arith, size_both, ap siblings covers_both, siblings_cut (h * w + siblings (front 1 f)) t);
            covers = c;
            least = least_of_optimal A P B (back (h * w) t) f s' rest_optimal;
            first = least_of_optimal A P B (front (h * w + siblings (front 1 f)) t) both (spans_front (h * w + siblings (front 1 f)) r.plain s) both_optimal;
          }

-- SECOND: every repeat that is first in a run and leaves something has an item behind it.
pub second : (A : Allowed) (P : Prices) (B : Bases) (t : Forest) (h w : ℕ) → Run A t → Spans A B t → Spans A B (back (h * w) t)
    → Power A t h w → Least A P B (best_cost A P) t h w → h * w < siblings t → Second A P B t h w
unfolding build
second A P B t zero w r s s' p l more = absurd (omega (arith, p.repeats.twice))
second A P B t (suc h) w r s s' p l more =
    second_of A P B t (cheapest A P (front w t)) (cheapest A P (back (suc h * w) t)) (suc h) w (least_builds A P B t (suc h) w r s l) r s s' more
