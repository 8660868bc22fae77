-- What an optimal fold is made of, by exchange: it is unique, its pieces are optimal for what they unroll to, and a better
-- piece makes a better whole.
use mathlib.Core.Path.{◌≡◌, refl, sym, ap, ◌∙◌}
use mathlib.Core.Logic.{inl, inr}
use mathlib.Core.List.{List, [], ◌∷◌, ◌++◌, append-nil}
use Prim.Native.Nat.{ℕ, ◌+◌, ◌≤◌, ◌<◌}
use native.Mathlib.Decide.{dec_lt}
use native.Mathlib.Omega.{arith}
use Rattle.format.specs.Limits.{Prices, of_repeat}
use Rattle.format.specs.Forest.{Forest, end, step, group, repeat, join, unroll, cost, form_in, bytes, two_bytes, Allowed, Sound}
use Rattle.format.specs.Order.{Before}
use Rattle.format.proofs.Forests.{bytes_join, cost_join, unroll_join, sound_join, sound_parts}
use Rattle.format.proofs.Order.{irreflexive, asymmetric, transitive, under, ignores, Ordered, compare}
use Rattle.optimum.specs.Optimal.{FoldOf, NoWorse, cheaper, same, earlier, Optimal}

-- The order of folds.
pub no_dearer : {P : Prices} {f g : Forest} → NoWorse P f g → cost P f ≤ cost P g
no_dearer (cheaper h) = omega arith
no_dearer (same e) = rw e (omega arith)
no_dearer (earlier e h) = omega arith

pub no_worse_transitive : {P : Prices} {f g k : Forest} → NoWorse P f g → NoWorse P g k → NoWorse P f k
no_worse_transitive (same e) n = rw e n
no_worse_transitive (cheaper h) (cheaper k) = cheaper (omega arith)
no_worse_transitive (cheaper h) (same e) = cheaper (rw e at h)
no_worse_transitive (cheaper h) (earlier e k) = cheaper (omega arith)
no_worse_transitive (earlier e h) (cheaper k) = cheaper (omega arith)
no_worse_transitive (earlier e h) (same k) = rw (← k) (earlier e h)
no_worse_transitive (earlier e h) (earlier i k) = earlier (e ∙ i) (transitive h k)

pub antisymmetric : {P : Prices} {f g : Forest} → NoWorse P f g → NoWorse P g f → f ≡ g
antisymmetric (same e) n = e
antisymmetric (cheaper h) n = absurd (omega (arith, no_dearer n))
antisymmetric (earlier e h) (cheaper k) = absurd (omega arith)
antisymmetric (earlier e h) (same k) = sym k
antisymmetric (earlier e h) (earlier i k) = absurd (asymmetric h k)

-- What is no worse and comes later is cheaper.
later_cheaper : {P : Prices} {f g : Forest} → NoWorse P f g → Before (bytes g) (bytes f) → cost P f < cost P g
later_cheaper (cheaper h) k = h
later_cheaper {g} (same e) k = absurd (irreflexive (bytes g) (rw e at k))
later_cheaper (earlier e h) k = absurd (asymmetric h k)

-- The optimal fold is one.
pub unique : (A : Allowed) (P : Prices) (t f g : Forest) → Optimal A P t f → Optimal A P t g → f ≡ g
unique A P t f g o q = antisymmetric (o.best g q.fold) (q.best f o.fold)

-- A place in a fold: what stands around it is spelt and paid apart from what stands in it.
record Place (P : Prices) (around : Forest → Forest) : Type 0 where
  ahead : List ℕ
  behind : List ℕ
  other : ℕ
  spelt : (x : Forest) → bytes (around x) ≡ ahead ++ (bytes x ++ behind)
  paid : (x : Forest) → cost P (around x) ≡ other + cost P x

-- What is no worse by itself is no worse in its place, and back for folds of one run.
module _ (P : Prices) (around : Forest → Forest) (at : Place P around) where
  before_in_place : (x y : Forest) → Before (bytes x) (bytes y) → Before (bytes (around x)) (bytes (around y))
  before_in_place x y h = rw (at.spelt x, at.spelt y) (under at.ahead (ignores h at.behind at.behind))

  in_place : (x y : Forest) → NoWorse P x y → NoWorse P (around x) (around y)
  in_place x y (cheaper h) = cheaper (omega (arith, at.paid x, at.paid y))
  in_place x y (same e) = same (ap around e)
  in_place x y (earlier e h) = earlier (omega (arith, at.paid x, at.paid y)) (before_in_place x y h)

  by_itself : (x y : Forest) → Ordered x y → NoWorse P (around x) (around y) → NoWorse P x y
  by_itself x y (inl e) n = same e
  by_itself x y (inr (inl h)) n = go (dec_lt (cost P x) (cost P y))
    where
      go : Dec (cost P x < cost P y) → NoWorse P x y
      go (yes k) = cheaper k
      go (no k) = earlier (omega (arith, no_dearer n, at.paid x, at.paid y)) h
  by_itself x y (inr (inr h)) n = cheaper (omega (arith, later_cheaper n (before_in_place y x h), at.paid x, at.paid y))

  -- Exchange: what stands in a place of an optimal fold is optimal.
  exchange : (A : Allowed) (t x : Forest) → Sound A x → ((y : Forest) → FoldOf A (unroll x) y → FoldOf A t (around y))
      → Optimal A P t (around x) → Optimal A P (unroll x) x
  exchange A t x p put o = record {
    fold = record { sound = p; unrolls = refl };
    best = λ y q. by_itself x y (compare A x y p q.sound (sym q.unrolls)) (o.best (around y) (put y q));
  }

-- The places: either part of a join, and the body of a group or of a repeat.
first_of_join : (P : Prices) (y : Forest) → Place P (λ x. join x y)
first_of_join P y = record {
  ahead = [];
  behind = bytes y;
  other = cost P y;
  spelt = λ x. bytes_join x y;
  paid = λ x. omega (arith, cost_join P x y);
}

last_of_join : (P : Prices) (x : Forest) → Place P (join x)
last_of_join P x = record {
  ahead = bytes x;
  behind = [];
  other = cost P x;
  spelt = λ y. rw append-nil (bytes_join x y);
  paid = λ y. cost_join P x y;
}

body_of_group : (P : Prices) (l : ℕ) (f : Forest) → Place P (λ b. group l b f)
unfolding form_in cost
body_of_group P l f = record {
  ahead = 0x11 ∷ l ∷ [];
  behind = 0x12 ∷ bytes f;
  other = P.of_group l + cost P f;
  spelt = λ b. refl;
  paid = λ b. omega arith;
}

body_of_repeat : (P : Prices) (h w : ℕ) (f : Forest) → Place P (λ b. repeat h w b f)
unfolding form_in cost
body_of_repeat P h w f = record {
  ahead = 0x20 ∷ two_bytes h (two_bytes w []);
  behind = 0x21 ∷ bytes f;
  other = of_repeat P h + cost P f;
  spelt = λ b. refl;
  paid = λ b. omega arith;
}

-- Each piece of an optimal fold is optimal for what it unrolls to.
pub pieces : (A : Allowed) (P : Prices) (t x y : Forest) → Optimal A P t (join x y) → Optimal A P (unroll x) x × Optimal A P (unroll y) y
pieces A P t x y o =
    let s = sound_parts A x y o.fold.sound in
    let t_is : join (unroll x) (unroll y) ≡ t = sym (unroll_join x y) ∙ o.fold.unrolls in (
      exchange P (λ z. join z y) (first_of_join P y) A t x s.0
          (λ z p. record { sound = sound_join A z y p.sound s.1; unrolls = unroll_join z y ∙ rw p.unrolls t_is }) o,
      exchange P (join x) (last_of_join P x) A t y s.1
          (λ z p. record { sound = sound_join A x z s.0 p.sound; unrolls = unroll_join x z ∙ rw p.unrolls t_is }) o,
    )

-- No worse parts make a no worse whole. So, by `best` of optimal parts, no fold with the same first item is better than theirs.
pub join_no_worse : (P : Prices) (x x' y y' : Forest) → NoWorse P x x' → NoWorse P y y' → NoWorse P (join x y) (join x' y')
join_no_worse P x x' y y' m n =
    no_worse_transitive (in_place P (λ z. join z y) (first_of_join P y) x x' m) (in_place P (join x') (last_of_join P x') y y' n)

pub step_no_worse : (P : Prices) (l : ℕ) (f f' : Forest) → NoWorse P f f' → NoWorse P (step l f) (step l f')
unfolding join
step_no_worse P l f f' n = join_no_worse P (step l end) (step l end) f f' (same refl) n

pub group_no_worse : (P : Prices) (l : ℕ) (b b' f f' : Forest) → NoWorse P b b' → NoWorse P f f' → NoWorse P (group l b f) (group l b' f')
unfolding join
group_no_worse P l b b' f f' m n =
    join_no_worse P (group l b end) (group l b' end) f f' (in_place P (λ c. group l c end) (body_of_group P l end) b b' m) n

pub repeat_no_worse : (P : Prices) (h w : ℕ) (b b' f f' : Forest) → NoWorse P b b' → NoWorse P f f'
    → NoWorse P (repeat h w b f) (repeat h w b' f')
unfolding join
repeat_no_worse P h w b b' f f' m n =
    join_no_worse P (repeat h w b end) (repeat h w b' end) f f' (in_place P (λ c. repeat h w c end) (body_of_repeat P h w end) b b' m) n
