-- Why ten repeats inside each other are enough, for the format and for season runs: each level at least doubles the nodes of what
-- it holds.
use mathlib.Core.Path.{◌≡◌, refl}
use Prim.Native.Nat.{ℕ, suc, ◌*◌, ◌^◌, ◌≤◌, ◌<◌, max}
use native.Mathlib.Nat.{mul-le-mul, mul-le-mul_left, pow-succ', pow-le-pow_right}
use native.Mathlib.Decide.{dec_le}
use native.Mathlib.Omega.{arith}
use Rattle.format.specs.Limits.{limits, season}
use Rattle.format.specs.Forest.{Forest, end, step, group, repeat, siblings, nodes, Allowed, Sound, group_depth, repeat_depth}

-- A sequence has its siblings' nodes and those inside them.
pub siblings_nodes : (f : Forest) → siblings f ≤ nodes f
unfolding siblings nodes
siblings_nodes end = omega arith
siblings_nodes (step l f) = omega (arith, siblings_nodes f)
siblings_nodes (group l b f) = omega (arith, siblings_nodes f)
siblings_nodes (repeat h w b f) = omega (arith, mul-le-mul_left h (siblings_nodes b), siblings_nodes f)

pow_max : (a b n : ℕ) → 2 ^ a ≤ n → 2 ^ b ≤ n → 2 ^ max a b ≤ n
pow_max a b n p q = go (dec_le a b)
  where
    go : Dec (a ≤ b) → 2 ^ max a b ≤ n
    go (yes h) = let e : max a b ≡ b = omega arith in rw e q
    go (no h) = let e : max a b ≡ a = omega arith in rw e p

doubled : (h d n : ℕ) → 2 ≤ h → 2 ^ d ≤ n → 2 ^ suc d ≤ h * n
doubled h d n twice p = rw (pow-succ' 2 d) (mul-le-mul twice p)

-- d repeats inside each other unroll to at least 2 ^ d nodes.
depth_nodes : (A : Allowed) (f : Forest) → Sound A f → 2 ^ repeat_depth f ≤ max 1 (nodes f)
unfolding repeat_depth nodes
depth_nodes A end z = omega arith
depth_nodes A (step l f) z = omega (arith, depth_nodes A f z)
depth_nodes A (group l b f) z =
    pow_max (repeat_depth b) (repeat_depth f) _
    (omega (arith, depth_nodes A b z.1))
    (omega (arith, depth_nodes A f z.2))
depth_nodes A (repeat h w b f) z =
    let i : 2 ^ repeat_depth b ≤ nodes b = omega (arith, depth_nodes A b z.1, siblings_nodes b, z.0.some) in
    pow_max (suc (repeat_depth b)) (repeat_depth f) _
    (omega (arith, doubled h (repeat_depth b) (nodes b) z.0.twice i))
    (omega (arith, depth_nodes A f z.2))

-- Below 2 ^ (k + 1) no more than k doublings fit.
few_doublings : (d k : ℕ) → 2 ^ d < 2 ^ suc k → d ≤ k
few_doublings d k less = go (dec_le (suc k) d)
  where
    go : Dec (k < d) → d ≤ k
    go (yes h) = let many : 2 ^ suc k ≤ 2 ^ d = pow-le-pow_right (omega arith) h in absurd (omega arith)
    go (no h) = omega arith

-- More repeats inside each other than the format allows never fit the nodes that it allows.
pub depth_fits : (A : Allowed) (f : Forest) → Sound A f → nodes f ≤ limits.nodes → repeat_depth f ≤ limits.repeats
depth_fits A f z few = few_doublings (repeat_depth f) limits.repeats (omega (arith, depth_nodes A f z))

-- Without groups the nodes are the siblings.
flat_siblings : (f : Forest) → group_depth f ≡ 0 → nodes f ≡ siblings f
unfolding group_depth nodes siblings
flat_siblings end e = refl
flat_siblings (step l f) e = omega (arith, flat_siblings f e)
flat_siblings (group l b f) e = absurd (omega arith)
flat_siblings (repeat h w b f) e = rw (flat_siblings b (omega arith)) (omega (arith, flat_siblings f (omega arith)))

-- Season folds nest six deep at most: the body of an outermost repeat has at most 32 nodes.
pub season_depth : (A : Allowed) (f : Forest) → Sound A f → A.widest ≤ season.width → group_depth f ≡ 0 → repeat_depth f ≤ 6
unfolding group_depth repeat_depth
season_depth A end z narrow flat = omega arith
season_depth A (step l f) z narrow flat = season_depth A f z narrow flat
season_depth A (group l b f) z narrow flat = absurd (omega arith)
season_depth A (repeat h w b f) z narrow flat =
    let r = z.0 in
    let few : 2 ^ repeat_depth b < 2 ^ 6 = omega (arith, depth_nodes A b z.1, flat_siblings b (omega arith), r.true_width, r.within) in
    omega (arith, few_doublings (repeat_depth b) 5 few, season_depth A f z.2 narrow (omega arith))

-- TEN OPEN REPEATS BAR NO SEASON FOLD.
pub season_depth_fits : (A : Allowed) (f : Forest) → Sound A f → A.widest ≤ season.width → group_depth f ≡ 0
    → repeat_depth f ≤ season.repeats
season_depth_fits A f z narrow flat = omega (arith, season_depth A f z narrow flat)
