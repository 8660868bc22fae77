-- The stretches that a fold can use: from one of them on it comes to no others.
use mathlib.Core.Path.{◌≡◌, refl, ap, ◌∙◌}
use mathlib.Core.Bool.{Bool}
use mathlib.Core.List.{List}
use Prim.Native.Nat.{ℕ, suc, ◌+◌, ◌-◌, ◌*◌, ◌≤◌}
use native.Mathlib.Nat.{suc-mul}
use native.Mathlib.Omega.{arith}
use Rattle.format.specs.Limits.{Prices}
use Rattle.format.specs.Forest.{Forest, group, Allowed, siblings}
use Rattle.optimum.specs.Cheapest.{Run, front, back, FreeCopy, Power}
use Rattle.optimum.proofs.Cut.{front_front, back_piece, siblings_piece, run_front, run_back}
use Rattle.optimum.proofs.Powers.{reach, free_less, free_back, shift_from_power}
use Rattle.table.specs.Table.{number, stretch}
use Rattle.table.specs.Used.{Used, to_end, again, deeper, UsedFilled}

-- What follows in a used stretch is used: it goes up to the same end, or stands again as far on.
pub used_from : (m : ℕ → Bool) (t : Forest) (i j k : ℕ) → i ≤ k → k ≤ j → Used m t i (j - i) → Used m t k (j - k)
used_from m t i j k h l (to_end e) = to_end (omega arith)
used_from m t i j k h l (again w d e f) =
    let rest : (x y : ℕ) → x + (k - i) ≡ y → back (k - i) (stretch t x (j - i)) ≡ stretch t y (j - k) =
    λ x y z. back_piece x y (k - i) (j - k) (j - i) t z (omega arith) in
    again w (omega arith) (omega arith)
    (rw (rest i k (omega arith), rest (i + w) (k + w) (omega arith)) at (free_back m (k - i) _ _ f))

-- The body of a repeat is used: it stands again behind itself.
pub used_body : {A : Allowed} {t : Forest} (i d h w : ℕ) → Run A t → i + d ≤ siblings t → Power A (stretch t i d) h w → Used A.marked t i w
used_body {A} {t = t} i d h w r l p =
    let u = stretch t i d in
    let q = reach p in
    let size = siblings_piece i d r l in
    let one : suc (h - 1) ≡ h = omega (arith, p.repeats.twice) in
    let g : w + ((h - 1) * w - w) ≡ (h - 1) * w = omega (arith, rw one at (suc-mul (h - 1) w)) in
    let same : FreeCopy A.marked (front w u) (front w (back w u)) =
    free_less A.marked w ((h - 1) * w) u (back w u) (omega (arith, g)) (shift_from_power (h - 1) h w (run_front d (run_back i r)) one p) in
    let here : front w u ≡ stretch t i w = front_front w (d - w) d (back i t) (omega (arith, size)) in
    let there : front w (back w u) ≡ stretch t (i + w) w =
    ap (front w) (back_piece i (i + w) w (d - w) d t refl (omega (arith, size)))
    ∙ front_front w (d - w - w) (d - w) (back (i + w) t) (omega (arith, size)) in
    again w (omega arith) (omega (arith, size)) (rw (here, there) at same)

-- What a group holds is inside.
pub used_group : {A : Allowed} {P : Prices} {b : ℕ} {t : Forest} {costs choices : List ℕ} (i l : ℕ) (g f : Forest) → back i t ≡ group l g f
    → UsedFilled A P b t costs choices → UsedFilled A P (number b t (i + 1)) g costs choices
used_group i l g f e u = record { entry = λ c h w. u.entry c h (deeper i l g f e w) }
