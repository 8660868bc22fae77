-- Flat runs: each step is two bytes, a run's parts are flat, and what their folds can cost.
use mathlib.Core.Path.{◌≡◌, refl}
use Prim.Native.Nat.{ℕ, zero, suc, ◌+◌, ◌*◌, ◌≤◌, ◌<◌}
use native.Mathlib.Omega.{arith}
use lib.ListN.{length, get_or}
use Rattle.format.specs.Limits.{Prices}
use Rattle.format.specs.Forest.{Forest, end, step, siblings, nodes, cost, form_in, bytes, Plain, Sound, Allowed, group, repeat}
use Rattle.optimum.specs.Cheapest.{Run, front, back, node, best_cost}
use Rattle.optimum.proofs.Cut.{siblings_cut}
use Rattle.optimum.proofs.Cheapest.{best_cost_run}
use Rattle.blocks.specs.Keys.{factor, both_base}
use Rattle.blocks.specs.Solved.{Flat, Modest}

-- A flat run is a run, whatever is allowed.
flat_plain : (t : Forest) → Flat t → Plain t
flat_plain end z = tt
flat_plain (step l f) z = flat_plain f z
flat_plain (group _ _ _) z = elim z [ ]
flat_plain (repeat _ _ _ _) z = elim z [ ]

flat_sound : (A : Allowed) (t : Forest) → Flat t → Sound A t
flat_sound A end z = tt
flat_sound A (step l f) z = flat_sound A f z
flat_sound A (group _ _ _) z = elim z [ ]
flat_sound A (repeat _ _ _ _) z = elim z [ ]

pub flat_run : (A : Allowed) (t : Forest) → Flat t → Run A t
flat_run A t z = record { plain = flat_plain t z; sound = flat_sound A t z }

pub flat_front : (n : ℕ) (t : Forest) → Flat t → Flat (front n t)
unfolding front
flat_front zero t z = tt
flat_front (suc n) end z = tt
flat_front (suc n) (step l f) z = flat_front n f z
flat_front (suc n) (group _ _ _) z = elim z [ ]
flat_front (suc n) (repeat _ _ _ _) z = elim z [ ]

pub flat_back : (n : ℕ) (t : Forest) → Flat t → Flat (back n t)
unfolding back
flat_back zero t z = z
flat_back (suc n) end z = tt
flat_back (suc n) (step l f) z = flat_back n f z
flat_back (suc n) (group _ _ _) z = elim z [ ]
flat_back (suc n) (repeat _ _ _ _) z = elim z [ ]

-- Its nodes are its steps, and each has two bytes.
pub flat_nodes : (t : Forest) → Flat t → nodes t ≡ siblings t
unfolding nodes siblings
flat_nodes end z = refl
flat_nodes (step l f) z = omega (arith, flat_nodes f z)
flat_nodes (group _ _ _) z = elim z [ ]
flat_nodes (repeat _ _ _ _) z = elim z [ ]

pub flat_size : (t : Forest) → Flat t → length (bytes t) ≡ 2 * siblings t
unfolding form_in siblings
flat_size end z = refl
flat_size (step l f) z = omega (arith, flat_size f z)
flat_size (group _ _ _) z = elim z [ ]
flat_size (repeat _ _ _ _) z = elim z [ ]

-- The label of step i.
pub flat_node : (i : ℕ) (t : Forest) → Flat t → i < siblings t → node i t ≡ step (get_or (bytes t) (2 * i + 1) 0) end
unfolding siblings front back form_in
flat_node i end z l = absurd (omega arith)
flat_node zero (step m f) z l = refl
flat_node (suc i) (step m f) z l =
    let e : 2 * suc i + 1 ≡ suc (suc (2 * i + 1)) = omega arith in
    rw e (flat_node i f z (omega arith))
flat_node i (group _ _ _) z l = elim z [ ]
flat_node i (repeat _ _ _ _) z l = elim z [ ]

-- The cost of a flat run, and of its cheapest fold.
flat_cost : (P : Prices) (t : Forest) → Flat t → ((l : ℕ) → P.of_step l ≤ 65535 * factor) → cost P t ≤ siblings t * 4294901760
unfolding cost siblings
flat_cost P end z low = omega arith
flat_cost P (step l f) z low = omega (arith, flat_cost P f z low, low l)
flat_cost P (group _ _ _) z low = elim z [ ]
flat_cost P (repeat _ _ _ _) z low = elim z [ ]

module _ {A : Allowed} {P : Prices} {t : Forest} (m : Modest A P t) where
  pub run : Run A t
  run = flat_run A t m.flat

  pub best_low : (x : Forest) → Flat x → siblings x < 65536 → best_cost A P x < both_base
  best_low x z few = omega (arith, best_cost_run A P x (flat_run A x z), flat_cost P x z m.low)

  pub tail_low : (i : ℕ) → best_cost A P (back i t) < both_base
  tail_low i = best_low (back i t) (flat_back i t m.flat) (omega (arith, m.few, back_few))
    where
      back_few : siblings (back i t) ≤ siblings t
      back_few = omega (arith, siblings_cut i t)

  pub stretch_low : (i d : ℕ) → best_cost A P (front d (back i t)) < both_base
  stretch_low i d =
      best_low (front d (back i t)) (flat_front d (back i t) (flat_back i t m.flat))
      (omega (arith, m.few, siblings_cut i t, siblings_cut d (back i t)))
