-- A run has at most 1,024 nodes.
use mathlib.Core.Path.{◌≡◌, refl}
use mathlib.Core.List.{List}
use Prim.Native.Nat.{ℕ, ◌≤◌}
use native.Mathlib.Omega.{arith}
use Rattle.format.specs.Order.{Bytes}
use Rattle.format.specs.Machine.{Outcome, refused, accepted, read}
use Rattle.format.specs.Limits.{limits}
use Rattle.format.specs.Readings.{run_rules, as_run_reading, run_reading_in, run_reading}
use Rattle.optimum.proofs.Demands.{run_few}

pub few_nodes : (s : List ℕ) → Bytes s → (run_reading s).nodes ≤ 1024
unfolding run_reading_in
few_nodes s small = by_outcome (read run_rules s) refl
  where
    by_outcome : (o : Outcome) → read run_rules s ≡ o → (as_run_reading o).nodes ≤ 1024
    by_outcome (refused n p) e = omega arith
    by_outcome (accepted t x) e = run_few limits s small t x e
