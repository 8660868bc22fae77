-- A part of a run is the first bytes from its offset on, as many as it has. Assumes nothing.
use mathlib.Core.Path.{◌≡◌, refl, ap}
use mathlib.Core.Bool.{Bool, true, false, cond}
use mathlib.Core.List.{List, [], ◌∷◌}
use Prim.Native.Nat.{ℕ, zero, suc}
use lib.Dec.{eqb}
use lib.ListN.{length, take, drop}
use Rattle.format.specs.Readings.{run_reading}
use Rattle.format.specs.Parts.{starts, node_part, node_size, part_of}

-- As many elements as the first n have are the first n.
taken : (n : ℕ) (s : List ℕ) → take (length (take n s)) s ≡ take n s
taken zero s = refl
taken (suc n) [] = refl
taken (suc n) (x ∷ s) = ap (λ (l : List ℕ). x ∷ l) (taken n s)

-- The first elements of s, or none.
either : (t u : Bool) (n : ℕ) (s : List ℕ)
    → take (length (cond t (cond u (take n s) []) [])) s ≡ cond t (cond u (take n s) []) []
either true true n s = taken n s
either true false n s = refl
either false u n s = refl

pub part_taken : (s : List ℕ) (p : ℕ) → take (length (part_of s p)) (drop p s) ≡ part_of s p
unfolding part_of node_part
part_taken s p = either (eqb (run_reading s).refusal 0) (starts p 0 s) (node_size (drop p s)) (drop p s)
