-- Laws of lists that the layers above share.
use mathlib.Core.Path.{◌≡◌, refl}
use mathlib.Core.List.{List, [], ◌∷◌, ◌++◌}
use Prim.Native.Nat.{ℕ, zero, suc, ◌+◌}
use native.Mathlib.Omega.{arith}
use lib.ListN.{length, get_or, set, replicate}
use lib.Seq.{sets}

-- One list stored behind another.
pub sets_append : (vs ws l : List ℕ) (i j : ℕ) → i + length vs ≡ j → sets l i (vs ++ ws) ≡ sets (sets l i vs) j ws
sets_append [] ws l i j e = let z : i ≡ j = omega arith in rw z
sets_append (v ∷ vs) ws l i j e = sets_append vs ws (set l i v) (suc i) j (omega arith)

-- Every entry of a list of zeros is 0, and so is what is behind it.
pub zeros : (n i : ℕ) → get_or {A = ℕ} (replicate n 0) i 0 ≡ 0
zeros zero i = refl
zeros (suc n) zero = refl
zeros (suc n) (suc i) = zeros n i
