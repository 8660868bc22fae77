-- Bytes and their order.
use Rattle.std.specs.Prelude.{List, ◌∷◌, ℕ, ◌<◌, get_or}

-- A list of bytes.
abbrev pub Bytes : List ℕ → Type 0
Bytes s = (i : ℕ) → get_or s i 0 < 256

-- Byte order: at the first difference the lower byte comes earlier. A list and a proper beginning of it are not in order,
-- neither way.
pub data Before : List ℕ → List ℕ → Type 0 where
  here : {a b : ℕ} {s t : List ℕ} → a < b → Before (a ∷ s) (b ∷ t)
  there : {a : ℕ} {s t : List ℕ} → Before s t → Before (a ∷ s) (a ∷ t)
