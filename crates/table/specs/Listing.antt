-- The siblings of a sequence: where each stands in the bytes, its number, and its class: the first one that equals it, or itself
-- where it holds a marked label.
use Rattle.std.specs.Prelude.{◌≡◌, Bool, true, false, not, ◌||◌, List, [], ◌∷◌, ℕ, ◌<◌, ◌≤◌, eqb, length, get_or}
use Rattle.format.specs.Forest.{Forest, Allowed, siblings, bytes, holds}
use Rattle.format.specs.Tree.{tree_of}
use Rattle.optimum.specs.Cheapest.{Run, front, node}
use Rattle.table.specs.Table.{number}

-- Bytes that spell a run.
pub record Spelled (s : List ℕ) : Type 0 where
  pub form : bytes (tree_of s) ≡ s
  pub run : (A : Allowed) → Run A (tree_of s)

-- The offsets of the siblings of the sequence that the bytes spell, and their numbers down to b; the last entry is the end.
pub record Placed (s : List ℕ) (offsets : List ℕ) : Type 0 where
  pub offset : (i : ℕ) → i ≤ siblings (tree_of s) → get_or offsets i 0 ≡ length (bytes (front i (tree_of s)))

pub record Numbered (b : ℕ) (t : Forest) (numbers : List ℕ) : Type 0 where
  pub numbered : (i : ℕ) → i ≤ siblings t → get_or numbers i 0 ≡ number b t i

-- Sibling i of the sequence that the bytes spell, where the offsets are those of all its siblings.
pub record SiblingPlaced (s : List ℕ) (offsets : List ℕ) (i : ℕ) : Type 0 where
  pub spelled : Spelled s
  pub placed : Placed s offsets
  pub within : i < siblings (tree_of s)
  pub few : siblings (tree_of s) ≤ 1024

-- r is the first sibling that equals sibling i.
pub record FirstEqual (t : Forest) (i r : ℕ) : Type 0 where
  pub early : r ≤ i
  pub equal : node r t ≡ node i t
  pub first : (j : ℕ) → j < r → node j t ≡ node i t → ⊥

-- Whether a marked label stands in the bytes of a run: the byte behind each `10` and `11` is one. `label` says that one comes next.
unfoldable pub marked_from : (marked : ℕ → Bool) → (label : Bool) → List ℕ → Bool
marked_from m b [] = false
marked_from m true (c ∷ s) = m c || marked_from m false s
marked_from m false (c ∷ s) = marked_from m (not (eqb c 0x12)) s

-- r is the class of sibling i: of a free one, the first that equals it; one that holds a marked label is alone in its class, so that
-- it never matches another.
pub data ClassOf (marked : ℕ → Bool) (t : Forest) (i r : ℕ) : Type 0 where
  free : holds marked (node i t) ≡ false → FirstEqual t i r → ClassOf marked t i r
  alone : holds marked (node i t) ≡ true → r ≡ i → ClassOf marked t i r

-- Each of the first m siblings has its class.
pub record Classed (marked : ℕ → Bool) (t : Forest) (m : ℕ) (kinds : List ℕ) : Type 0 where
  pub class : (i : ℕ) → i < m → ClassOf marked t i (get_or kinds i 0)
