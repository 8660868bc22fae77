-- The index of a fold: for each of its outermost items the item's offset and the nodes of the run before it.
use Rattle.std.specs.Prelude.{Bool, true, false, cond, ◌&&◌, ◌||◌, List, [], ◌∷◌, ◌++◌, ℕ, ◌+◌, eqb, ltb, length, drop}
use Rattle.format.specs.Forest.{Forest, end, step, group, repeat, nodes, bytes}
use Rattle.format.specs.Tree.{tree_of}
use Rattle.format.specs.Machine.{Outcome, refused, accepted}
use Rattle.index.specs.Numbers.{Indexed}

-- For each outermost item, n plus what the items before it measure.
unfoldable pub sums : (measure : Forest → ℕ) → (n : ℕ) → Forest → List ℕ
sums m n end = []
sums m n (step l f) = n ∷ sums m (n + m (step l end)) f
sums m n (group l b f) = n ∷ sums m (n + m (group l b end)) f
sums m n (repeat h w b f) = n ∷ sums m (n + m (repeat h w b end)) f

-- The number of bytes of an item.
abbrev pub byte_length : Forest → ℕ
byte_length i = length (bytes i)

-- The two lists of the index: the offset of each outermost item, which is the bytes before it, and the nodes before it.
pub record Index : Type 0 where
  pub offsets : List ℕ
  pub before : List ℕ

abbrev pub index_of : List ℕ → Index
index_of s = record { offsets = sums byte_length 0 (tree_of s); before = sums nodes 0 (tree_of s) }

-- Two lists have the same entries.
unfoldable pub same : List ℕ → List ℕ → Bool
same [] [] = true
same [] (y ∷ ys) = false
same (x ∷ xs) [] = false
same (x ∷ xs) (y ∷ ys) = eqb x y && same xs ys

-- The lent slices are the index, neither shorter nor longer.
abbrev pub is_index : Index → (offsets before : List ℕ) → Bool
is_index i offsets before = same offsets i.offsets && same before i.before

-- One of two lent slices of a and b entries is too short for the index.
abbrev pub too_short : Index → (a b : ℕ) → Bool
too_short i a b = ltb a (length i.offsets) || ltb b (length i.before)

abbrev pub indexed : (refusal place entries : ℕ) → Indexed
indexed n p e = record { refusal = n; place = p; entries = e }

-- The builder's answer, for what the fold reads as: its own refusal, 14 where a slice is too short, or the number of entries.
abbrev pub index_answer : Outcome → Index → (a b : ℕ) → Indexed
index_answer (refused n p) i a b = indexed n p 0
index_answer (accepted t x) i a b = cond (too_short i a b) (indexed 14 0 0) (indexed 0 0 (length i.offsets))

-- A lent slice afterwards: the entries in front and the rest as it was, or all as it was.
abbrev pub index_output : Outcome → Index → (a b : ℕ) → (entries lent : List ℕ) → List ℕ
index_output (refused n p) i a b entries lent = lent
index_output (accepted t x) i a b entries lent = cond (too_short i a b) lent (entries ++ drop (length entries) lent)
