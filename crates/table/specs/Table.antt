-- The triangular table of the whole run. The nodes of a run are numbered from its end, against the order of their bytes, so a
-- stretch of siblings of any sequence is an interval of numbers, and no two sequences share one: one table serves the whole tree.
-- The stretches that begin at one sibling end at one number, so a row's entries lie together.
use Rattle.std.specs.Prelude.{◌≡◌, List, ℕ, ◌+◌, ◌-◌, ◌*◌, ◌/◌, ◌<◌, ◌≤◌, length, get_or}
use Rattle.format.specs.Limits.{cells, Prices}
use Rattle.format.specs.Forest.{Forest, Allowed, siblings, nodes}
use Rattle.table.specs.Keys.{choice_base, rejoined, rest_digits}
use Rattle.optimum.specs.Cheapest.{front, back, usual, rank, Least, best_cost}

-- The entry of the interval from p up to q.
abbrev pub cell : (p q : ℕ) → ℕ
cell p q = q * (q - 1) / 2 + p

-- The number of sibling i of a sequence behind whose end b nodes of the run follow: the nodes of the run from that sibling on.
abbrev pub number : ℕ → Forest → ℕ → ℕ
number b t i = b + nodes (back i t)

-- The stretch of d siblings from sibling i on.
abbrev pub stretch : Forest → (i d : ℕ) → Forest
stretch t i d = front d (back i t)

-- The key of a stretch: that of the pair of least rank, at the cost of its cheapest fold. The prices count repeats, so that this cost is
-- both, combined.
pub record BestKey (A : Allowed) (P : Prices) (t : Forest) (k : ℕ) : Type 0 where
  pub count : ℕ
  pub width : ℕ
  pub least : Least A P usual (best_cost A P) t count width
  pub is_rank : k ≡ rank usual (best_cost A P t) count width

-- The entries of an interval hold the key of its stretch, the cost apart from the other digits.
pub record Entry (A : Allowed) (P : Prices) (t : Forest) (cost choice : ℕ) : Type 0 where
  pub best : BestKey A P t (rejoined cost choice)
  pub apart : choice < choice_base

-- Only entries of intervals within [b, b + n) have changed.
pub record Kept (b n : ℕ) (before after : List ℕ) : Type 0 where
  pub same_length : length after ≡ length before
  pub outside : (x : ℕ) → ((p q : ℕ) → b ≤ p → p < q → q ≤ b + n → x ≡ cell p q → ⊥) → get_or after x 0 ≡ get_or before x 0

-- Only entries of stretches of the sequence t have changed.
pub record KeptOthers (b : ℕ) (t : Forest) (before after : List ℕ) : Type 0 where
  pub same_length : length after ≡ length before
  pub others : (x : ℕ) → ((i j : ℕ) → i < j → j ≤ siblings t → x ≡ cell (number b t j) (number b t i) → ⊥) → get_or after x 0 ≡ get_or before x 0

-- The first m + 1 numbers fall, and the table has their intervals.
pub record Falling (numbers : List ℕ) (m room : ℕ) : Type 0 where
  pub short : m < length numbers
  pub fall : (i j : ℕ) → i < j → j ≤ m → get_or numbers j 0 < get_or numbers i 0
  pub first : get_or numbers 0 0 ≤ 1024
  pub fits : cells (get_or numbers 0 0) ≤ room

-- A row is entered: the stretches of 1 to n siblings from sibling i on, and nothing else.
pub record Stored (numbers : List ℕ) (i n : ℕ) (row : ℕ → ℕ) (before after : List ℕ) : Type 0 where
  pub same_length : length after ≡ length before
  pub entered : (d : ℕ) → 0 < d → d ≤ n → get_or after (cell (get_or numbers (i + d) 0) (get_or numbers i 0)) 0 ≡ row d
  pub others : (x : ℕ) → ((d : ℕ) → 0 < d → d ≤ n → x ≡ cell (get_or numbers (i + d) 0) (get_or numbers i 0) → ⊥) → get_or after x 0 ≡ get_or before x 0

-- The cost or choice of the stretch from the sibling of number q up to sibling j, as the table has it; and from sibling i on.
abbrev pub entry_from : (work numbers : List ℕ) (q j : ℕ) → ℕ
entry_from work numbers q j = get_or work (cell (get_or numbers j 0) q) 0

abbrev pub entry_at : (work numbers : List ℕ) (i j : ℕ) → ℕ
entry_at work numbers i j = entry_from work numbers (get_or numbers i 0) j

-- The interval from the number of sibling j up to the number q has an entry in a table of that room.
abbrev pub Held : (numbers : List ℕ) (q j room : ℕ) → Type 0
Held numbers q j room = (j < length numbers) × (get_or numbers j 0 < q) × (q ≤ 1024) × (cell (get_or numbers j 0) q < room)

-- The key of that stretch, as the table has it.
abbrev pub key_from : (costs choices numbers : List ℕ) (q j : ℕ) → ℕ
key_from costs choices numbers q j = rejoined (entry_from costs numbers q j) (entry_from choices numbers q j)

abbrev pub key_at : (costs choices numbers : List ℕ) (i j : ℕ) → ℕ
key_at costs choices numbers i j = key_from costs choices numbers (get_or numbers i 0) j

-- What that stretch adds to the key of an item that it follows.
abbrev pub rest_from : (costs choices numbers : List ℕ) (q j : ℕ) → ℕ
rest_from costs choices numbers q j = rest_digits (key_from costs choices numbers q j)

abbrev pub rest_key : (costs choices numbers : List ℕ) (i j : ℕ) → ℕ
rest_key costs choices numbers i j = rest_from costs choices numbers (get_or numbers i 0) j
