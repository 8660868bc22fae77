-- The stretch from a row's sibling up to the sequence's end: the candidates that its key is the least of. The row's own keys are final.
use Rattle.std.specs.Prelude.{◌≡◌, ◌⊎◌, List, ℕ, ◌+◌, ◌-◌, ◌*◌, ◌<◌, ◌≤◌, get_or}
use Rattle.table.specs.Keys.{key, combined_digits, covered}
use Rattle.solver.specs.declared.row.Row.{Row}
use Rattle.solver.specs.Rows.{offer_key}

-- The keys of the candidates: the plain node, a solved stretch that is cheapest as one repeat, and a repeat that covers more than is
-- solved, each with the tail behind it.
abbrev pub plain_end : (row : Row) (tails : List ℕ) → ℕ
plain_end row tails = key row.own 0 + get_or tails (row.at + 1) 0

abbrev pub cover_end : (row : Row) (tails keys : List ℕ) (d : ℕ) → ℕ
cover_end row tails keys d = get_or keys d 0 + get_or tails (row.at + d) 0

abbrev pub repeat_end : (row : Row) (prices tails : List ℕ) (cost d h : ℕ) → ℕ
repeat_end row prices tails cost d h = offer_key prices cost d h + get_or tails (row.at + h * d) 0

-- A repeat of count h and width d, of which `span` siblings match, that covers more than the row's extent.
pub record Beyond (row : Row) (d span h : ℕ) : Type 0 where
  pub twice : 2 ≤ h
  pub near : (h - 1) * d ≤ span
  pub far : row.extent < h * d

-- The key is one of those up to the stretch of s siblings,
pub data EndCame (row : Row) (prices same tails keys : List ℕ) (s k : ℕ) : Type 0 where
  by_plain : k ≡ plain_end row tails → EndCame row prices same tails keys s k
  by_cover : (d : ℕ) → 0 < d → d ≤ s → covered (get_or keys d 0) ≡ d → k ≡ cover_end row tails keys d → EndCame row prices same tails keys s k
  by_repeat : (d h : ℕ) → 0 < d → d ≤ s → d ≤ row.limit → Beyond row d (get_or same d 0) h
      → k ≡ repeat_end row prices tails (combined_digits (get_or keys d 0)) d h → EndCame row prices same tails keys s k

-- and the least of them.
pub record Ending (row : Row) (prices same tails keys : List ℕ) (s k : ℕ) : Type 0 where
  pub came : EndCame row prices same tails keys s k
  pub plain : k ≤ plain_end row tails
  pub cover : (d : ℕ) → 0 < d → d ≤ s → covered (get_or keys d 0) ≡ d → k ≤ cover_end row tails keys d
  pub repeats : (d h : ℕ) → 0 < d → d ≤ s → d ≤ row.limit → Beyond row d (get_or same d 0) h
      → k ≤ repeat_end row prices tails (combined_digits (get_or keys d 0)) d h

-- What one width offers: the key stays, or is that of a repeat of it.
pub record EndRepeat (row : Row) (prices tails : List ℕ) (cost d span k : ℕ) : Type 0 where
  pub count : ℕ
  pub beyond : Beyond row d span count
  pub is_key : k ≡ repeat_end row prices tails cost d count

pub record EndOffered (row : Row) (prices tails : List ℕ) (cost d span before k : ℕ) : Type 0 where
  pub lower : k ≤ before
  pub offered : (h : ℕ) → Beyond row d span h → k ≤ repeat_end row prices tails cost d h
  pub came : (k ≡ before) ⊎ EndRepeat row prices tails cost d span k
