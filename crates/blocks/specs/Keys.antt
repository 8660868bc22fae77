-- The season folder's work: one lent slice in blocks of 256 entries, one block for each step and one for the end of the run. A
-- block has slots of three entries, and a slot has a key: cost and repeats of a fold, which one number combines, and the pair of
-- count and width that the fold's first item has, 0 for the plain step. The least key is that of the preferred fold.
use Rattle.std.specs.Prelude.{◌≡◌, ◌⊎◌, List, ℕ, ◌+◌, ◌*◌, ◌<◌, ◌≤◌, length, get_or}
use Rattle.optimum.specs.Cheapest.{Bases}
use Rattle.optimum.specs.Fewest.{combined}
use Rattle.blocks.specs.declared.keys.Key.{Key}

-- The factor that serves up to 65,535 steps: no fold has as many repeats. And the bases of count and width.
abbrev pub factor : ℕ
factor = 65536

abbrev pub bases : Bases
bases = record { counts = 65536; widths = 64 }

-- The pair of a count and a width; every pair is below this.
abbrev pub packed : (count width : ℕ) → ℕ
packed h w = h * 64 + w

abbrev pub pair_base : ℕ
pair_base = 4194304

-- Keys in their order: by cost and repeats, combined, then by the pair. As one number, which no program word holds.
abbrev pub order : Key → ℕ
order k = k.both * pair_base + k.pair

-- The earlier of two keys.
pub record Lesser (a b r : Key) : Type 0 where
  pub left : order r ≤ order a
  pub right : order r ≤ order b
  pub one : (r ≡ a) ⊎ (r ≡ b)

-- Where slot s of the block of step i begins. Slot d, up to 32, is of the stretch of d steps from step i on; then come that of
-- the tail, all steps from step i on, and for each width w, up to 32, that of the best count.
abbrev pub block : ℕ
block = 256

abbrev pub slot : (i s : ℕ) → ℕ
slot i s = block * i + 3 * s

abbrev pub tail_slot : ℕ
tail_slot = 33

abbrev pub count_slot : (width : ℕ) → ℕ
count_slot w = 33 + w

-- The key that begins at an entry.
abbrev pub both_in : List ℕ → (at : ℕ) → ℕ
both_in W e = combined factor (get_or W e 0) (get_or W (e + 1) 0)

abbrev pub pair_in : List ℕ → (at : ℕ) → ℕ
pair_in W e = get_or W (e + 2) 0

abbrev pub key_in : List ℕ → (at : ℕ) → Key
key_in W e = record { both = both_in W e; pair = pair_in W e }

-- An entry has 32 bits; what a slot can hold of cost and repeats, combined; and what can be read there.
abbrev pub entry_base : ℕ
entry_base = 4294967296

abbrev pub both_base : ℕ
both_base = 281474976710656

abbrev pub read_base : ℕ
read_base = 281479271677952

-- A key is put at an entry, and no other entry changes.
pub record Put (before after : List ℕ) (at : ℕ) (k : Key) : Type 0 where
  pub same_length : length after ≡ length before
  pub both : both_in after at ≡ k.both
  pub pair : pair_in after at ≡ k.pair
  pub others : (x : ℕ) → (x < at) ⊎ (at + 3 ≤ x) → get_or after x 0 ≡ get_or before x 0

-- The same key stands at an entry before and after.
pub record SameKey (W X : List ℕ) (e : ℕ) : Type 0 where
  pub both : both_in X e ≡ both_in W e
  pub pair : pair_in X e ≡ pair_in W e

-- Nothing outside the block of step i has changed.
pub record Touched (i : ℕ) (before after : List ℕ) : Type 0 where
  pub same_length : length after ≡ length before
  pub others : (x : ℕ) → (x < slot i 0) ⊎ (slot i 0 + block ≤ x) → get_or after x 0 ≡ get_or before x 0
