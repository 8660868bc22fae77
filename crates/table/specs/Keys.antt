-- Keys: cost and repeats of a fold, count and width of its first item, as the digits of one number, so that the least key is that of the
-- preferred fold. The table keeps a key as two numbers, the cost and the choice, which has the other digits: how many repeats the fold has,
-- and the pair that comes first, 0 for the plain node.
use Rattle.std.specs.Prelude.{ℕ, ◌+◌, ◌*◌, ◌/◌, ◌%◌}
use Rattle.optimum.specs.Cheapest.{usual}

-- The factor that serves up to 1,024 nodes: no fold has as many repeats.
abbrev pub factor : ℕ
factor = 1024

-- Every pair is below this, and every choice below that.
abbrev pub pair_base : ℕ
pair_base = usual.counts * usual.widths

abbrev pub choice_base : ℕ
choice_base = factor * pair_base

-- The pair of a count and a width; the key of cost and repeats, combined, and a pair; and the same key of a cost and a choice.
abbrev pub packed : (count width : ℕ) → ℕ
packed h w = h * usual.widths + w

abbrev pub key : (combined pair : ℕ) → ℕ
key c x = c * pair_base + x

abbrev pub rejoined : (cost choice : ℕ) → ℕ
rejoined c x = c * choice_base + x

-- The digits.
abbrev pub combined_digits : ℕ → ℕ
combined_digits k = k / pair_base

abbrev pub pair_digits : ℕ → ℕ
pair_digits k = k % pair_base

abbrev pub cost_digit : ℕ → ℕ
cost_digit k = k / choice_base

abbrev pub choice_digits : ℕ → ℕ
choice_digits k = k % choice_base

abbrev pub count_digit : ℕ → ℕ
count_digit k = k / usual.widths % usual.counts

abbrev pub width_digit : ℕ → ℕ
width_digit k = k % usual.widths

-- The siblings that the repeat in a key covers, 0 for the plain node.
abbrev pub covered : ℕ → ℕ
covered k = count_digit k * width_digit k

-- What a stretch of this key adds to the key of an item that it follows: its cost and its repeats.
abbrev pub rest_digits : ℕ → ℕ
rest_digits k = key (combined_digits k) 0

-- Bounds that no sum of these numbers passes: an entry of the table has 32 bits; cost and repeats of a stretch, combined, stay below 36, and
-- its key below 57; the price of a count is at most 65,535 times 16 bits; and a key that is worked on is at most that of two stretches together.
abbrev pub entry_base : ℕ
entry_base = 4294967296

abbrev pub combined_base : ℕ
combined_base = 68719476736

abbrev pub stored_key : ℕ
stored_key = key combined_base 0

abbrev pub top_price : ℕ
top_price = 65535 * 65535

abbrev pub top_key : ℕ
top_key = key (2 * combined_base) 0
