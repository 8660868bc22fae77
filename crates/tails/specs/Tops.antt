-- The largest prices that count repeats.
use Rattle.std.specs.Prelude.{ℕ, ◌*◌}

-- Prices of 16 bits that count repeats.
abbrev pub top_rate : ℕ
top_rate = 4294901760

-- No count that is offered step by step costs more: at most 48 copies are.
abbrev pub top_price : ℕ
top_price = 50 * top_rate
