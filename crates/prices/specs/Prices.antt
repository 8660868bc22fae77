-- The list of repeat prices, which folding looks them up in.
use Rattle.std.specs.Prelude.{List, [], ◌∷◌, ℕ, zero, suc, ◌+◌, ◌-◌, ◌*◌}
use Rattle.format.specs.Limits.{limits}

-- What a repeat of h copies costs by the repeat prices first and each.
abbrev pub repeat_price : (first each h : ℕ) → ℕ
repeat_price first each h = first + each * (h - 2)

-- The prices of n counts, from h on.
unfoldable pub prices_from : (first each h n : ℕ) → List ℕ
prices_from first each h zero = []
prices_from first each h (suc n) = repeat_price first each h ∷ prices_from first each (suc h) n

-- The list: 0 for the counts 0 and 1, which no repeat has, and from 2 on the price of each up to the most nodes; 1,025 in all.
unfoldable pub price_list : (first each : ℕ) → List ℕ
unfolding prices_from
price_list first each = 0 ∷ 0 ∷ prices_from first each 2 (limits.nodes - 1)
