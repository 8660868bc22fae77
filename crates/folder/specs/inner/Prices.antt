-- The prices of all counts, prepared once ahead of all folding.
use Rattle.std.specs.Prelude.{◌≡◌, List, ℕ, ◌+◌, ◌-◌, ◌*◌, ◌<◌, ◌≤◌, length, get_or}

-- The list of repeat prices: entry h is first + each × (h − 2) from h = 2 on, entries 0 and 1 are 0.
pub record PriceList (first each : ℕ) (prices : List ℕ) : Type 0 where
  pub long : length prices ≡ 1025
  pub none : get_or prices 0 0 ≡ 0
  pub one : get_or prices 1 0 ≡ 0
  pub price_of : (h : ℕ) → 2 ≤ h → h ≤ 1024 → get_or prices h 0 ≡ first + each * (h - 2)

-- Every price of the list has 16 bits.
abbrev pub LowPrices : List ℕ → Type 0
LowPrices prices = (l : ℕ) → get_or prices l 0 < 65536
