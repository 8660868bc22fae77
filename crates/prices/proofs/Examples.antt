-- The first entries of a list of repeat prices and the last of the dearest one, computed.
use mathlib.Core.Path.{◌≡◌, refl}
use mathlib.Core.List.{List, [], ◌∷◌}
use Prim.Native.Nat.{ℕ}
use lib.ListN.{length, get_or, take}
use Rattle.prices.specs.Prices.{price_list}

pub first_entries : ◌≡◌ {A = List ℕ} (take 6 (price_list 3 5)) (0 ∷ 0 ∷ 3 ∷ 8 ∷ 13 ∷ 18 ∷ [])
unfolding price_list
first_entries = refl

pub last_entries : (◌≡◌ {A = ℕ} (get_or (price_list 65535 65535) 1024 0) 67042305) × (◌≡◌ {A = ℕ} (length (price_list 65535 65535)) 1025)
unfolding price_list
last_entries = (refl, refl)
