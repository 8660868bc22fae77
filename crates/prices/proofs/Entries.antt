-- What stands in the list of repeat prices, and the list filled entry by entry.
use mathlib.Core.Path.{◌≡◌, refl, sym, ◌∙◌}
use mathlib.Core.List.{List}
use Prim.Native.Nat.{ℕ, zero, suc, ◌+◌, ◌-◌, ◌*◌, ◌<◌, ◌≤◌}
use native.Mathlib.Nat.{mul-le-mul}
use native.Mathlib.Decide.{ℕ_discrete, dec_le}
use native.Mathlib.Omega.{arith}
use mir.Syntax.{w64}
use mir.Val.{Fits}
use lib.ListN.{length, get_or, set, length-set, get_or-eq_default}
use lib.Seq.{get_or-set_same, get_or-set_other, ext_get_or}
use Rattle.prices.specs.Prices.{repeat_price, prices_from, price_list}

-- What a price of 16 bits and a count make.
product_low : (a b m : ℕ) → a < 65536 → b ≤ m → a * b ≤ 65535 * m
product_low a b m x y = mul-le-mul {n₁ = a} {m₁ = b} {n₂ = 65535} {m₂ = m} (omega arith) y

pub product_fits : (a b : ℕ) → a < 65536 → b ≤ 1024 → Fits w64 (a * b)
product_fits a b x y = omega (arith, product_low a b 1024 x y)

pub sum_fits : (a b c : ℕ) → a < 65536 → b < 65536 → c ≤ 1024 → Fits w64 (a + b * c)
sum_fits a b c x y z = omega (arith, product_low b c 1024 y z)

module _ (first each : ℕ) where
  long_from : (h n : ℕ) → length (prices_from first each h n) ≡ n
  unfolding prices_from
  long_from h zero = refl
  long_from h (suc n) = omega (arith, long_from (suc h) n)

  entry_from : (h n k : ℕ) → k < n → get_or (prices_from first each h n) k 0 ≡ repeat_price first each (h + k)
  unfolding prices_from
  entry_from h zero k l = absurd (omega arith)
  entry_from h (suc n) zero l = let e : h ≡ h + 0 = omega arith in rw (← e)
  entry_from h (suc n) (suc k) l = let e : suc h + k ≡ h + suc k = omega arith in entry_from (suc h) n k (omega arith) ∙ rw e

  -- THE LIST: 1,025 numbers; entries 0 and 1 are 0, and entry h is first + each × (h − 2) from 2 on.
  pub price_list_long : length (price_list first each) ≡ 1025
  unfolding price_list
  price_list_long = omega (arith, long_from 2 1023)

  pub price_list_none : (get_or (price_list first each) 0 0 ≡ 0) × (get_or (price_list first each) 1 0 ≡ 0)
  unfolding price_list
  price_list_none = (refl, refl)

  pub price_list_entry : (h : ℕ) → 2 ≤ h → h ≤ 1024 → get_or (price_list first each) h 0 ≡ first + each * (h - 2)
  unfolding price_list
  price_list_entry zero a b = absurd (omega arith)
  price_list_entry (suc zero) a b = absurd (omega arith)
  price_list_entry (suc (suc k)) a b = let e : 2 + k ≡ suc (suc k) = omega arith in entry_from 2 1023 k (omega arith) ∙ rw e

  -- Prices of 16 bits make entries of 26.
  pub price_list_low : first < 65536 → each < 65536 → (h : ℕ) → get_or (price_list first each) h 0 ≤ 65535 * 1023
  price_list_low f e zero = omega (arith, price_list_none.0)
  price_list_low f e (suc zero) = omega (arith, price_list_none.1)
  price_list_low f e (suc (suc k)) = elim (dec_le (suc (suc k)) 1024) [
    | yes l ↦ omega (arith, price_list_entry (suc (suc k)) (omega arith) l, product_low each (suc (suc k) - 2) 1022 e (omega arith))
    | no l ↦ omega (arith, get_or-eq_default (price_list first each) 0 {n = suc (suc k)} (omega (arith, price_list_long)))
  ]

  -- The entries below h are in place.
  pub record Upto (h : ℕ) (prices : List ℕ) : Type 0 where
    pub more : 2 ≤ h
    pub most : h ≤ 1025
    pub long : length prices ≡ 1025
    pub done : (k : ℕ) → k < h → get_or prices k 0 ≡ get_or (price_list first each) k 0

  pub upto_two : (prices : List ℕ) → length prices ≡ 1025 → Upto 2 (set (set prices 0 0) 1 0)
  upto_two prices l =
      record {
        more = omega arith;
        most = omega arith;
        long = length-set (set prices 0 0) 1 0 ∙ length-set prices 0 0 ∙ l;
        done = done;
      }
    where
      done : (k : ℕ) → k < 2 → get_or (set (set prices 0 0) 1 0) k 0 ≡ get_or (price_list first each) k 0
      done zero b =
          get_or-set_other (set prices 0 0) 1 0 0 0 (omega arith) ∙ get_or-set_same prices 0 0 0 (omega (arith, l)) ∙ sym price_list_none.0
      done (suc zero) b =
          get_or-set_same (set prices 0 0) 1 0 0 (omega (arith, l, length-set prices 0 0)) ∙ sym price_list_none.1
      done (suc (suc k)) b = absurd (omega arith)

  pub upto_more : (h : ℕ) (prices : List ℕ) → Upto h prices → h < 1025 → (two more : ℕ) → two ≡ first → more ≡ each
      → Upto (h + 1) (set prices h (two + more * (h - 2)))
  upto_more h prices u l two more x y =
      let p = two + more * (h - 2) in
      let e : p ≡ first + each * (h - 2) = rw (x, y) in
      record {
        more = omega (arith, u.more);
        most = omega arith;
        long = length-set prices h p ∙ u.long;
        done = λ k b. elim (ℕ_discrete k h) [
          | yes q ↦ rw q (get_or-set_same prices h p 0 (omega (arith, u.long)) ∙ e ∙ sym (price_list_entry h u.more (omega arith)))
          | no q ↦ get_or-set_other prices h k p 0 q ∙ u.done k (omega arith)
        ];
      }

  pub upto_all : (h : ℕ) (prices : List ℕ) → Upto h prices → 1025 ≤ h → prices ≡ price_list first each
  upto_all h prices u l =
      ext_get_or 0 prices (price_list first each) (u.long ∙ sym price_list_long) (λ k b. u.done k (omega (arith, u.long)))
