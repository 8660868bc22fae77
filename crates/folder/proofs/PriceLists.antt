-- The list of repeat prices, filled entry by entry; and that it has the two lent prices.
use mathlib.Core.Path.{◌≡◌, sym, ap, ◌∙◌}
use mathlib.Core.List.{List, []}
use Prim.Native.Nat.{ℕ, zero, suc, ◌+◌, ◌-◌, ◌*◌, ◌<◌, ◌≤◌}
use native.Mathlib.Nat.{mul-le-mul}
use native.Mathlib.Decide.{ℕ_discrete, dec_le}
use native.Mathlib.Omega.{arith}
use lib.ListN.{length, get_or, get_or-eq_default, set, length-set}
use lib.Seq.{get_or-set_same, get_or-set_other}
use Rattle.format.specs.Limits.{Prices, tariff, priced, of_repeat}
use Rattle.optimum.proofs.Fewest.{counted_repeat}
use Rattle.table.specs.Keys.{factor, top_price}
use Rattle.filling.specs.Filling.{Prepared, prices_of}
use Rattle.folder.specs.inner.Prices.{PriceList}

-- The prices of the counts below h are in place.
pub record PricesUpto (first each h : ℕ) (prices : List ℕ) : Type 0 where
  pub more : 2 ≤ h
  pub most : h ≤ 1025
  pub long : length prices ≡ 1025
  pub none : get_or prices 0 0 ≡ 0
  pub one : get_or prices 1 0 ≡ 0
  pub done : (k : ℕ) → 2 ≤ k → k < h → get_or prices k 0 ≡ first + each * (k - 2)

pub prices_more : (first each h : ℕ) (prices : List ℕ) → PricesUpto first each h prices → h < 1025 → PricesUpto first each (h + 1) (set prices h (first + each * (h - 2)))
prices_more first each h prices p l =
    let v = first + each * (h - 2) in
    record {
      more = omega (arith, p.more);
      most = omega arith;
      long = length-set prices h v ∙ p.long;
      none = get_or-set_other prices h 0 v 0 (omega (arith, p.more)) ∙ p.none;
      one = get_or-set_other prices h 1 v 0 (omega (arith, p.more)) ∙ p.one;
      done = λ k a b. elim (ℕ_discrete k h) [
        | yes e ↦ rw e (get_or-set_same prices h v 0 (omega (arith, p.long)))
        | no e ↦ get_or-set_other prices h k v 0 e ∙ p.done k a (omega arith)
      ];
    }

pub prices_all : (first each h : ℕ) (prices : List ℕ) → PricesUpto first each h prices → 1025 ≤ h → PriceList first each prices
prices_all first each h prices p l =
    record { long = p.long; none = p.none; one = p.one; price_of = λ k a b. p.done k a (omega arith) }

pub price_fits : (each h : ℕ) → each < 65536 → h < 1025 → each * (h - 2) ≤ 65535 * 1022
price_fits each h a b = mul-le-mul {n₁ = each} {m₁ = h - 2} {n₂ = 65535} {m₂ = 1022} (omega arith) (omega arith)

-- The list of repeat prices is that of the two lent ones.
module _ (steps groups prices : List ℕ) (first each : ℕ) (p : PriceList first each prices) where
  first_is : get_or prices 2 0 ≡ first
  first_is = omega (arith, p.price_of 2 (omega arith) (omega arith))

  each_is : get_or prices 3 0 - get_or prices 2 0 ≡ each
  each_is = omega (arith, first_is, p.price_of 3 (omega arith) (omega arith))

  pub prices_same : (marks : List ℕ) → prices_of steps groups prices ≡ priced (tariff steps groups marks first each)
  prices_same marks = rw (each_is, first_is)

  pub prepared : first < 65536 → each < 65536 → ((l : ℕ) → get_or steps l 0 < 65536) → ((l : ℕ) → get_or groups l 0 < 65536) → Prepared steps groups prices
  prepared f e low_steps low_groups =
      record {
        priced = record {
          ready = record { long = p.long; low = small };
          price_of = λ h a b.
              let e : get_or prices h 0 ≡ of_repeat (prices_of steps groups prices) h = p.price_of h a b ∙ ap (λ (q : Prices). of_repeat q h) (sym (prices_same [])) in
              rw e (sym (counted_repeat factor (prices_of steps groups prices) h));
        };
        low_steps = low_steps;
        low_groups = low_groups;
      }
    where
      counted : (h : ℕ) → 2 ≤ h → h ≤ 1024 → get_or prices h 0 ≤ top_price
      counted h a b =
          let m : each * (h - 2) ≤ 65535 * 1022 = mul-le-mul {n₁ = each} {m₁ = h - 2} {n₂ = 65535} {m₂ = 1022} (omega arith) (omega arith) in
          omega (arith, p.price_of h a b)

      small : (h : ℕ) → get_or prices h 0 ≤ top_price
      small zero = omega (arith, p.none)
      small (suc zero) = omega (arith, p.one)
      small (suc (suc h)) = elim (dec_le (suc (suc h)) 1024) [
        | yes b ↦ counted (suc (suc h)) (omega arith) b
        | no b ↦ omega (arith, get_or-eq_default prices 0 {n = suc (suc h)} (omega (arith, p.long)))
      ]
