-- Marks looked at one after the other are the marks that the definition has in order.
use mathlib.Core.Path.{◌≡◌, refl, sym}
use mathlib.Core.Bool.{Bool, true, false, and-false}
use mathlib.Core.List.{List, [], ◌∷◌}
use Prim.Native.Nat.{ℕ, zero, suc, ◌<◌, ◌≤◌}
use native.Mathlib.Omega.{arith}
use lib.ListN.{length}
use borrow.Author.Tests.{le-leb, lt-leb}
use Rattle.std.specs.Bool.{MatchBool}
use Rattle.std.specs.List.{AllWithin, HoldsAt}
use Rattle.format.specs.Head.{each_mark}

low : (s : List ℕ) → AllWithin (λ (x : ℕ). x ≤ 1) s 0 (length s) → each_mark s ≡ true
unfolding each_mark
low [] h = refl
low (b ∷ s) h =
    let first : b ≤ 1 = h 0 0 (omega arith) (omega arith) in
    rw (le-leb b 1 first, low s (λ k d z e. h (suc k) d (omega arith) (omega arith)))

high : (s : List ℕ) (k : ℕ) → k < length s → HoldsAt (λ (x : ℕ). 1 < x) s k → each_mark s ≡ false
unfolding each_mark
high [] k h e = absurd (omega arith)
high (b ∷ s) zero h e = rw (lt-leb b 1 (e 0))
high (b ∷ s) (suc k) h e = rw (high s k (omega arith) (λ d. e d), and-false)

pub each_looked_at : (s : List ℕ) (r : Bool) → MatchBool r (AllWithin (λ (x : ℕ). x ≤ 1) s 0 (length s)) ((k : ℕ) × (k < length s) × HoldsAt (λ (x : ℕ). 1 < x) s k) → r ≡ each_mark s
each_looked_at s true h = sym (low s h)
each_looked_at s false (k, below, above) = sym (high s k below above)
