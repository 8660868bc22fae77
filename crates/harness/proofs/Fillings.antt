-- Lists whose entries are all one number, looked at entry by entry.
use mathlib.Core.Path.{◌≡◌, refl, ap, ◌∙◌}
use mathlib.Core.Bool.{Bool, true, false}
use mathlib.Core.Logic.{◌↔◌}
use mathlib.Core.List.{List, [], ◌∷◌}
use Prim.Native.Nat.{ℕ, suc, ◌<◌}
use native.Mathlib.Omega.{arith}
use lib.ListN.{length, get_or, replicate}
use Rattle.std.proofs.lemmas.List.{get_or-replicate}
use Rattle.std.specs.Bool.{MatchBool}
use Rattle.std.specs.List.{AllWithin, HoldsAt}
use Rattle.harness.proofs.Says.{says_no, says_yes}

-- Every entry looked at is x, or one is another.
each_is : (s : List ℕ) (x : ℕ) → AllWithin (λ (y : ℕ). y ≡ x) s 0 (length s) → s ≡ replicate (length s) x
each_is [] x h = refl
each_is (y ∷ s) x h =
    let first : y ≡ x = h 0 0 (omega arith) (omega arith) in
    let rest = each_is s x (λ k d z e. h (suc k) d (omega arith) (omega arith)) in
    cc

one_other : (s : List ℕ) (x k : ℕ) → k < length s → HoldsAt (λ (y : ℕ). y ≡ x → ⊥) s k → s ≡ replicate (length s) x → ⊥
one_other s x k h other e = other 0 (ap (λ (l : List ℕ). get_or l k 0) e ∙ get_or-replicate (length s) k x 0 h)

pub all_looked_at : (s : List ℕ) (x : ℕ) (r : Bool) → MatchBool r (AllWithin (λ (y : ℕ). y ≡ x) s 0 (length s)) ((k : ℕ) × (k < length s) × HoldsAt (λ (y : ℕ). y ≡ x → ⊥) s k) → (r ≡ true) ↔ (s ≡ replicate (length s) x)
all_looked_at s x true h = says_yes (each_is s x h)
all_looked_at s x false (k, below, other) = says_no (one_other s x k below other)
