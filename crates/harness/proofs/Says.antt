-- What a test answers: whether something holds.
use mathlib.Core.Path.{◌≡◌, refl, sym, ◌∙◌}
use mathlib.Core.Bool.{Bool, true, false, not}
use mathlib.Core.Logic.{◌↔◌}
use Prim.Native.Nat.{ℕ}
use borrow.Author.Tests.{not-true, not-false}
use native.Mathlib.Omega.{arith}

false_true : false ≡ true → ⊥
false_true e = let z : ◌≡◌ {A = ℕ} 0 1 = cc in omega arith

pub says_yes : {Q : Type 0} → Q → (true ≡ true) ↔ Q
says_yes q = (λ e. q, λ z. refl)

pub says_no : {Q : Type 0} → (Q → ⊥) → (false ≡ true) ↔ Q
says_no n = (λ e. absurd (false_true e), λ z. absurd (n z))

-- A part P of Q was looked at, and holds or does not.
pub part_holds : {P : Type 0} {b : Bool} → (b ≡ true) ↔ P → not b ≡ false → P
part_holds {b = b} says e = says.0 (not-false b e)

pub part_fails : {P Q : Type 0} {b : Bool} → (b ≡ true) ↔ P → not b ≡ true → (Q → P) → (false ≡ true) ↔ Q
part_fails {b = b} says e part = says_no (λ q. false_true (sym (not-true b e) ∙ says.1 (part q)))
