-- The former order of the checks at a command, in which 9 came before 19 and 10: the readings by it, and where one `21` breaks 9
-- and 10 together. Only the theorems about that order use these.
use Rattle.std.specs.Prelude.{◌≡◌, true, cond, List, [], ◌∷◌, ◌++◌, ℕ, suc, eqb, get_or, drop}
use Rattle.format.specs.Limits.{limits, Tariff, priced, allowed}
use Rattle.format.specs.Machine.{Rules, State, Check, ◌when◌, first_of, checks, scan_by, start, Outcome, refused}
use Rattle.format.specs.Reasons.{holds_check, Reached}
use Rattle.format.specs.Head.{Head, headed, full_head}
use Rattle.format.specs.Readings.{fold_rules, as_fold_reading}
use Rattle.format.specs.Numbers.{FoldReading}

-- Of a table, the checks of one number; and all in the order of these numbers.
unfoldable pub numbered : ℕ → List Check → List Check
numbered n [] = []
numbered n (m when b ∷ rs) = cond (eqb m n) (m when b ∷ numbered n rs) (numbered n rs)

unfoldable pub in_order : List ℕ → List Check → List Check
unfolding numbered
in_order [] rs = []
in_order (n ∷ ns) rs = numbered n rs ++ in_order ns rs

-- The checks at a command in their former order, and the refusal by it.
unfoldable pub former_checks : Rules → State → (command : ℕ) → (rest : List ℕ) → List Check
unfolding in_order checks
former_checks R st c rest = in_order (1 ∷ 2 ∷ 21 ∷ 3 ∷ 4 ∷ 5 ∷ 6 ∷ 7 ∷ 20 ∷ 8 ∷ 9 ∷ 19 ∷ 10 ∷ []) (checks R st c rest)

unfoldable pub former_refusal : Rules → State → (command : ℕ) → (rest : List ℕ) → ℕ
unfolding former_checks
former_refusal R st c rest = first_of (former_checks R st c rest)

-- The reading of whole bytes by it.
unfoldable pub former_read : Rules → List ℕ → Outcome
unfolding scan_by former_refusal
former_read R s = scan_by (former_refusal R) R.prices 0 0 start s

-- A fold at an entry point with this head, and the fold reader's answer.
unfoldable pub former_outcome : Head → Tariff → List ℕ → Outcome
unfolding headed former_read
former_outcome h T s = headed limits h (former_read (fold_rules (allowed h.limit T.marks) (priced T)) s)

unfoldable pub former_reading : List ℕ → (limit : ℕ) → Tariff → FoldReading
unfolding former_outcome
former_reading s k T = as_fold_reading (former_outcome (full_head T k) T s)

-- The former reading says 9 at the `21` at p, and 10 holds there too.
pub record NineAndTen (R : Rules) (s : List ℕ) (p : ℕ) : Type 0 where
  pub said : former_read R s ≡ refused 9 p
  pub state : State
  pub reached : Reached R s p state
  pub close : get_or s p 0 ≡ 0x21
  pub ten : holds_check 10 (checks R state 0x21 (drop (suc p) s)) ≡ true
