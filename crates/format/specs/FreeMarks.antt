-- Marks that are all 0: what is checked and answered where no label can be marked. Only the theorems about free marks use these.
use Rattle.std.specs.Prelude.{not, cond, List, [], ◌∷◌, ℕ, ltb, eqb, length}
use Rattle.format.specs.Limits.{limits, tariff, priced, at_most}
use Rattle.format.specs.Machine.{Check, ◌when◌, first_of, Outcome, unless, read}
use Rattle.format.specs.Readings.{fold_rules, as_fold_reading}
use Rattle.format.specs.Numbers.{FoldReading}

-- A table of checks without those of one number.
unfoldable pub without : ℕ → List Check → List Check
without n [] = []
without n (m when b ∷ rs) = cond (eqb m n) (without n rs) (m when b ∷ without n rs)

-- What is checked before the first command: 11, then 15, then 12, all at place 0.
unfoldable pub unmarked_headed : (steps groups : List ℕ) → (limit : ℕ) → Outcome → Outcome
unmarked_headed steps groups k next =
    unless
    (first_of
    (11 when not (eqb (length steps) limits.labels)
    ∷ 15 when not (eqb (length groups) limits.labels)
    ∷ 12 when ltb limits.width k
    ∷ []))
    0
    0
    next

-- The fold reader's answer, by rules that mark no label.
unfoldable pub unmarked_reading : List ℕ → (limit : ℕ) → (steps groups : List ℕ) → (first each : ℕ) → FoldReading
unfolding unmarked_headed read
unmarked_reading s k steps groups first each =
    as_fold_reading (unmarked_headed steps groups k (read (fold_rules (at_most k) (priced (tariff steps groups [] first each))) s))
