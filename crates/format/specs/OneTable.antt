-- One table for the labels of steps and groups alike: what a fold costs, and what the fold reader answers, where groups are not
-- priced apart. Only the theorems about equal tables use these.
use Rattle.std.specs.Prelude.{not, List, [], ◌∷◌, ℕ, ◌+◌, ◌-◌, ◌*◌, ltb, eqb, length, get_or}
use Rattle.format.specs.Limits.{limits, Prices, allowed}
use Rattle.format.specs.Forest.{Forest, end, step, group, repeat}
use Rattle.format.specs.Machine.{◌when◌, first_of, Outcome, unless, read}
use Rattle.format.specs.Head.{marks_in_order}
use Rattle.format.specs.Readings.{fold_rules, as_fold_reading}
use Rattle.format.specs.Numbers.{FoldReading}

-- The one-table cost of a fold: the sum over its own commands, each `10` and each `11` by its label alone, each `20` by its count.
unfoldable pub label_cost : (table : List ℕ) → (first each : ℕ) → Forest → ℕ
label_cost table first each end = 0
label_cost table first each (step l f) = get_or table l 0 + label_cost table first each f
label_cost table first each (group l b f) = get_or table l 0 + label_cost table first each b + label_cost table first each f
label_cost table first each (repeat h w b f) =
    first + each * (h - 2) + label_cost table first each b + label_cost table first each f

-- The prices of one table: a label has one price, whether a step or a group bears it.
abbrev pub by_label : (table : List ℕ) → (first each : ℕ) → Prices
by_label table first each =
    record { of_step = λ l. get_or table l 0; of_group = λ l. get_or table l 0; first = first; each = each }

-- What is checked before the first command: 11 for the one table, then 12 for the limit, then 18 for the marks, all at place 0.
unfoldable pub one_table_headed : (table marks : List ℕ) → (limit : ℕ) → Outcome → Outcome
unfolding marks_in_order
one_table_headed table marks k next =
    unless
    (first_of
    (11 when not (eqb (length table) limits.labels)
    ∷ 12 when ltb limits.width k
    ∷ 18 when not (marks_in_order limits marks)
    ∷ []))
    0
    0
    next

-- The fold reader's answer by one table.
unfoldable pub one_table_reading : List ℕ → (limit : ℕ) → (table marks : List ℕ) → (first each : ℕ) → FoldReading
unfolding one_table_headed read
one_table_reading s k table marks first each =
    as_fold_reading (one_table_headed table marks k (read (fold_rules (allowed k marks) (by_label table first each)) s))
