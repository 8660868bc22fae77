-- What the folder decides where one table prices the labels of steps and groups alike. Only the theorems about equal tables
-- use it.
use Rattle.std.specs.Prelude.{List, ℕ}
use Rattle.format.specs.Limits.{allowed}
use Rattle.format.specs.Machine.{read}
use Rattle.format.specs.Readings.{run_rules}
use Rattle.format.specs.OneTable.{by_label, one_table_headed}
use Rattle.optimum.specs.Verdict.{Verdict, verdict}

unfoldable pub one_table_folding : List ℕ → (limit : ℕ) → (table marks : List ℕ) → (first each : ℕ) → Verdict
unfolding one_table_headed read
one_table_folding s k table marks first each =
    verdict (allowed k marks) (by_label table first each) s (one_table_headed table marks k (read run_rules s))
