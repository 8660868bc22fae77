-- What the folder decides where no label can be marked. Only the theorems about free marks use it.
use Rattle.std.specs.Prelude.{List, [], ℕ}
use Rattle.format.specs.Limits.{tariff, priced, at_most}
use Rattle.format.specs.Machine.{read}
use Rattle.format.specs.Readings.{run_rules}
use Rattle.format.specs.FreeMarks.{unmarked_headed}
use Rattle.optimum.specs.Verdict.{Verdict, verdict}

unfoldable pub unmarked_folding : List ℕ → (limit : ℕ) → (steps groups : List ℕ) → (first each : ℕ) → Verdict
unfolding unmarked_headed read
unmarked_folding s k steps groups first each =
    verdict (at_most k) (priced (tariff steps groups [] first each)) s (unmarked_headed steps groups k (read run_rules s))
