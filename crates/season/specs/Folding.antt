-- What the season folder answers, writes and leaves in its work, for every run, limit, prices and lent slices.
use Rattle.std.specs.Prelude.{Bool, false, List, ℕ, ◌+◌, ◌*◌, ltb}
use Rattle.format.specs.Limits.{season, Tariff}
use Rattle.format.specs.Numbers.{Folded}
use Rattle.optimum.specs.Verdict.{Verdict, folding_by, answer_by, output_by, work_by}

-- The checks of tables, limit and marks, then the run's own refusals, all by the limits of season runs; or the cheapest fold.
abbrev pub season_folding : List ℕ → (limit : ℕ) → Tariff → Verdict
season_folding s k T = folding_by season false s k T

-- The entries that the work slice must have for a run of n steps: a block of 256 for each step and one for the end.
abbrev pub work_entries : ℕ → ℕ
work_entries n = 256 * (n + 1)

abbrev pub too_short : (work : ℕ) → (n : ℕ) → Bool
too_short w n = ltb w (work_entries n)

-- The answer, the output and the work slice afterwards.
abbrev pub season_answer : Verdict → (work room : ℕ) → Folded
season_answer v w o = answer_by (too_short w) v o

abbrev pub season_output : Verdict → (work : ℕ) → List ℕ → List ℕ
season_output v w out = output_by (too_short w) v out

abbrev pub season_work : Verdict → (work : ℕ) → List ℕ → List ℕ
season_work v w work = work_by (too_short w) work_entries v work
