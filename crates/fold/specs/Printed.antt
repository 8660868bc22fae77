-- What the fold program prints for a run.
use Rattle.std.specs.Prelude.{cond, List, ℕ, ltb, replicate}
use Rattle.format.specs.Limits.{limits, tariff}
use Rattle.format.specs.Marks.{free_marks}
use Rattle.optimum.specs.Verdict.{Verdict, refuses, folds, folding_by}
use Rattle.folder.specs.Folding.{folding}
use Rattle.fold.specs.Text.{three_lines, refusal_line}

-- The lines for what the run decides: a refusal of the run's own, 13 for a run of more than 100 nodes, or the fold. No fold
-- of 100 nodes fills 4,096 bytes, so 14 is never said.
abbrev pub lines_of : Verdict → List ℕ
lines_of (refuses n p) = refusal_line n p
lines_of (folds n f c) =
    cond (ltb 100 n) (refusal_line 13 0) (three_lines n c f)

-- At unit costs, every label 1 for steps and groups and free, first 1 and each 0, and the largest width limit.
unfoldable pub printed : List ℕ → List ℕ
unfolding folding_by
printed run = lines_of (folding run limits.width (tariff (replicate 256 1) (replicate 256 1) free_marks 1 0))
