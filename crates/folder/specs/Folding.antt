-- What the folder answers, writes and leaves in the work slices, for every run, limit, prices and lent slices.
use Rattle.std.specs.Prelude.{Bool, false, ◌||◌, List, ℕ, ltb}
use Rattle.format.specs.Limits.{limits, Tariff, cells}
use Rattle.format.specs.Family.{short_form}
use Rattle.format.specs.Numbers.{Folded}
use Rattle.optimum.specs.Verdict.{Verdict, refuses, folds, folding_by, answer_by, output_by, work_by}

-- The checks of tables, limit and marks, then the run's own refusals; or the cheapest fold, in a family.
abbrev pub folding_in : (short : Bool) → List ℕ → (limit : ℕ) → Tariff → Verdict
folding_in short s k T = folding_by limits short s k T

-- Where no family is named, the long one.
abbrev pub folding : List ℕ → (limit : ℕ) → Tariff → Verdict
folding s k T = folding_in false s k T

-- A verdict with its fold in the short form: which fold it is was decided before.
abbrev pub shortened : Verdict → Verdict
shortened (refuses n p) = refuses n p
shortened (folds n f c) = folds n (short_form f) c

-- A work slice is too short for n nodes.
abbrev pub short_work : (n costs choices : ℕ) → Bool
short_work n a b = ltb a (cells n) || ltb b (cells n)

-- The answer, the output and a work slice afterwards.
abbrev pub fold_answer : Verdict → (costs choices room : ℕ) → Folded
fold_answer v a b o = answer_by (λ n. short_work n a b) v o

abbrev pub fold_output : Verdict → (costs choices : ℕ) → List ℕ → List ℕ
fold_output v a b out = output_by (λ n. short_work n a b) v out

abbrev pub fold_work : Verdict → (costs choices : ℕ) → List ℕ → List ℕ
fold_work v a b w = work_by (λ n. short_work n a b) cells v w
