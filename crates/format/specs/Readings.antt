-- What the readers answer: the refusal's number and place, or the values, for every input.
use Rattle.std.specs.Prelude.{◌≡◌, Bool, true, false, List, [], ℕ}
use Rattle.format.specs.Limits.{Limits, limits, season, Prices, Tariff, tariff, priced, Allowed, at_most, allowed}
use Rattle.format.specs.Machine.{Rules, none, Outcome, refused, accepted, read}
use Rattle.format.specs.Head.{Head, headed, limit_head, full_head}
use Rattle.format.specs.declared.tally.Tally.{Tally}
use Rattle.format.specs.Numbers.{RunReading}
use Rattle.format.specs.Numbers.{FoldReading}

-- Nothing has a price, and no label is marked.
abbrev pub no_costs : Tariff
no_costs = tariff [] [] [] 0 0

abbrev pub free : Prices
free = priced no_costs

-- The rules of runs within limits: no repeats, so neither what repeats are allowed nor prices matter. Where no limits are named,
-- here and below, the format's are meant.
abbrev pub run_rules_in : Limits → Rules
run_rules_in L = record { limits = L; folds = false; short = false; allowed = at_most 0; prices = free }

abbrev pub run_rules : Rules
run_rules = run_rules_in limits

-- The rules of folds with these repeats allowed, at prices.
abbrev pub fold_rules_in : Limits → Allowed → Prices → Rules
fold_rules_in L A P = record { limits = L; folds = true; short = false; allowed = A; prices = P }

abbrev pub fold_rules : Allowed → Prices → Rules
fold_rules A P = fold_rules_in limits A P

-- The same rules in a family, the short one or the long one.
abbrev pub in_family : (short : Bool) → Rules → Rules
in_family short R =
    record { limits = R.limits; folds = R.folds; short = short; allowed = R.allowed; prices = R.prices }

-- The rules at lent costs: those of folds at the largest width limit under the marks. Of the format, and of season runs.
abbrev pub rules_by : Limits → Tariff → Rules
rules_by L T = fold_rules_in L (allowed L.width T.marks) (priced T)

abbrev pub format_rules : Tariff → Rules
format_rules T = rules_by limits T

abbrev pub season_rules : Tariff → Rules
season_rules T = rules_by season T

-- Bytes are well formed by rules that refuse nothing in them: by the format's, none of refusals 1, 3 to 10, 19 and, in the short
-- family, 20 applies at the largest width limit; by those of season runs, 21 does not apply either. Of the costs the marks decide
-- this; the prices decide nothing but the cost that is counted.
pub record WellFormed (R : Rules) (s : List ℕ) : Type 0 where
  pub tally : Tally
  pub text : List ℕ
  pub reading : read R s ≡ accepted tally text

-- What is answered about a run: number and place of a refusal and nothing counted, or 0 and 0 and the counts.
abbrev pub run_numbers : (refusal place : ℕ) → Tally → RunReading
run_numbers n p t = record { refusal = n; place = p; nodes = t.nodes; steps = t.steps; depth = t.depth }

abbrev pub as_run_reading : Outcome → RunReading
as_run_reading (refused n p) = run_numbers n p none
as_run_reading (accepted t x) = run_numbers 0 0 t

-- The run reader, and the season run reader.
unfoldable pub run_reading_in : Limits → List ℕ → RunReading
unfolding read
run_reading_in L s = as_run_reading (read (run_rules_in L) s)

abbrev pub run_reading : List ℕ → RunReading
run_reading s = run_reading_in limits s

abbrev pub season_run_reading : List ℕ → RunReading
season_run_reading s = run_reading_in season s

-- A run at an entry point with this head: the checks of the head, then the run's own refusals.
unfoldable pub run_outcome_in : Limits → Head → List ℕ → Outcome
unfolding headed read
run_outcome_in L h s = headed L h (read (run_rules_in L) s)

abbrev pub run_outcome : Head → List ℕ → Outcome
run_outcome h s = run_outcome_in limits h s

-- What is answered about a fold, likewise.
abbrev pub fold_numbers : (refusal place : ℕ) → Tally → FoldReading
fold_numbers n p t =
    record {
      refusal = n;
      place = p;
      nodes = t.nodes;
      length = t.size;
      cost = t.cost;
      steps = t.steps;
      depth = t.depth;
    }

abbrev pub as_fold_reading : Outcome → FoldReading
as_fold_reading (refused n p) = fold_numbers n p none
as_fold_reading (accepted t x) = fold_numbers 0 0 t

-- The rules of a family at an entry point with this head and these costs.
abbrev pub entry_rules : Limits → (short : Bool) → Head → Tariff → Rules
entry_rules L short h T = in_family short (fold_rules_in L (allowed h.limit T.marks) (priced T))

abbrev pub rules_at : (short : Bool) → Head → Tariff → Rules
rules_at short h T = entry_rules limits short h T

-- A fold of a family there: the checks of the head, then the commands at its limit and these costs.
unfoldable pub outcome_by : Limits → (short : Bool) → Head → Tariff → List ℕ → Outcome
unfolding headed read
outcome_by L short h T s = headed L h (read (entry_rules L short h T) s)

abbrev pub outcome_in : (short : Bool) → Head → Tariff → List ℕ → Outcome
outcome_in short h T s = outcome_by limits short h T s

-- Where no family is named, the long one.
abbrev pub fold_outcome : Head → Tariff → List ℕ → Outcome
fold_outcome h T s = outcome_in false h T s

-- A fold at a width limit, without costs; and a season fold.
abbrev pub measured_by : Limits → List ℕ → (limit : ℕ) → Outcome
measured_by L s k = outcome_by L false (limit_head k) no_costs s

abbrev pub measured : List ℕ → (limit : ℕ) → Outcome
measured s k = measured_by limits s k

abbrev pub season_measured : List ℕ → (limit : ℕ) → Outcome
season_measured s k = measured_by season s k

-- The greatest number that an operand of two bytes says. As a width limit it bars nothing: no width operand is over it.
abbrev pub greatest_operand : ℕ
greatest_operand = 65535

-- A fold of a family at an entry point that takes neither limit nor costs: refusals 1, 3 to 6 and 8 to 10, in the short family 20
-- as well.
abbrev pub alone_rules : (short : Bool) → Rules
alone_rules short = in_family short (fold_rules (at_most greatest_operand) free)

unfoldable pub alone_in : (short : Bool) → List ℕ → Outcome
unfolding read
alone_in short s = read (alone_rules short) s

abbrev pub fold_alone : List ℕ → Outcome
fold_alone s = alone_in false s

-- The fold reader; the short reader, the same of the short family; and the season fold reader.
unfoldable pub reading_by : Limits → (short : Bool) → List ℕ → (limit : ℕ) → Tariff → FoldReading
unfolding outcome_by
reading_by L short s k T = as_fold_reading (outcome_by L short (full_head T k) T s)

abbrev pub fold_reading : List ℕ → (limit : ℕ) → Tariff → FoldReading
fold_reading s k T = reading_by limits false s k T

abbrev pub short_reading : List ℕ → (limit : ℕ) → Tariff → FoldReading
short_reading s k T = reading_by limits true s k T

abbrev pub season_reading : List ℕ → (limit : ℕ) → Tariff → FoldReading
season_reading s k T = reading_by season false s k T
