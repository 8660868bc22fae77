-- WITH EQUAL TABLES EVERYTHING IS AS WITH ONE TABLE that prices the labels of steps and groups alike: what a fold costs, and what
-- the fold reader answers.
use mathlib.Core.Path.{◌≡◌, refl, ap, ◌∙◌}
use mathlib.Core.Bool.{Bool, true, false, not}
use mathlib.Core.List.{List, [], ◌∷◌}
use Prim.Native.Nat.{ℕ}
use native.Mathlib.Omega.{arith}
use lib.Dec.{eqb, ltb}
use lib.ListN.{length}
use Rattle.format.specs.Limits.{limits, Tariff, tariff, priced, Allowed, allowed}
use Rattle.format.specs.Order.{Bytes}
use Rattle.format.specs.Forest.{Forest, end, step, group, repeat, cost}
use Rattle.format.specs.Machine.{Outcome, accepted, read, unless, first_of, Check, ◌when◌}
use Rattle.format.specs.Head.{head_checks, headed, marks_in_order, full_head}
use Rattle.format.specs.Readings.{fold_rules, as_fold_reading, outcome_by, reading_by, fold_reading}
use Rattle.format.specs.Tree.{tree_of}
use Rattle.format.specs.OneTable.{label_cost, by_label, one_table_headed, one_table_reading}
use Rattle.format.specs.declared.tally.Tally.{Tally}
use Rattle.format.proofs.Report.{accepted_cost}

module _ (table marks : List ℕ) (first each : ℕ) where
  abbrev T : Tariff
  T = tariff table table marks first each

  -- The cost of every fold is the one-table cost.
  pub equal_tables_cost : (f : Forest) → cost (priced T) f ≡ label_cost table first each f
  unfolding cost label_cost
  equal_tables_cost end = refl
  equal_tables_cost (step l f) = omega (arith, equal_tables_cost f)
  equal_tables_cost (group l b f) = omega (arith, equal_tables_cost b, equal_tables_cost f)
  equal_tables_cost (repeat h w b f) = omega (arith, equal_tables_cost b, equal_tables_cost f)

  -- And so is the cost of all bytes that the rules of folds accept.
  pub equal_tables_accepted : (A : Allowed) (s : List ℕ) → Bytes s → (t : Tally) (x : List ℕ)
      → read (fold_rules A (priced T)) s ≡ accepted t x → t.cost ≡ label_cost table first each (tree_of s)
  equal_tables_accepted A s small t x e = accepted_cost limits A (priced T) s small t x e ∙ equal_tables_cost (tree_of s)

  -- 15 is never said: 11 comes first.
  pub equal_tables_headed : (k : ℕ) (o : Outcome) → headed limits (full_head T k) o ≡ one_table_headed table marks k o
  unfolding headed head_checks one_table_headed
  equal_tables_headed k o = by_size (eqb (length table) limits.labels)
    where
      rest : List Check
      rest = 12 when ltb limits.width k ∷ 18 when not (marks_in_order limits marks) ∷ []

      by_size : (b : Bool)
          → unless (first_of (11 when not b ∷ 15 when not b ∷ rest)) 0 0 o ≡ unless (first_of (11 when not b ∷ rest)) 0 0 o
      by_size true = refl
      by_size false = refl

  -- The fold reader's whole answer is the one by one table.
  pub equal_tables_reading : (s : List ℕ) (k : ℕ) → fold_reading s k T ≡ one_table_reading s k table marks first each
  unfolding reading_by outcome_by one_table_reading
  equal_tables_reading s k = ap as_fold_reading (equal_tables_headed k (read (fold_rules (allowed k marks) (by_label table first each)) s))
