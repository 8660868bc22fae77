-- WITH ALL MARKS 0 THE FOLDER'S ANSWER IS WHAT IT WAS before labels could be marked: result, output and work slices are made of what
-- is decided here. WITH EVERY LABEL MARKED IT DECIDES ON THE RUN ITSELF, at its plain cost.
use mathlib.Core.Path.{◌≡◌, ap, ◌∙◌}
use mathlib.Core.List.{List}
use Prim.Native.Nat.{ℕ}
use lib.Dec.{eqb}
use lib.ListN.{get_or-replicate}
use Rattle.format.specs.Limits.{limits, Tariff, tariff, priced, Allowed, allowed}
use Rattle.format.specs.Order.{Bytes}
use Rattle.format.specs.Forest.{cost}
use Rattle.format.specs.Machine.{accepted, read}
use Rattle.format.specs.Head.{full_head}
use Rattle.format.specs.Readings.{run_rules, run_outcome_in, run_outcome}
use Rattle.format.specs.Tree.{tree_of}
use Rattle.format.specs.Marks.{free_marks, all_marks}
use Rattle.format.specs.FreeMarks.{unmarked_headed}
use Rattle.format.specs.declared.tally.Tally.{Tally}
use Rattle.format.proofs.Heads.{headed_accepted}
use Rattle.format.proofs.FreeMarks.{free_allowed, free_headed}
use Rattle.optimum.specs.Verdict.{folds, verdict, folding_by}
use Rattle.optimum.proofs.Demands.{shaped_run, run_form, run_shape}
use Rattle.optimum.proofs.AllMarked.{AllMarked, preferred_itself}
use Rattle.folder.specs.Folding.{folding}
use Rattle.folder.specs.FreeMarks.{unmarked_folding}

module _ (s : List ℕ) (k : ℕ) (steps groups : List ℕ) (first each : ℕ) where
  pub free_folding : folding s k (tariff steps groups free_marks first each) ≡ unmarked_folding s k steps groups first each
  unfolding folding_by run_outcome_in unmarked_folding
  free_folding =
      let T : Tariff = tariff steps groups free_marks first each in
      ap (verdict (allowed k free_marks) (priced T) s) (free_headed steps groups first each k (read run_rules s))
      ∙ ap (λ (A : Allowed). verdict A (priced T) s (unmarked_headed steps groups k (read run_rules s))) (free_allowed k)

-- Marks of ones mark every label.
all_allowed : (k : ℕ) → AllMarked (allowed k all_marks)
all_allowed k l h = ap (λ (m : ℕ). eqb m 1) (get_or-replicate 256 l 1 0 h)

module _ (s : List ℕ) (small : Bytes s) (k : ℕ) (steps groups : List ℕ) (first each : ℕ) where
  abbrev T : Tariff
  T = tariff steps groups all_marks first each

  pub all_marked_folding : (t : Tally) (x : List ℕ) → run_outcome (full_head T k) s ≡ accepted t x
      → folding s k T ≡ folds t.nodes s (cost (priced T) (tree_of s))
  unfolding folding_by run_outcome_in
  all_marked_folding t x e =
      let A : Allowed = allowed k all_marks in
      let run = headed_accepted limits (full_head T k) (read run_rules s) t x e in
      let shape = run_shape limits s small t x run in
      let same = preferred_itself A (all_allowed k) (priced T) (tree_of s) (shaped_run A (tree_of s) shape) shape.coded in
      ap (verdict A (priced T) s) e ∙ rw (same, run_form limits s small t x run)
