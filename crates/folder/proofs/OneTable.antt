-- WITH EQUAL TABLES THE FOLDER'S ANSWER IS THE ONE OF ONE TABLE for the labels of steps and groups alike: result, output and work
-- slices are made of what is decided here. And the fold that it decides on is the cheapest by the one-table cost.
use mathlib.Core.Path.{◌≡◌, refl, sym, ap, ◌∙◌}
use mathlib.Core.List.{List}
use Prim.Native.Nat.{ℕ, suc}
use native.Mathlib.Omega.{arith}
use Rattle.format.specs.Limits.{limits, Tariff, tariff, Prices, priced, Allowed, allowed}
use Rattle.format.specs.Order.{Bytes}
use Rattle.format.specs.Forest.{bytes, cost}
use Rattle.format.specs.Machine.{Outcome, refused, accepted, read}
use Rattle.format.specs.Head.{full_head}
use Rattle.format.specs.Readings.{run_rules, run_outcome_in, run_outcome}
use Rattle.format.specs.Tree.{tree_of}
use Rattle.format.specs.OneTable.{by_label}
use Rattle.format.proofs.Heads.{headed_accepted, headed_narrow}
use Rattle.format.proofs.OneTable.{equal_tables_headed}
use Rattle.optimum.specs.Fewest.{preferred}
use Rattle.optimum.specs.Verdict.{folds, verdict, folding_by}
use Rattle.optimum.specs.OneTable.{CheapestByLabel}
use Rattle.optimum.proofs.Demands.{format_bars_none, cheapest_small, cheapest_bytes}
use Rattle.optimum.proofs.OneTable.{equal_tables_cheapest}
use Rattle.folder.specs.Folding.{folding}
use Rattle.folder.specs.OneTable.{one_table_folding}

module _ (s : List ℕ) (k : ℕ) (table marks : List ℕ) (first each : ℕ) where
  abbrev T : Tariff
  T = tariff table table marks first each

  abbrev A : Allowed
  A = allowed k marks

  pub equal_tables_folding : folding s k T ≡ one_table_folding s k table marks first each
  unfolding folding_by run_outcome_in one_table_folding
  equal_tables_folding =
      ap (verdict A (by_label table first each) s) (equal_tables_headed table marks first each k (read run_rules s))

  pub equal_tables_fold : Bytes s → (n : ℕ) (f : List ℕ) (c : ℕ) → folding s k T ≡ folds n f c → CheapestByLabel s k table marks first each f c
  unfolding folding_by run_outcome_in
  equal_tables_fold small n f c decided = by_outcome (run_outcome (full_head T k) s) refl
    where
      by_outcome : (o : Outcome) → run_outcome (full_head T k) s ≡ o → CheapestByLabel s k table marks first each f c
      by_outcome (refused m p) e =
          let none : n ≡ suc n = cc (decided, ap (verdict A (priced T) s) e) in
          absurd (omega arith)
      by_outcome (accepted t x) e =
          let P : Prices = priced T in
          let g = bytes (preferred A P (tree_of s)) in
          let accepts = headed_accepted limits (full_head T k) (read run_rules s) t x e in
          let narrow = headed_narrow limits (full_head T k) (read run_rules s) t x e in
          let best = cheapest_bytes limits s small t x accepts format_bars_none k narrow T in
          let coded = cheapest_small limits s small t x accepts format_bars_none A P in
          let same : folds t.nodes g (cost P (preferred A P (tree_of s))) ≡ folds n f c =
          sym (ap (verdict A P s) e) ∙ decided in
          let fold : g ≡ f = cc same in
          let costs : cost P (preferred A P (tree_of s)) ≡ c = cc same in
          rw (← fold, ← costs) ((equal_tables_cheapest s k table marks first each _ _ coded).0 best)
