-- WITH EQUAL TABLES the cheapest fold is the one that one table for the labels of steps and groups alike gives.
use mathlib.Core.Path.{◌≡◌, sym, ap, ◌∙◌}
use mathlib.Core.Logic.{◌↔◌}
use mathlib.Core.List.{List, []}
use Prim.Native.Nat.{ℕ}
use Rattle.format.specs.Limits.{limits, Tariff, tariff, priced, allowed}
use Rattle.format.specs.Order.{Bytes}
use Rattle.format.specs.Forest.{cost}
use Rattle.format.specs.Readings.{format_rules}
use Rattle.format.specs.Shape.{tally_of}
use Rattle.format.specs.Tree.{tree_of}
use Rattle.format.proofs.Bridge.{same_acceptance}
use Rattle.format.proofs.Tree.{tree_of_bytes}
use Rattle.format.proofs.OneTable.{equal_tables_cost, equal_tables_accepted}
use Rattle.optimum.specs.Demands.{FoldWithin, CheapestWithin}
use Rattle.optimum.specs.OneTable.{FoldByLabel, CheapestByLabel}

module _ (run : List ℕ) (k : ℕ) (table marks : List ℕ) (first each : ℕ) where
  abbrev T : Tariff
  T = tariff table table marks first each

  -- The same marks, and no prices.
  abbrev unpriced : Tariff
  unpriced = tariff [] [] marks 0 0

  -- The folds are the same, at the same costs.
  as_one : (g : List ℕ) (c : ℕ) → Bytes g → FoldWithin run k (format_rules T) g c → FoldByLabel run k table marks first each g c
  as_one g c small w =
      let r = w.formed in
      let a = same_acceptance (format_rules T) (priced unpriced) g small r.tally r.text r.reading in
      record {
        formed = record { tally = tally_of (priced unpriced) a.0.tree; text = r.text; reading = a.1 };
        unrolls = w.unrolls;
        within = w.within;
        costs = sym (equal_tables_accepted table marks first each (allowed limits.width marks) g small r.tally r.text r.reading) ∙ w.costs;
      }

  as_two : (g : List ℕ) (c : ℕ) → Bytes g → FoldByLabel run k table marks first each g c → FoldWithin run k (format_rules T) g c
  unfolding tally_of
  as_two g c small w =
      let r = w.formed in
      let a = same_acceptance (format_rules unpriced) (priced T) g small r.tally r.text r.reading in
      let f = a.0.tree in
      let e : f ≡ tree_of g = sym (tree_of_bytes f) ∙ ap tree_of a.0.form in
      record {
        formed = record { tally = tally_of (priced T) f; text = r.text; reading = a.1 };
        unrolls = w.unrolls;
        within = w.within;
        costs = ap (cost (priced T)) e ∙ equal_tables_cost table marks first each (tree_of g) ∙ w.costs;
      }

  pub equal_tables_cheapest : (f : List ℕ) (c : ℕ) → Bytes f → CheapestWithin run k (format_rules T) f c ↔ CheapestByLabel run k table marks first each f c
  equal_tables_cheapest f c small = (
    λ b. record {
      fold = as_one f c small b.fold;
      no_cheaper = λ g d z w. b.no_cheaper g d z (as_two g d z w);
      earliest = λ g d z w. b.first g d z (as_two g d z w);
    },
    λ b. record {
      fold = as_two f c small b.fold;
      no_cheaper = λ g d z w. b.no_cheaper g d z (as_one g d z w);
      first = λ g d z w. b.earliest g d z (as_one g d z w);
    },
  )
