-- The report's own problem: the cheapest fold of a run is, by the report's size, a smallest tree of its width that represents
-- the run.
use mathlib.Core.Path.{◌≡◌, sym, ap, subst, ◌∙◌}
use mathlib.Core.List.{List}
use Prim.Native.Nat.{ℕ, ◌≤◌}
use native.Mathlib.Omega.{arith}
use Rattle.format.specs.Limits.{Prices, Tariff, priced, Allowed, allowed}
use Rattle.format.specs.Order.{Bytes}
use Rattle.format.specs.Forest.{Forest, cost, bytes, Sound}
use Rattle.format.specs.Machine.{accepted, read}
use Rattle.format.specs.Readings.{run_rules_in, fold_rules_in, rules_by}
use Rattle.format.specs.Shape.{Reads}
use Rattle.format.specs.Tree.{tree_of}
use Rattle.format.specs.Meaning.{Letter, NoneRepeated, MeansIn, report, report_size}
use Rattle.format.specs.Report.{RRT, Valid, WidthAtMost, Represents}
use Rattle.format.specs.declared.kind.Limits.{Limits}
use Rattle.format.specs.declared.tally.Tally.{Tally}
use Rattle.format.proofs.Forests.{coded_bytes}
use Rattle.format.proofs.Tree.{tree_of_bytes}
use Rattle.format.proofs.Letters.{Lettered, fold_of, report_fold_of}
use Rattle.format.proofs.Report.{reads_mean, cost_report, sound_fold_of, represents_lettered, represents_run}
use Rattle.optimum.specs.Optimal.{FoldOf}
use Rattle.optimum.specs.Demands.{CheapestWithin, MinimumTreeIn}
use Rattle.optimum.proofs.Demands.{BarsNone, shaped_run, form, tree_fold, tree_cost, fold_shaped, is_fold, run_form, run_shape}

module _ (L : Limits) (s : List ℕ) (small : Bytes s) (t : Tally) (x : List ℕ) (run : read (run_rules_in L) s ≡ accepted t x)
    (none : BarsNone L) (k : ℕ) (narrow : k ≤ L.width) (T : Tariff) (f : List ℕ) (c : ℕ) (written : Bytes f)
    (best : CheapestWithin s k (rules_by L T) f c) where
  abbrev A : Allowed
  A = allowed k T.marks

  abbrev P : Prices
  P = priced T

  abbrev u : Forest
  u = tree_of s

  spelled : bytes u ≡ s
  spelled = run_form L s small t x run

  cheapest : CheapestWithin (bytes u) k (rules_by L T) f c
  cheapest = subst (λ (r : List ℕ). CheapestWithin r k (rules_by L T) f c) (sym spelled) best

  meaning : MeansIn L A f s
  meaning =
      let r = form L k T u f c written cheapest.fold in
      let again : Reads (fold_rules_in L A P) f cheapest.fold.formed.tally (bytes u) =
      record {
        tree = r.tree;
        form = r.form;
        shape = fold_shaped none A narrow P u r.tree (run_shape L s small t x run) (tree_fold L k T u f c written cheapest.fold);
        counts = r.counts;
        text = r.text;
      } in
      rw spelled at (reads_mean A P f cheapest.fold.formed.tally (bytes u) again)

  -- The size of the fold's tree is its cost.
  sized : report_size P (report (tree_of f)) ≡ c
  sized =
      let r = form L k T u f c written cheapest.fold in
      let e : tree_of f ≡ r.tree = ap tree_of (sym r.form) ∙ tree_of_bytes r.tree in
      rw e (sym (cost_report P r.tree) ∙ tree_cost L k T u f c written cheapest.fold)

  module _ (r : RRT Letter) (valid : Valid r) (within : WidthAtMost k r) (marks : NoneRepeated A.marked r) (represented : Represents r (report u)) where
    sound_run : Sound A u
    sound_run = (shaped_run A u (run_shape L s small t x run)).sound

    lettered : Lettered r
    lettered = represents_lettered A r u valid sound_run represented

    rival : FoldOf A u (fold_of r)
    rival =
        let sound = sound_fold_of A r lettered valid within marks in
        record {
          sound = sound;
          unrolls = (represents_run A (fold_of r) u sound sound_run).0 (rw (report_fold_of r lettered) represented);
        }

    no_smaller : report_size P (report (tree_of f)) ≤ report_size P r
    no_smaller =
        let g = fold_of r in
        let shape = run_shape L s small t x run in
        let coded = coded_bytes g (fold_shaped none A narrow P u g shape rival).coded in
        let l : c ≤ cost P g = cheapest.no_cheaper (bytes g) (cost P g) coded (is_fold L none k narrow T u shape g rival) in
        omega (arith, sized, cost_report P g ∙ ap (report_size P) (report_fold_of r lettered))

  pub cheapest_minimum : MinimumTreeIn L s k T f
  cheapest_minimum = record { means = meaning; smallest = no_smaller }
