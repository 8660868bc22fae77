-- SHORT SEASON RUNS ARE RUNS: of at most 1,024 nodes, and of no group, what one of the two run readers accepts the other accepts,
-- with the same counts and the same text.
use mathlib.Core.Path.{◌≡◌, refl, ap}
use mathlib.Core.List.{List}
use Prim.Native.Nat.{ℕ, ◌≤◌}
use native.Mathlib.Omega.{arith}
use Rattle.format.specs.Limits.{Limits, limits, season}
use Rattle.format.specs.Order.{Bytes}
use Rattle.format.specs.Machine.{accepted, read}
use Rattle.format.specs.Readings.{run_rules_in, run_rules}
use Rattle.format.specs.Shape.{Reads, tally_of}
use Rattle.format.specs.declared.tally.Tally.{Tally}
use Rattle.format.proofs.Bridge.{parses, reads_accepted}
use Rattle.format.proofs.Forests.{repeat_depth_plain}

-- A run is accepted within any limits that hold its nodes and its depth.
pub accepted_within : (L M : Limits) (s : List ℕ) → Bytes s → (t : Tally) (x : List ℕ) → read (run_rules_in L) s ≡ accepted t x
    → t.nodes ≤ M.nodes → t.depth ≤ M.groups → read (run_rules_in M) s ≡ accepted t x
unfolding tally_of
accepted_within L M s small t x e few shallow = reads_accepted (again (parses (run_rules_in L) s small t x e))
  where
    again : Reads (run_rules_in L) s t x → Reads (run_rules_in M) s t x
    again a =
        let z = a.shape in
        record {
          tree = a.tree;
          form = a.form;
          shape = record {
            coded = z.coded;
            sound = z.sound;
            plain = z.plain;
            groups = omega (arith, ap (λ (u : Tally). u.depth) a.counts);
            repeats = omega (arith, repeat_depth_plain a.tree (z.plain refl));
            total = omega (arith, ap (λ (u : Tally). u.nodes) a.counts);
          };
          counts = a.counts;
          text = a.text;
        }

-- A run that is accepted has no more nodes and no greater depth than its limits say.
module _ (s : List ℕ) (small : Bytes s) (t : Tally) (x : List ℕ) where
  counts_within : (L : Limits) → read (run_rules_in L) s ≡ accepted t x → (t.nodes ≤ L.nodes) × (t.depth ≤ L.groups)
  unfolding tally_of
  counts_within L e =
      let a = parses (run_rules_in L) s small t x e in
      rw (← a.counts) (a.shape.total, a.shape.groups)

  pub season_run_is_run : read (run_rules_in season) s ≡ accepted t x → t.nodes ≤ limits.nodes → read run_rules s ≡ accepted t x
  season_run_is_run e few = accepted_within season limits s small t x e few (omega (arith, (counts_within season e).1))

  pub run_is_season_run : read run_rules s ≡ accepted t x → t.depth ≡ 0 → read (run_rules_in season) s ≡ accepted t x
  run_is_season_run e flat = accepted_within limits season s small t x e (omega (arith, (counts_within limits e).0)) (omega arith)
