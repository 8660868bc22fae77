-- What a well-formed fold unrolls to is a run, which the run reader of the same limits accepts; and what the run reader accepts is
-- the byte form of a sound tree.
use mathlib.Core.Path.{◌≡◌, refl, sym, ap, ◌∙◌}
use mathlib.Core.List.{List}
use Prim.Native.Nat.{ℕ}
use native.Mathlib.Omega.{arith}
use Rattle.format.specs.Limits.{Limits, Prices}
use Rattle.format.specs.Order.{Bytes}
use Rattle.format.specs.Forest.{Forest, Allowed, at_most, Sound, unroll, bytes}
use Rattle.format.specs.Machine.{Outcome, refused, accepted, read}
use Rattle.format.specs.Readings.{run_rules_in, fold_rules_in, as_run_reading, run_reading_in}
use Rattle.format.specs.Shape.{Shaped}
use Rattle.format.specs.Tree.{tree_of}
use Rattle.format.proofs.Forests.{nodes_unroll, plain_unroll, sound_unroll, coded_unroll, group_depth_unroll, repeat_depth_plain}
use Rattle.format.proofs.Bridge.{accepts, parses}
use Rattle.format.proofs.Marks.{sound_plain}
use Rattle.format.proofs.Refusals.{refused_some}
use Rattle.format.proofs.Tree.{tree_of_bytes}

module _ {L : Limits} (A : Allowed) (P : Prices) (f : Forest) (z : Shaped (fold_rules_in L A P) f) where
  pub unrolled_shape : Shaped (run_rules_in L) (unroll f)
  unrolled_shape =
      let p = plain_unroll f in
      let s = sound_unroll A f z.sound in
      record {
        coded = coded_unroll f z.coded;
        sound = sound_plain A (at_most 0) (unroll f) p s;
        plain = λ e. p;
        groups = omega (arith, group_depth_unroll A f z.sound, z.groups);
        repeats = omega (arith, repeat_depth_plain (unroll f) p);
        total = omega (arith, nodes_unroll f, z.total);
      }

  pub unrolled_run : (run_reading_in L (bytes (unroll f))).refusal ≡ 0
  unfolding run_reading_in
  unrolled_run = rw (accepts (run_rules_in L) (unroll f) unrolled_shape)

pub run_tree : (L : Limits) (s : List ℕ) → Bytes s → (run_reading_in L s).refusal ≡ 0 → (bytes (tree_of s) ≡ s) × Sound (at_most 0) (tree_of s)
unfolding run_reading_in
run_tree L s small z = by_outcome (read (run_rules_in L) s) refl
  where
    by_outcome : (o : Outcome) → read (run_rules_in L) s ≡ o → (bytes (tree_of s) ≡ s) × Sound (at_most 0) (tree_of s)
    by_outcome (refused n p) e =
        absurd (refused_some (run_rules_in L) s n p e (sym (ap (λ (o : Outcome). (as_run_reading o).refusal) e) ∙ z))
    by_outcome (accepted t x) e =
        let r = parses (run_rules_in L) s small t x e in
        let same : tree_of s ≡ r.tree = ap tree_of (sym r.form) ∙ tree_of_bytes r.tree in
        (rw same r.form, rw same r.shape.sound)
