-- Steps and depth of what a reader accepts: what bounds them, when there is no group, and that a fold has those of the run
-- that it unrolls to.
use mathlib.Core.Path.{◌≡◌, refl, sym, ap, ◌∙◌}
use mathlib.Core.List.{List}
use Prim.Native.Nat.{ℕ, ◌≤◌}
use native.Mathlib.Nat.{mul-le-mul_left, le_of_mul-le-mul_left}
use native.Mathlib.Omega.{arith}
use lib.ListN.{length}
use Rattle.format.specs.Limits.{limits, Prices, Tariff, priced, allowed}
use Rattle.format.specs.Order.{Bytes}
use Rattle.format.specs.Forest.{Forest, end, step, group, repeat, Allowed, at_most, Sound, unroll, nodes, steps, group_depth}
use Rattle.format.specs.Machine.{Rules, Outcome, refused, accepted, read}
use Rattle.format.specs.Readings.{no_costs, free, run_rules, fold_rules, run_numbers, run_reading_in, run_reading, fold_numbers, as_fold_reading, fold_outcome, measured, reading_by, fold_reading}
use Rattle.format.specs.Head.{limit_head, full_head}
use Rattle.format.specs.StepsAndDepth.{StepsAndDepth, Alike}
use Rattle.format.specs.Shape.{Reads, tally_of}
use Rattle.format.specs.declared.tally.Tally.{Tally}
use Rattle.format.specs.Numbers.{RunReading}
use Rattle.format.proofs.Forests.{nodes_unroll, steps_unroll, group_depth_unroll}
use Rattle.format.proofs.Bridge.{accepts, parses}
use Rattle.format.proofs.Tree.{bytes_injective}
use Rattle.format.proofs.Runs.{unrolled_shape}
use Rattle.format.proofs.Report.{outcome_read, outcome_some}

steps_nodes : (f : Forest) → steps f ≤ nodes f
unfolding steps nodes
steps_nodes end = omega arith
steps_nodes (step l f) = omega (arith, steps_nodes f)
steps_nodes (group l b f) = omega (arith, steps_nodes b, steps_nodes f)
steps_nodes (repeat h w b f) = omega (arith, mul-le-mul_left h (steps_nodes b), steps_nodes f)

-- Without a group every node is a step; and with one, not every node is.
flat_steps : (f : Forest) → group_depth f ≡ 0 → nodes f ≤ steps f
unfolding steps nodes group_depth
flat_steps end e = omega arith
flat_steps (step l f) e = omega (arith, flat_steps f e)
flat_steps (group l b f) e = absurd (omega arith)
flat_steps (repeat h w b f) e = omega (arith, mul-le-mul_left h (flat_steps b (omega arith)), flat_steps f (omega arith))

steps_flat : (A : Allowed) (f : Forest) → Sound A f → nodes f ≤ steps f → group_depth f ≡ 0
unfolding steps nodes group_depth
steps_flat A end z e = omega arith
steps_flat A (step l f) z e = steps_flat A f z (omega arith)
steps_flat A (group l b f) z e = absurd (omega (arith, steps_nodes b, steps_nodes f))
steps_flat A (repeat h w b f) z e =
    let more = mul-le-mul_left h (steps_nodes b) in
    let body : nodes b ≤ steps b = le_of_mul-le-mul_left {k = h} (omega (arith, steps_nodes f)) (omega (arith, z.0.twice)) in
    omega (arith, steps_flat A b z.1 body, steps_flat A f z.2 (omega (arith, steps_nodes f)))

-- WHAT STEPS AND DEPTH CAN BE, of whatever is accepted by any rules.
pub steps_and_depth : (R : Rules) (s : List ℕ) → Bytes s → (t : Tally) (x : List ℕ) → read R s ≡ accepted t x → StepsAndDepth R t
unfolding tally_of
steps_and_depth R s small t x e = of_tree (parses R s small t x e)
  where
    of_tree : Reads R s t x → StepsAndDepth R t
    of_tree r =
        let f = r.tree in
        rw (← r.counts)
        (record {
          few = steps_nodes f;
          shallow = r.shape.groups;
          flat = (
            λ z. omega (arith, flat_steps f z, steps_nodes f),
            λ z. steps_flat R.allowed f r.shape.sound (omega arith),
          );
        })

-- One fold, read with the repeats A allowed and at the prices P, and unrolled with B and at Q to the run x.
module _ (s : List ℕ) (small : Bytes s) (A : Allowed) (P : Prices) (t : Tally) (y : List ℕ) (d : read (fold_rules A P) s ≡ accepted t y)
    (B : Allowed) (Q : Prices) (u : Tally) (x : List ℕ) (e : read (fold_rules B Q) s ≡ accepted u x) where
  abbrev a : Reads (fold_rules A P) s t y
  a = parses (fold_rules A P) s small t y d

  abbrev b : Reads (fold_rules B Q) s u x
  b = parses (fold_rules B Q) s small u x e

  one_tree : a.tree ≡ b.tree
  one_tree = bytes_injective a.tree b.tree (a.form ∙ sym b.form)

  run_of_fold : run_reading x ≡ run_numbers 0 0 t
  unfolding run_reading_in tally_of
  run_of_fold =
      let f = b.tree in
      rw (← b.text, accepts run_rules (unroll f) (unrolled_shape B Q f b.shape), ← a.counts, one_tree, nodes_unroll f, steps_unroll f, group_depth_unroll B f b.shape.sound)

  length_of_fold : t.size ≡ length x
  unfolding tally_of
  length_of_fold = rw (← a.counts, one_tree, b.text)

  alike_of_fold : Alike (fold_numbers 0 0 t) x
  alike_of_fold =
      let r = run_of_fold in
      record {
        success = refl;
        no_place = refl;
        accepted = ap (λ (z : RunReading). z.refusal) r;
        nodes = sym (ap (λ (z : RunReading). z.nodes) r);
        bytes = length_of_fold;
        steps = sym (ap (λ (z : RunReading). z.steps) r);
        depth = sym (ap (λ (z : RunReading). z.depth) r);
      }

-- A FOLD AND THE RUN THAT IT UNROLLS TO HAVE THE SAME NODES, STEPS AND DEPTH: whatever the limit and the costs at which the fold
-- reader accepts a fold, and whatever the limit at which it is unrolled.
module _ (s : List ℕ) (small : Bytes s) (k : ℕ) (T : Tariff) (success : (fold_reading s k T).refusal ≡ 0) where
  abbrev A : Allowed
  A = allowed k T.marks

  pub unrolled_alike : (j : ℕ) (u : Tally) (x : List ℕ) → measured s j ≡ accepted u x → Alike (fold_reading s k T) x
  unfolding reading_by
  unrolled_alike j u x e = by_outcome (fold_outcome (full_head T k) T s) refl
    where
      by_outcome : (o : Outcome) → fold_outcome (full_head T k) T s ≡ o → Alike (fold_reading s k T) x
      by_outcome (refused n p) f =
          absurd (outcome_some limits (full_head T k) T s n p f (sym (ap (λ (o : Outcome). (as_fold_reading o).refusal) f) ∙ success))
      by_outcome (accepted t y) f =
          rw f
          (alike_of_fold s small A (priced T) t y (outcome_read limits (full_head T k) T s t y f) (at_most j) free u x (outcome_read limits (limit_head j) no_costs s u x e))
