-- The answers of the unroller, as its contract has them: a refusal by the first check that applies, or the run written.
use mathlib.Core.Path.{◌≡◌, refl, sym, ap, ◌∙◌}
use mathlib.Core.List.{List, [], ◌++◌}
use Prim.Native.Nat.{ℕ, ◌≤◌, ◌<◌}
use native.Mathlib.Nat.{zero-add}
use native.Mathlib.Omega.{arith}
use lib.ListN.{length, take, drop}
use lib.Seq.{sets-eq, take_at}
use borrow.Author.Tests.{lt-ltb, le-ltb}
use Rattle.format.specs.Forest.{at_most}
use Rattle.std.specs.Prelude.{Ok, Err}
use Rattle.format.specs.Machine.{accepted}
use Rattle.format.specs.Order.{Bytes}
use Rattle.format.specs.Head.{limit_head}
use Rattle.format.specs.Readings.{no_costs, free, fold_rules_in, as_fold_reading, measured_by}
use Rattle.format.specs.Shape.{Reads}
use Rattle.format.specs.Meaning.{MeansIn}
use Rattle.format.specs.declared.kind.Limits.{Limits}
use Rattle.format.specs.Numbers.{FoldReading}
use Rattle.format.specs.declared.tally.Tally.{Tally}
use Rattle.format.specs.Numbers.{Written}
use Rattle.format.specs.Answers.{fold_said, written_said}
use Rattle.format.specs.declared.answers.FoldCounts.{FoldCounts}
use Rattle.format.specs.declared.answers.Reason.TheVariants.{ShortOutput}
use Rattle.format.specs.declared.answers.Refusal.{Refusal}
use Rattle.format.proofs.Numbered.{numbered}
use Rattle.format.proofs.Answered.{answered_refused, answered_accepted}
use Rattle.format.proofs.Bridge.{parses}
use Rattle.format.proofs.Standing.{whole_form}
use Rattle.format.proofs.Report.{accepted_means, accepted_length, outcome_read, outcome_some}
use Rattle.format.specs.Output.{written_answer, written_output}
use Rattle.unroller.specs.inner.Writing.{SequenceFrom, PassedOver}
use Rattle.unroller.specs.declared.write.Place.{Place}

-- A fold that was measured and not refused: it is the byte form of a tree, and n is the length of its run.
pub record Measured (L : Limits) (s : List ℕ) (k n : ℕ) : Type 0 where
  pub tally : Tally
  pub text : List ℕ
  pub reading : measured_by L s k ≡ accepted tally text
  pub tree : Reads (fold_rules_in L (at_most k) free) s tally text
  pub means : MeansIn L (at_most k) s text
  pub size : n ≡ length text

-- The top of the walk.
abbrev pub top : Place
top = record { at = 0; to = 0 }

module _ (L : Limits) (s : List ℕ) (k : ℕ) where
  -- The answer that is promised, and the output after it.
  abbrev Promised : List ℕ → List ℕ → Written → Type 0
  Promised before after r =
      (r ≡ written_answer (measured_by L s k) (length before)) × (after ≡ written_output (measured_by L s k) before)

  -- What a fold reads at the limit n it reads at the limit k, where the two are equal.
  pub read_at : (r : FoldReading) (n : ℕ) → r ≡ as_fold_reading (measured_by L s n) → n ≡ k → r ≡ as_fold_reading (measured_by L s k)
  read_at r n reads e = rw e at reads

  pub fold_refused : (e : Refusal) → fold_said (Err e) ≡ as_fold_reading (measured_by L s k) → (out : List ℕ)
      → Promised out out (written_said (Err e))
  fold_refused e reads out =
      let q = answered_refused (measured_by L s k) (fold_said (Err e)) reads (numbered e.reason) in
      (rw q, rw q)

  module _ (small : Bytes s) (m : FoldCounts) (reads : fold_said (Ok m) ≡ as_fold_reading (measured_by L s k)) where
    pub fold_measured : Measured L s k m.length
    fold_measured =
        let a = answered_accepted (measured_by L s k) (fold_said (Ok m)) reads (outcome_some L (limit_head k) no_costs s) refl in
        let r = outcome_read L (limit_head k) no_costs s a.tally a.text a.reading in
        record {
          tally = a.tally;
          text = a.text;
          reading = a.reading;
          tree = parses (fold_rules_in L (at_most k) free) s small a.tally a.text r;
          means = accepted_means L (at_most k) free s small a.tally a.text r;
          size = ap (λ (u : FoldReading). u.length) a.answer ∙ sym (accepted_length L (at_most k) free s small a.tally a.text r);
        }

    module _ (out : List ℕ) where
      pub too_short : length out < m.length → Promised out out (written_said (Err (record { reason = ShortOutput; place = 0 })))
      too_short e =
          let r = fold_measured in
          let f : length out < length r.text = omega (arith, r.size) in
          (rw (r.reading, lt-ltb _ _ f), rw (r.reading, lt-ltb _ _ f))

      module _ (enough : m.length ≤ length out) where
        pub whole_fold : SequenceFrom s (length out) top fold_measured.tree.tree
        whole_fold =
            let a = fold_measured.tree in
            record {
              stands = record {
                rest = [];
                stands = whole_form (at_most k) a.shape.sound a.form;
                ends = tt;
              };
              fits = omega (arith, fold_measured.size, ap length a.text);
            }

        pub run_written : (after : List ℕ) (q : Place) → PassedOver out after top fold_measured.tree.tree q
            → Promised out after (written_said (Ok m.length)) × MeansIn L (at_most k) s (take m.length after)
        run_written after q y =
            let r = fold_measured in
            let x = r.text in
            let f : length x ≤ length out = omega (arith, r.size) in
            let g : after ≡ x ++ drop (length x) out = y.output ∙ rw r.tree.text (sets-eq x out 0 (omega arith) ∙ rw zero-add) in
            let means : (n : ℕ) → n ≡ length x → MeansIn L (at_most k) s (take n after) =
            λ n e. rw (e, g, take_at x (drop (length x) out) (length x) refl) r.means in
            ((simp (r.reading, le-ltb _ _ f, r.size) refl, g ∙ rw (r.reading, le-ltb _ _ f)), means m.length r.size)
