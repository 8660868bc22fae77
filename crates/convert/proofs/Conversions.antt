-- The answers of the conversions, as their contracts have them: a refusal by the first check that applies, or the form written.
use mathlib.Core.Path.{◌≡◌, refl, ◌∙◌}
use mathlib.Core.Bool.{Bool}
use mathlib.Core.List.{List}
use Prim.Native.Nat.{ℕ, ◌≤◌, ◌<◌}
use native.Mathlib.Nat.{zero-add}
use native.Mathlib.Omega.{arith}
use lib.ListN.{length}
use lib.Seq.{sets, sets-eq}
use borrow.Author.Tests.{lt-ltb, le-ltb}
use Rattle.format.specs.Order.{Bytes}
use Rattle.format.specs.Readings.{alone_rules, alone_in, as_fold_reading}
use Rattle.format.specs.Family.{converted, conversion}
use Rattle.format.specs.Output.{written_answer, written_output}
use Rattle.format.specs.Numbers.{Written}
use Rattle.format.specs.Answers.{fold_said, written_said}
use Rattle.format.specs.declared.answers.FoldCounts.{FoldCounts}
use Rattle.format.specs.declared.answers.Reason.TheVariants.{ShortOutput}
use Rattle.format.specs.declared.answers.Refusal.{Refusal}
use Rattle.format.proofs.Numbered.{numbered}
use Rattle.std.specs.Prelude.{Ok, Err}
use Rattle.format.proofs.Alone.{alone_some}
use Rattle.format.proofs.Answered.{AnsweredAccepted, answered_refused, answered_accepted}
use Rattle.format.proofs.Family.{converted_fits}
use Rattle.put.specs.Bounds.{most_bytes}

module _ (from short : Bool) (s : List ℕ) where
  abbrev Promised : List ℕ → List ℕ → Written → Type 0
  Promised before after r =
      (r ≡ written_answer (conversion from short s) (length before)) × (after ≡ written_output (conversion from short s) before)

  pub input_refused : (e : Refusal) → fold_said (Err e) ≡ as_fold_reading (alone_in from s) → (out : List ℕ) → Promised out out (written_said (Err e))
  input_refused e reads out = let q = answered_refused (alone_in from s) (fold_said (Err e)) reads (numbered e.reason) in (rw q, rw q)

  module _ (small : Bytes s) (m : FoldCounts) (reads : fold_said (Ok m) ≡ as_fold_reading (alone_in from s)) where
    read_as : AnsweredAccepted (alone_in from s) (fold_said (Ok m))
    read_as = answered_accepted (alone_in from s) (fold_said (Ok m)) reads (alone_some from s) refl

    pub form_fits : length (converted short s) ≤ most_bytes
    unfolding alone_in
    form_fits = omega (arith, converted_fits (alone_rules from) s small read_as.tally read_as.text read_as.reading short)

    module _ (out : List ℕ) (n : ℕ) (is_length : n ≡ length (converted short s)) where
      pub too_short : length out < n → Promised out out (written_said (Err (record { reason = ShortOutput; place = 0 })))
      too_short l =
          let e = lt-ltb (length out) (length (converted short s)) (omega arith) in
          (rw (read_as.reading, e), rw (read_as.reading, e))

      pub form_written : n ≤ length out → (after : List ℕ) → after ≡ sets out 0 (converted short s) → Promised out after (written_said (Ok n))
      form_written l after w =
          let f = converted short s in
          let e = le-ltb (length out) (length f) (omega arith) in
          (rw (read_as.reading, e, is_length), w ∙ rw (read_as.reading, e) (sets-eq f out 0 (omega arith) ∙ rw zero-add))
