-- From a fold reader's answer back to what the fold reads as.
use mathlib.Core.Path.{◌≡◌, refl}
use mathlib.Core.List.{List}
use mathlib.Core.Logic.{◌≢◌}
use Prim.Native.Nat.{ℕ}
use Rattle.format.specs.Machine.{Outcome, refused, accepted}
use Rattle.format.specs.Readings.{as_fold_reading}
use Rattle.format.specs.Numbers.{FoldReading}
use Rattle.format.specs.declared.tally.Tally.{Tally}

-- A number says that it is refused, with that number at that place.
pub answered_refused : (o : Outcome) (m : FoldReading) → m ≡ as_fold_reading o → m.refusal ≢ 0 → o ≡ refused m.refusal m.place
answered_refused (refused n p) m e some = rw e
answered_refused (accepted t x) m e some = absurd (some (rw e))

-- 0 says that it is accepted, where what is refused has a number.
pub record AnsweredAccepted (o : Outcome) (m : FoldReading) : Type 0 where
  pub tally : Tally
  pub text : List ℕ
  pub reading : o ≡ accepted tally text
  pub answer : m ≡ as_fold_reading (accepted tally text)

pub answered_accepted : (o : Outcome) (m : FoldReading) → m ≡ as_fold_reading o → ((n p : ℕ) → o ≡ refused n p → n ≢ 0) → m.refusal ≡ 0
    → AnsweredAccepted o m
answered_accepted (refused n p) m e some none = absurd (some n p refl (rw e at none))
answered_accepted (accepted t x) m e some none = record { tally = t; text = x; reading = refl; answer = e }
