-- From the walk over the top sequence to the reading of the whole input.
use mathlib.Core.Path.{◌≡◌, refl, ◌∙◌}
use mathlib.Core.Bool.{true, false}
use mathlib.Core.List.{List, []}
use mathlib.Core.Logic.{◌≢◌}
use Prim.Native.Nat.{ℕ, ◌+◌, ◌<◌}
use native.Mathlib.Omega.{arith}
use lib.Dec.{eqb}
use lib.ListN.{length, get_or, drop}
use Rattle.format.specs.Machine.{none, read, refusal}
use Rattle.format.proofs.Machine.{refusal_group_end, refusal_repeat_end}
use Rattle.walk.specs.Walk.{Walk, from, rules_of, SequenceRead, OpenAt, Whole}
use Rattle.walk.specs.declared.command.Terms.{Terms}
use Rattle.walk.specs.declared.command.Depth.{Depth}
use Rattle.walk.proofs.Walking.{at, stop, pass_end}

abbrev pub top : Depth
top = record { groups = 0; repeats = 0 }

module _ (a : Terms) (s : List ℕ) (w : Walk) (walked : SequenceRead (rules_of a) s top 0 none w) where
  nothing_open : OpenAt top []
  nothing_open = record { groups = refl; repeats = refl }

  pub whole_refused : (w.refusal ≡ 0 → ⊥) → Whole (rules_of a) s w
  unfolding read
  whole_refused e =
      record { reads = λ z. absurd (e z); refuses = λ z. walked.moves.stops e [] nothing_open [] }

  module _ (all : w.refusal ≡ 0) where
    on : (x : List ℕ) × (read (rules_of a) s ≡ from (rules_of a) s w.at [] w.tally x)
    unfolding read
    on = walked.moves.goes all [] nothing_open []

    pub whole_read : w.at ≡ length s → Whole (rules_of a) s (record { refusal = 0; at = 0; tally = w.tally })
    whole_read e =
        record {
          reads = λ z. (on.0, on.1 ∙ pass_end (rules_of a) s w.at w.tally on.0 e);
          refuses = λ z. absurd (z refl);
        }

    stopped : (n : ℕ) → n ≢ 0 → eqb n 3 ≡ false → w.at < length s → ((x : List ℕ) → refusal (rules_of a) (at [] w.tally x) (get_or s w.at 0) (drop (w.at + 1) s) ≡ n) → Whole (rules_of a) s (record { refusal = n; at = w.at; tally = none })
    stopped n z k h e =
        record {
          reads = λ y. absurd (z y);
          refuses = λ y. on.1 ∙ (stop (rules_of a) s w.at [] w.tally on.0 n h z (e on.0) ∙ rw k);
        }

    module _ (more : w.at ≡ length s → ⊥) where
      below : w.at < length s
      below = omega (arith, (walked.halted all).within)

      pub stray_group_end : get_or s w.at 0 ≡ 0x12 → Whole (rules_of a) s (record { refusal = 4; at = w.at; tally = none })
      stray_group_end b =
          stopped 4 (omega arith) refl below
          (λ x. rw (b, refusal_group_end (rules_of a) (at [] w.tally x) (drop (w.at + 1) s) (walked.grown all).total))

      module _ (b : get_or s w.at 0 ≡ 0x12 → ⊥) where
        pub stray_repeat_end : a.folds ≡ true → Whole (rules_of a) s (record { refusal = 4; at = w.at; tally = none })
        stray_repeat_end f =
            stopped 4 (omega arith) refl below
            (λ x. rw ((walked.halted all).close more b, refusal_repeat_end (rules_of a) (at [] w.tally x) (drop (w.at + 1) s), f))

        pub repeat_end_in_run : a.folds ≡ false → Whole (rules_of a) s (record { refusal = 2; at = w.at; tally = none })
        repeat_end_in_run f =
            stopped 2 (omega arith) refl below
            (λ x. rw ((walked.halted all).close more b, refusal_repeat_end (rules_of a) (at [] w.tally x) (drop (w.at + 1) s), f))
