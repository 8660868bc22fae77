-- WHAT MARKS DECIDE. Bytes are accepted under marks exactly where they are accepted without and no marked label of theirs lies in a
-- repeat. WITH ALL MARKS 0 EVERYTHING IS AS WHERE NO LABEL CAN BE MARKED: every check at a command, and what the fold reader
-- answers.
use mathlib.Core.Path.{◌≡◌, refl, sym, ap, ◌∙◌}
use mathlib.Core.Bool.{and-false}
use mathlib.Core.List.{List}
use mathlib.Core.Logic.{◌↔◌}
use Prim.Native.Nat.{ℕ}
use lib.Dec.{eqb}
use Rattle.format.specs.Limits.{limits, Tariff, tariff, Prices, priced, Allowed, at_most, allowed}
use Rattle.format.specs.Order.{Bytes}
use Rattle.format.specs.Forest.{Forest, end, step, group, repeat, holds, Sound}
use Rattle.format.specs.Machine.{Rules, State, is_node, checks, first_of, refusal, Outcome, accepted, read}
use Rattle.format.specs.Head.{head_checks, headed, marks_in_order, full_head}
use Rattle.format.specs.Readings.{fold_rules, as_fold_reading, outcome_by, reading_by, fold_reading}
use Rattle.format.specs.Meaning.{NoneRepeated, report, report_of}
use Rattle.format.specs.Shape.{Reads}
use Rattle.format.specs.Tree.{tree_of}
use Rattle.format.specs.Marks.{free_marks}
use Rattle.format.specs.FreeMarks.{without, unmarked_headed, unmarked_reading}
use Rattle.format.specs.declared.tally.Tally.{Tally}
use Rattle.format.proofs.Lists.{zeros}
use Rattle.format.proofs.Marks.{holds_none}
use Rattle.format.proofs.Bridge.{parses, reads_accepted, sound_widest, sound_within, reads_allowing}
use Rattle.format.proofs.Report.{fold_of_report, none_repeated, none_held, none_within}
use Rattle.format.proofs.Tree.{tree_of_form}

-- A fold whose report's tree repeats no marked letter is sound under the marks.
module _ (A : Allowed) where
  sound_marked : (f : Forest) → Sound (at_most A.widest) f → NoneRepeated A.marked (report f) → Sound A f
  unfolding report
  sound_marked end s z = tt
  sound_marked (step l f) s z = sound_marked f s z.1
  sound_marked (group l b f) s z = (s.0, sound_marked b s.1 z.0, sound_marked f s.2 z.1)
  sound_marked (repeat h w b f) s z =
      let r = s.0 in (
        record {
          twice = r.twice;
          true_width = r.true_width;
          within = r.within;
          some = r.some;
          unmarked = ap (holds A.marked) (sym (fold_of_report (at_most A.widest) b s.1)) ∙ none_held A (report b) z.0;
        },
        sound_marked b s.1 (none_within A (report b) z.0),
        sound_marked f s.2 z.1,
      )

-- MARKS FORBID REPEATING AND NOTHING ELSE.
module _ (A : Allowed) (P : Prices) (s : List ℕ) (small : Bytes s) (t : Tally) (x : List ℕ) where
  abbrev marked : Rules
  marked = fold_rules A P

  abbrev unmarked : Rules
  unmarked = fold_rules (at_most A.widest) P

  abbrev same : {R : Rules} (a : Reads R s t x) → a.tree ≡ tree_of s
  same {R} a = sym (tree_of_form R.short a.tree) ∙ ap tree_of a.form

  freed : Reads marked s t x → (read unmarked s ≡ accepted t x) × NoneRepeated A.marked (report_of s)
  freed a =
      let f = a.tree in
      let z = a.shape.sound in
      let free : Sound (at_most A.widest) f = sound_within A (at_most A.widest) (λ b e. holds_none b) f (sound_widest A f z) z in
      (reads_accepted (reads_allowing (at_most A.widest) a free), rw (← same a) (none_repeated A f z))

  bound : Reads unmarked s t x → NoneRepeated A.marked (report_of s) → read marked s ≡ accepted t x
  bound a n = reads_accepted (reads_allowing A a (sound_marked A a.tree a.shape.sound (rw (same a) n)))

  pub marks_exactly : (read marked s ≡ accepted t x) ↔ ((read unmarked s ≡ accepted t x) × NoneRepeated A.marked (report_of s))
  marks_exactly = (λ e. freed (parses marked s small t x e), λ e. bound (parses unmarked s small t x e.0) e.1)

-- Where no label is marked, 19 is never said: a command is refused by the others.
pub unmarked_refusal : (k : ℕ) (P : Prices) (st : State) (c : ℕ) (rest : List ℕ)
    → refusal (fold_rules (at_most k) P) st c rest ≡ first_of (without 19 (checks (fold_rules (at_most k) P) st c rest))
unfolding refusal checks without
unmarked_refusal k P st c rest = rw (and-false (is_node c))

-- Marks of zeros mark no label.
pub free_allowed : (k : ℕ) → allowed k free_marks ≡ at_most k
free_allowed k = λ i. record { widest = k; marked = λ l. eqb (zeros 256 l i) 1 }

module _ (steps groups : List ℕ) (first each : ℕ) where
  abbrev T : Tariff
  T = tariff steps groups free_marks first each

  -- They are in order, so 18 is never said.
  pub free_headed : (k : ℕ) (o : Outcome) → headed limits (full_head T k) o ≡ unmarked_headed steps groups k o
  unfolding headed head_checks marks_in_order unmarked_headed
  free_headed k o = refl

  -- The fold reader's whole answer is the one without marks.
  pub free_reading : (s : List ℕ) (k : ℕ) → fold_reading s k T ≡ unmarked_reading s k steps groups first each
  unfolding reading_by outcome_by unmarked_reading
  free_reading s k = ap as_fold_reading (free_headed k _ ∙ ap (λ (A : Allowed). unmarked_headed steps groups k (read (fold_rules A (priced T)) s)) (free_allowed k))
