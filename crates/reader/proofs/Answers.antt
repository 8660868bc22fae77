-- From the walk over the whole input to the readers' answers.
use mathlib.Core.Path.{◌≡◌, refl, sym, subst, ◌∙◌}
use mathlib.Core.Bool.{Bool, true, false}
use mathlib.Core.List.{List}
use mathlib.Core.Logic.{◌≢◌}
use Prim.Native.Nat.{ℕ}
use Rattle.std.specs.Prelude.{Result, Ok, Err, IfOk}
use Rattle.format.specs.Limits.{Tariff, priced, allowed, at_most}
use Rattle.format.specs.Answers.{number, fold_said, tariff_of}
use Rattle.format.specs.Machine.{Rules, none, read, first_of}
use Rattle.format.specs.Head.{head_checks, full_head}
use Rattle.format.specs.Order.{Bytes}
use Rattle.format.specs.Meaning.{MeansAtCostIn, MeansAtCost}
use Rattle.format.specs.Family.{long_form}
use Rattle.format.specs.Readings.{no_costs, free, run_rules_in, run_numbers, fold_numbers, as_run_reading, run_outcome_in, run_reading_in, entry_rules, outcome_by, outcome_in, alone_rules, alone_in, reading_by, short_reading, as_fold_reading}
use Rattle.format.specs.Numbers.{FoldReading}
use Rattle.format.specs.declared.kind.Limits.{Limits}
use Rattle.format.specs.declared.head.Head.{Head}
use Rattle.format.specs.declared.costs.Costs.{Costs}
use Rattle.format.specs.declared.tally.Tally.{Tally}
use Rattle.format.specs.declared.answers.Refusal.{Refusal}
use Rattle.format.specs.declared.answers.FoldCounts.{FoldCounts}
use Rattle.format.proofs.Heads.{headed_refused, headed_passed}
use Rattle.format.proofs.Numbered.{numbered}
use Rattle.format.proofs.Report.{reading_means}
use Rattle.format.proofs.Family.{short_means}
use Rattle.walk.specs.Walk.{Walk, Whole, ended, rules_of}

-- Without costs a walk goes by the rules that have none.
pub whole_free : (c : Costs) → tariff_of c ≡ no_costs → (L : Limits) (folds short : Bool) (k : ℕ) (s : List ℕ) (w : Walk) → Whole (rules_of (record { limits = L; folds = folds; short = short; widest = k; costs = c })) s w → Whole (record { limits = L; folds = folds; short = short; allowed = at_most k; prices = free }) s w
whole_free c e L folds short k s w h =
    subst (λ (T : Tariff). Whole (record { limits = L; folds = folds; short = short; allowed = allowed k T.marks; prices = priced T }) s w) e h

-- The run reader's answer, by what the walk came to. A refusal of a walk by these limits and without costs is the reading.
pub run_refused : (L M : Limits) (s : List ℕ) (c : Costs) (e : Refusal)
    → Whole (rules_of (record { limits = M; folds = false; short = false; widest = 0; costs = c })) s (ended (Err e))
    → tariff_of c ≡ no_costs → M ≡ L → run_numbers (number e.reason) e.place none ≡ run_reading_in L s
unfolding run_reading_in
run_refused L M s c e walked unpriced same =
    let w = whole_free c unpriced L false false 0 s (ended (Err e)) (rw same at walked) in
    rw (w.refuses (numbered e.reason))

pub run_read : (L : Limits) (s : List ℕ) (t : Tally) → Whole (run_rules_in L) s (ended (Ok t)) → run_numbers 0 0 t ≡ run_reading_in L s
unfolding run_reading_in
run_read L s t walked = rw (walked.reads refl).1

-- What a walk says of a fold is what the reading says.
module _ (R : Rules) (s : List ℕ) where
  pub fold_refused : (e : Refusal) → Whole R s (ended (Err e)) → fold_numbers (number e.reason) e.place none ≡ as_fold_reading (read R s)
  fold_refused e walked = rw (walked.refuses (numbered e.reason))

  pub fold_read : (t : Tally) → Whole R s (ended (Ok t)) → fold_numbers 0 0 t ≡ as_fold_reading (read R s)
  fold_read t walked = rw (walked.reads refl).1

-- A fold by itself.
module _ (short : Bool) (s : List ℕ) where
  pub alone_refused : (e : Refusal) → Whole (alone_rules short) s (ended (Err e)) → fold_numbers (number e.reason) e.place none ≡ as_fold_reading (alone_in short s)
  unfolding alone_in
  alone_refused e walked = fold_refused (alone_rules short) s e walked

  pub alone_read : (t : Tally) → Whole (alone_rules short) s (ended (Ok t)) → fold_numbers 0 0 t ≡ as_fold_reading (alone_in short s)
  unfolding alone_in
  alone_read t walked = fold_read (alone_rules short) s t walked

-- The answers at an entry point: by the head's refusal, or by what follows.
module _ (L : Limits) (h : Head) (n : ℕ) (checked : n ≡ first_of (head_checks L h)) where
  pub admit_refused : (s : List ℕ) → n ≢ 0 → run_numbers n 0 none ≡ as_run_reading (run_outcome_in L h s)
  unfolding run_outcome_in
  admit_refused s some = rw (headed_refused L h (read (run_rules_in L) s) n checked some)

  pub admit_read : (s : List ℕ) → n ≡ 0 → run_reading_in L s ≡ as_run_reading (run_outcome_in L h s)
  unfolding run_reading_in run_outcome_in
  admit_read s none = rw (headed_passed L h (read (run_rules_in L) s) (sym none ∙ checked))

  module _ (short : Bool) (T : Tariff) (s : List ℕ) where
    abbrev R : Rules
    R = entry_rules L short h T

    pub entry_refused : n ≢ 0 → fold_numbers n 0 none ≡ as_fold_reading (outcome_by L short h T s)
    unfolding outcome_by
    entry_refused some = rw (headed_refused L h (read R s) n checked some)

    pub entry_read : n ≡ 0 → as_fold_reading (read R s) ≡ as_fold_reading (outcome_by L short h T s)
    unfolding outcome_by
    entry_read none = rw (headed_passed L h (read R s) (sym none ∙ checked))

module _ (s : List ℕ) (k : ℕ) (T : Tariff) (small : Bytes s) where
  -- The fold reader's answer, of any kind of runs, is the reading, and on success means what the report says: where the head and
  -- the prices that it was read by are those lent.
  pub with_meaning : (L : Limits) (r : Result FoldCounts Refusal) (h : Head) (U : Tariff) → fold_said r ≡ as_fold_reading (outcome_by L false h U s)
      → h ≡ full_head T k → U ≡ T → (fold_said r ≡ reading_by L false s k T) × IfOk r (λ f. MeansAtCostIn L k T s f.length f.cost)
  unfolding reading_by
  with_meaning L (Ok f) h U e headed priced =
      let said = rw (headed, priced) at e in
      (said, reading_means L s k T small (fold_said (Ok f)) said refl)
  with_meaning L (Err x) h U e headed priced = (rw (headed, priced) at e, tt)

  -- And the short reader's: its long form means that.
  long_meaning : (r : FoldReading) → r ≡ as_fold_reading (outcome_in true (full_head T k) T s) → r.refusal ≡ 0 → MeansAtCost k T (long_form s) r.length r.cost
  unfolding reading_by
  long_meaning r e z = rw e (short_means s small k T (rw e at z))

  pub with_long_meaning : (r : Result FoldCounts Refusal) → fold_said r ≡ as_fold_reading (outcome_in true (full_head T k) T s)
      → (fold_said r ≡ short_reading s k T) × IfOk r (λ f. MeansAtCost k T (long_form s) f.length f.cost)
  unfolding reading_by
  with_long_meaning (Ok f) e = (e, long_meaning (fold_said (Ok f)) e refl)
  with_long_meaning (Err x) e = (e, tt)
