-- Our folds are the report's trees: unrolling is its expansion, a width operand its width, the cost its size, and so it is
-- for the bytes that the fold reader accepts. The report's definitions decide: its index i − (j − 1)h near Proposition 4,
-- where i − j(h − 1) is meant, plays no part.
use mathlib.Core.Path.{◌≡◌, refl, sym, ap, ap₂, ◌∙◌}
use mathlib.Core.Bool.{Bool, false}
use mathlib.Core.Logic.{◌↔◌, ◌≢◌}
use mathlib.Core.List.{List}
use Prim.Native.Nat.{ℕ, zero, suc, ◌<◌}
use native.Mathlib.Nat.{mul-le-mul_right}
use native.Mathlib.Omega.{arith}
use lib.ListN.{length}
use Rattle.format.specs.Limits.{Limits, Prices, Tariff, priced, allowed}
use Rattle.format.specs.Forest.{Forest, end, step, group, repeat, join, copies, unroll, siblings, cost, bytes, holds, Plain, Allowed, at_most, Sound}
use Rattle.format.specs.Machine.{Rules, Outcome, refused, accepted, read}
use Rattle.format.specs.Order.{Bytes}
use Rattle.format.specs.Tree.{tree_of}
use Rattle.format.specs.Readings.{fold_rules_in, as_fold_reading, entry_rules, outcome_by, reading_by}
use Rattle.format.specs.Head.{Head, head_checks, full_head}
use Rattle.format.specs.Shape.{Reads, tally_of}
use Rattle.format.specs.Report.{RRT, empty, letter, repetition, count, Valid, append, series, Represents, Width, WidthAtMost, size}
use Rattle.format.specs.Meaning.{Letter, step_of, group_of, report, report_of, TrueWidths, NoneMarked, NoneRepeated, MeansIn, report_size, MeansAtCostIn}
use Rattle.format.specs.declared.tally.Tally.{Tally}
use Rattle.format.specs.Numbers.{FoldReading}
use Rattle.format.proofs.Forests.{siblings_unroll, plain_unroll, sound_unroll}
use Rattle.format.proofs.Marks.{neither, unmarked_step, unmarked_group, unmarked_repeat}
use Rattle.format.proofs.Bridge.{parses}
use Rattle.format.proofs.Refusals.{refused_some}
use Rattle.format.proofs.Heads.{headed_accepted, headed_each}
use Rattle.format.proofs.Tree.{tree_of_bytes}
use Rattle.format.proofs.Runs.{unrolled_run, run_tree}
use Rattle.format.proofs.Expansion.{expand, represents, width}
use Rattle.format.proofs.Letters.{fold_of, Lettered, report_fold_of, lettered_expand}

report_join : (f g : Forest) → report (join f g) ≡ append (report f) (report g)
unfolding report join append
report_join end g = refl
report_join (step l f) g = rw (report_join f g)
report_join (group l b f) g = rw (report_join f g)
report_join (repeat h w b f) g = rw (report_join f g)

report_copies : (h : ℕ) (f : Forest) → report (copies h f) ≡ series h (report f)
unfolding report copies series
report_copies zero f = refl
report_copies (suc h) f = rw (report_join, report_copies h f)

-- Unrolling is expansion.
pub expand_report : (f : Forest) → expand (report f) ≡ report (unroll f)
unfolding report unroll expand
expand_report end = refl
expand_report (step l f) = rw (expand_report f)
expand_report (group l b f) = rw (expand_report b, expand_report f)
expand_report (repeat h w b f) = rw (expand_report b, expand_report f, report_join, report_copies)

pub represents_unroll : (f : Forest) → Represents (report f) (report (unroll f))
represents_unroll f = (represents (report f) (report (unroll f))).1 (sym (expand_report f))

-- The siblings of a body are the report's width of its repetition.
count_plain : (f : Forest) → Plain f → count (report f) ≡ siblings f
unfolding report count siblings
count_plain end p = refl
count_plain (step l f) p = rw (count_plain f p)
count_plain (group l b f) p = rw (count_plain f p.1)
count_plain (repeat h w b f) p = absurd p

count_expand : (b : Forest) → count (expand (report b)) ≡ siblings b
count_expand b = rw (expand_report b) (count_plain (unroll b) (plain_unroll b) ∙ siblings_unroll b)

pub width_siblings : (b : Forest) → Width (report b) (siblings b)
width_siblings b = (width (report b) (siblings b)).1 (count_expand b)

-- The cost is the size, the prices of steps and of groups as weights of the letters and the repeat prices as weights of the
-- numbers.
pub cost_report : (P : Prices) (f : Forest) → cost P f ≡ report_size P (report f)
unfolding report cost report_size size
cost_report P end = refl
cost_report P (step l f) = omega (arith, cost_report P f)
cost_report P (group l b f) = omega (arith, cost_report P b, cost_report P f)
cost_report P (repeat h w b f) = omega (arith, cost_report P b, cost_report P f)

-- What has siblings has nodes.
some_children : (b : Forest) → 0 < siblings b → 0 < count (report b)
unfolding report count siblings
some_children end p = p
some_children (step l f) p = omega arith
some_children (group l b f) p = omega arith
some_children (repeat h w b f) p = omega arith

module _ (A : Allowed) where
  -- A sound fold is one of the report's trees, with its width operands true and within the limit.
  pub true_widths : (f : Forest) → Sound A f → TrueWidths f
  true_widths end s = tt
  true_widths (step l f) s = true_widths f s
  true_widths (group l b f) s = (true_widths b s.1, true_widths f s.2)
  true_widths (repeat h w b f) s = (rw s.0.true_width at (width_siblings b), true_widths b s.1, true_widths f s.2)

  pub valid_report : (f : Forest) → Sound A f → Valid (report f)
  unfolding report
  valid_report end s = tt
  valid_report (step l f) s = (tt, valid_report f s)
  valid_report (group l b f) s = (valid_report b s.1, valid_report f s.2)
  valid_report (repeat h w b f) s = (s.0.twice, some_children b s.0.some, valid_report b s.1, valid_report f s.2)

  pub within_report : (f : Forest) → Sound A f → WidthAtMost A.widest (report f)
  unfolding report
  within_report end s = tt
  within_report (step l f) s = (tt, within_report f s)
  within_report (group l b f) s = (within_report b s.1, within_report f s.2)
  within_report (repeat h w b f) s =
      (λ v p. omega (arith, (width (report b) v).0 p, count_expand b), within_report b s.1, within_report f s.2)

  -- No marked label of it is repeated.
  none_marked : (f : Forest) → holds A.marked f ≡ false → NoneMarked A.marked (report f)
  unfolding report
  none_marked end e = tt
  none_marked (step l f) e = let z = unmarked_step A.marked l f e in (z.0, tt, none_marked f z.1)
  none_marked (group l b f) e = let z = unmarked_group A.marked l b f e in (z.0, none_marked b z.1, none_marked f z.2)
  none_marked (repeat h w b f) e = let z = unmarked_repeat A.marked h w b f e in (none_marked b z.0, none_marked f z.1)

  pub none_repeated : (f : Forest) → Sound A f → NoneRepeated A.marked (report f)
  unfolding report
  none_repeated end s = tt
  none_repeated (step l f) s = (tt, none_repeated f s)
  none_repeated (group l b f) s = (none_repeated b s.1, none_repeated f s.2)
  none_repeated (repeat h w b f) s = (none_marked b s.0.unmarked, none_repeated f s.2)

  pub none_held : (r : RRT Letter) → NoneMarked A.marked r → holds A.marked (fold_of r) ≡ false
  unfolding fold_of holds
  none_held empty z = refl
  none_held (letter (step_of l) c r) z = neither _ _ z.0 (none_held r z.2)
  none_held (letter (group_of l) c r) z = neither _ _ z.0 (neither _ _ (none_held c z.1) (none_held r z.2))
  none_held (repetition h c r) z = neither _ _ (none_held c z.0) (none_held r z.1)

  pub none_within : (r : RRT Letter) → NoneMarked A.marked r → NoneRepeated A.marked r
  none_within empty z = tt
  none_within (letter a c r) z = (none_within c z.1, none_within r z.2)
  none_within (repetition h c r) z = (z.0, none_within r z.1)

  -- Steps are leaves in it, and groups are not.
  lettered_report : (f : Forest) → Sound A f → Lettered (report f)
  unfolding report
  lettered_report end s = tt
  lettered_report (step l f) s = (refl, lettered_report f s)
  lettered_report (group l b f) s = (some_children b s.0, lettered_report b s.1, lettered_report f s.2)
  lettered_report (repeat h w b f) s = (lettered_report b s.1, lettered_report f s.2)

  -- Each of the report's trees within the limit whose steps are leaves and whose groups are not is the tree of one sound fold,
  -- and of one only.
  pub fold_of_report : (f : Forest) → Sound A f → fold_of (report f) ≡ f
  unfolding report fold_of
  fold_of_report end s = refl
  fold_of_report (step l f) s = ap (step l) (fold_of_report f s)
  fold_of_report (group l b f) s = ap₂ (group l) (fold_of_report b s.1) (fold_of_report f s.2)
  fold_of_report (repeat h w b f) s = rw (fold_of_report b s.1, fold_of_report f s.2, s.0.true_width)

  pub report_injective : (f g : Forest) → Sound A f → Sound A g → report f ≡ report g → f ≡ g
  report_injective f g p q e = cc (fold_of_report f p, fold_of_report g q)

  some_siblings : (r : RRT Letter) → Sound A (fold_of r) → 0 < count r → 0 < siblings (fold_of r)
  unfolding fold_of count siblings
  some_siblings empty s p = p
  some_siblings (letter (step_of l) c r) s p = omega arith
  some_siblings (letter (group_of l) c r) s p = omega arith
  some_siblings (repetition h c r) s p = omega (arith, mul-le-mul_right (siblings (fold_of c)) s.0.twice)

  pub sound_fold_of : (r : RRT Letter) → Lettered r → Valid r → WidthAtMost A.widest r → NoneRepeated A.marked r → Sound A (fold_of r)
  unfolding fold_of
  sound_fold_of empty z v k m = tt
  sound_fold_of (letter (step_of l) c r) z v k m = sound_fold_of r z.1 v.1 k.1 m.1
  sound_fold_of (letter (group_of l) c r) z v k m =
      let s = sound_fold_of c z.1 v.0 k.0 m.0 in
      (some_siblings c s z.0, s, sound_fold_of r z.2 v.1 k.1 m.1)
  sound_fold_of (repetition h c r) z v k m =
      let s = sound_fold_of c z.0 v.2 k.1 (none_within c m.0) in
      let w = siblings (fold_of c) in
      let wide : Width c w = rw (report_fold_of c z.0) at (width_siblings (fold_of c)) in (
        record { twice = v.0; true_width = refl; within = k.0 w wide; some = some_siblings c s v.1; unmarked = none_held c m.0 },
        s,
        sound_fold_of r z.1 v.3 k.2 m.1,
      )

  -- In each of the report's trees that represents the tree of a run, steps are leaves and groups are not.
  pub represents_lettered : (r : RRT Letter) (t : Forest) → Valid r → Sound A t → Represents r (report t) → Lettered r
  represents_lettered r t v s p = lettered_expand r v (rw ((represents r (report t)).0 p) at (lettered_report t s))

  -- The tree of a fold represents the tree of a run exactly when the fold unrolls to the run.
  pub represents_run : (f t : Forest) → Sound A f → Sound A t → Represents (report f) (report t) ↔ unroll f ≡ t
  represents_run f t p q = (
    λ r. report_injective (unroll f) t (sound_unroll A f p) q (sym ((represents (report f) (report t)).0 r ∙ expand_report f)),
    λ e. rw (← e) (represents_unroll f),
  )

-- Bytes that are the byte form of a tree of the right shape mean the run that it unrolls to.
pub reads_mean : {L : Limits} (A : Allowed) (P : Prices) (s : List ℕ) (t : Tally) (x : List ℕ) → Reads (fold_rules_in L A P) s t x
    → MeansIn L A s x
reads_mean A P s t x r =
    let f = r.tree in
    let z = r.shape in
    let same : f ≡ tree_of s = sym (tree_of_bytes f) ∙ ap tree_of r.form in
    let y : tree_of x ≡ unroll f = ap tree_of (sym r.text) ∙ tree_of_bytes (unroll f) in
    record {
      form = rw (← same) r.form;
      valid = rw (← same) (valid_report A f z.sound);
      within = rw (← same) (within_report A f z.sound);
      widths = rw (← same) (true_widths A f z.sound);
      marks = rw (← same) (none_repeated A f z.sound);
      run = rw (← r.text) (unrolled_run A P f z);
      represented = rw (← same, y) (represents_unroll f);
    }

-- What a fold means is one run.
pub means_one : {L : Limits} (A : Allowed) (s x y : List ℕ) → Bytes x → Bytes y → MeansIn L A s x → MeansIn L A s y → x ≡ y
means_one {L} A s x y small small' a b =
    let p = run_tree L x small a.run in
    let q = run_tree L y small' b.run in
    let e : report_of x ≡ report_of y =
    (represents (report_of s) (report_of x)).0 a.represented ∙ sym ((represents (report_of s) (report_of y)).0 b.represented) in
    sym p.0 ∙ ap bytes (report_injective (at_most 0) (tree_of x) (tree_of y) p.1 q.1 e) ∙ q.0

-- DEMAND 2, first sentence: bytes that the fold reader accepts mean what the report says.
module _ (L : Limits) (A : Allowed) (P : Prices) (s : List ℕ) (small : Bytes s) (t : Tally) (x : List ℕ)
    (e : read (fold_rules_in L A P) s ≡ accepted t x) where
  spelled : Reads (fold_rules_in L A P) s t x
  spelled = parses (fold_rules_in L A P) s small t x e

  pub accepted_means : MeansIn L A s x
  accepted_means = reads_mean A P s t x spelled

  pub accepted_cost : t.cost ≡ cost P (tree_of s)
  unfolding tally_of
  accepted_cost = sym (ap (λ (u : Tally). u.cost) spelled.counts) ∙ ap (cost P) (sym (tree_of_bytes spelled.tree) ∙ ap tree_of spelled.form)

  pub accepted_length : length x ≡ t.size
  unfolding tally_of
  accepted_length = rw (← spelled.text) (ap (λ (u : Tally). u.size) spelled.counts)

-- A fold of a family at an entry point: what is accepted is read, and what is refused has a number.
module _ (L : Limits) (short : Bool) (h : Head) (T : Tariff) (s : List ℕ) where
  abbrev R : Rules
  R = entry_rules L short h T

  pub in_read : (t : Tally) (x : List ℕ) → outcome_by L short h T s ≡ accepted t x → read R s ≡ accepted t x
  unfolding outcome_by
  in_read t x e = headed_accepted L h (read R s) t x e

  pub in_some : (n p : ℕ) → outcome_by L short h T s ≡ refused n p → n ≢ 0
  unfolding outcome_by head_checks
  in_some n p e = headed_each L h (read R s) (λ m. m ≢ 0) (omega arith) (refused_some R s) n p e

module _ (L : Limits) (h : Head) (T : Tariff) (s : List ℕ) where
  pub outcome_read : (t : Tally) (x : List ℕ) → outcome_by L false h T s ≡ accepted t x
      → read (fold_rules_in L (allowed h.limit T.marks) (priced T)) s ≡ accepted t x
  outcome_read = in_read L false h T s

  pub outcome_some : (n p : ℕ) → outcome_by L false h T s ≡ refused n p → n ≢ 0
  outcome_some = in_some L false h T s

-- What the fold reader's success says.
module _ (L : Limits) (s : List ℕ) (k : ℕ) (T : Tariff) (small : Bytes s) (r : FoldReading) (answered : r ≡ reading_by L false s k T)
    (success : r.refusal ≡ 0) where
  abbrev A : Allowed
  A = allowed k T.marks

  pub reading_means : MeansAtCostIn L k T s r.length r.cost
  unfolding reading_by
  reading_means = by_outcome (outcome_by L false (full_head T k) T s) refl
    where
      by_outcome : (o : Outcome) → outcome_by L false (full_head T k) T s ≡ o → MeansAtCostIn L k T s r.length r.cost
      by_outcome (refused n p) e =
          let q = answered ∙ ap as_fold_reading e in
          absurd (outcome_some L (full_head T k) T s n p e (sym (ap (λ (y : FoldReading). y.refusal) q) ∙ success))
      by_outcome (accepted t x) e =
          let q = answered ∙ ap as_fold_reading e in
          let a = outcome_read L (full_head T k) T s t x e in
          record {
            text = x;
            means = accepted_means L A (priced T) s small t x a;
            long = accepted_length L A (priced T) s small t x a ∙ sym (ap (λ (y : FoldReading). y.length) q);
            weighed = ap (λ (y : FoldReading). y.cost) q ∙ accepted_cost L A (priced T) s small t x a ∙ cost_report (priced T) (tree_of s);
          }
