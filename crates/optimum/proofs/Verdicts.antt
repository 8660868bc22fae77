-- What a folder within limits decides and what its answer says: the admission's refusal or the preferred fold, and demand 3 and the
-- report's problem of what is written.
use mathlib.Core.Path.{◌≡◌, refl, sym, ap, ◌∙◌}
use mathlib.Core.Bool.{Bool, true, false}
use mathlib.Core.List.{List, ◌++◌}
use Prim.Native.Nat.{ℕ, ◌<◌, ◌≤◌}
use native.Mathlib.Decide.{ℕ_discrete}
use native.Mathlib.Omega.{arith}
use lib.Dec.{ltb}
use lib.ListN.{length, take, drop}
use lib.Seq.{take_at}
use borrow.Author.Tests.{ltb-true}
use Rattle.format.specs.Limits.{Tariff, priced, allowed}
use Rattle.format.specs.Order.{Bytes}
use Rattle.format.specs.Forest.{Forest, nodes, cost, form_in, bytes}
use Rattle.format.specs.Machine.{Outcome, refused, accepted, read}
use Rattle.format.specs.Head.{head_checks, full_head}
use Rattle.format.specs.Readings.{run_rules_in, rules_by, as_run_reading, run_outcome_in}
use Rattle.format.specs.Tree.{tree_of}
use Rattle.format.specs.declared.kind.Limits.{Limits}
use Rattle.format.specs.declared.tally.Tally.{Tally}
use Rattle.format.specs.Numbers.{RunReading}
use Rattle.format.specs.Numbers.{Folded}
use Rattle.format.proofs.Heads.{headed_accepted, headed_narrow, headed_each}
use Rattle.format.proofs.Refusals.{refused_some, refused_numbered}
use Rattle.optimum.specs.Fewest.{preferred}
use Rattle.optimum.specs.Verdict.{refuses, folds, verdict_in, folding_by, answer_by, output_by}
use Rattle.optimum.specs.Demands.{CheapestWithin, MinimumTreeIn}
use Rattle.optimum.proofs.Demands.{BarsNone, run_nodes, run_few, cheapest_small, cheapest_bytes}
use Rattle.optimum.proofs.Minimum.{cheapest_minimum}

-- The verdict, as the admission decides it.
module _ (L : Limits) (s : List ℕ) (k : ℕ) (T : Tariff) (r : RunReading) (admitted : r ≡ as_run_reading (run_outcome_in L (full_head T k) s)) where
  verdict_at : (short : Bool) (o : Outcome) → run_outcome_in L (full_head T k) s ≡ o
      → folding_by L short s k T ≡ verdict_in short (allowed k T.marks) (priced T) s o
  unfolding folding_by
  verdict_at short o e = rw e

  answer_at : (o : Outcome) → run_outcome_in L (full_head T k) s ≡ o → r ≡ as_run_reading o
  answer_at o e = admitted ∙ ap as_run_reading e

  pub verdict_refused : (short : Bool) → (r.refusal ≡ 0 → ⊥) → folding_by L short s k T ≡ refuses r.refusal r.place
  verdict_refused short z = by_outcome (run_outcome_in L (full_head T k) s) refl
    where
      by_outcome : (o : Outcome) → run_outcome_in L (full_head T k) s ≡ o → folding_by L short s k T ≡ refuses r.refusal r.place
      by_outcome (refused n p) e = verdict_at short (refused n p) e ∙ rw (answer_at (refused n p) e)
      by_outcome (accepted t x) e = absurd (z (ap (λ (y : RunReading). y.refusal) (answer_at (accepted t x) e)))

  -- A number of the admission is none of the folder's own, and 0 only where the run is accepted.
  number_low : (n p : ℕ) → run_outcome_in L (full_head T k) s ≡ refused n p → (n ≡ 0 → ⊥) × (n ≡ 14 → ⊥)
  unfolding run_outcome_in head_checks
  number_low =
      headed_each L (full_head T k) (read (run_rules_in L) s) (λ n. (n ≡ 0 → ⊥) × (n ≡ 14 → ⊥))
      ((omega arith, omega arith), ((omega arith, omega arith), ((omega arith, omega arith), ((omega arith, omega arith), tt))))
      (λ n p e. (refused_some (run_rules_in L) s n p e, λ z. omega (arith, refused_numbered (run_rules_in L) s n p e (omega arith))))

  pub run_number : r.refusal ≡ 14 → ⊥
  run_number z = by_outcome (run_outcome_in L (full_head T k) s) refl
    where
      by_outcome : (o : Outcome) → run_outcome_in L (full_head T k) s ≡ o → ⊥
      by_outcome (refused n p) e = (number_low n p e).1 (sym (ap (λ (y : RunReading). y.refusal) (answer_at (refused n p) e)) ∙ z)
      by_outcome (accepted t x) e = omega (arith, ap (λ (y : RunReading). y.refusal) (answer_at (accepted t x) e))

  -- An accepted run: its reading, and the verdict.
  pub record Accepted : Type 0 where
    pub tally : Tally
    pub text : List ℕ
    pub admits : run_outcome_in L (full_head T k) s ≡ accepted tally text
    pub all : tally.nodes ≡ r.nodes

  pub accepted_run : r.refusal ≡ 0 → Accepted
  accepted_run z = by_outcome (run_outcome_in L (full_head T k) s) refl
    where
      by_outcome : (o : Outcome) → run_outcome_in L (full_head T k) s ≡ o → Accepted
      by_outcome (refused n p) e = absurd ((number_low n p e).0 (sym (ap (λ (y : RunReading). y.refusal) (answer_at (refused n p) e)) ∙ z))
      by_outcome (accepted t x) e = record { tally = t; text = x; admits = e; all = sym (ap (λ (y : RunReading). y.nodes) (answer_at (accepted t x) e)) }

  module _ (a : Accepted) where
    pub accepts : read (run_rules_in L) s ≡ accepted a.tally a.text
    unfolding run_outcome_in
    accepts = headed_accepted L (full_head T k) (read (run_rules_in L) s) a.tally a.text a.admits

    pub narrow : k ≤ L.width
    unfolding run_outcome_in
    narrow = headed_narrow L (full_head T k) (read (run_rules_in L) s) a.tally a.text a.admits

    pub verdict_folds : (short : Bool)
        → folding_by L short s k T ≡ folds r.nodes (form_in short (preferred (allowed k T.marks) (priced T) (tree_of s))) (cost (priced T) (preferred (allowed k T.marks) (priced T) (tree_of s)))
    verdict_folds short = verdict_at short (accepted a.tally a.text) a.admits ∙ rw a.all

    module _ (small : Bytes s) where
      pub node_count_is : nodes (tree_of s) ≡ r.nodes
      node_count_is = sym (run_nodes L s small a.tally a.text accepts) ∙ a.all

      pub few : r.nodes ≤ L.nodes
      few = omega (arith, a.all, run_few L s small a.tally a.text accepts)

      -- Demand 3 and the report's problem, of the preferred fold.
      pub demands : BarsNone L → CheapestWithin s k (rules_by L T) (bytes (preferred (allowed k T.marks) (priced T) (tree_of s))) (cost (priced T) (preferred (allowed k T.marks) (priced T) (tree_of s)))
          × MinimumTreeIn L s k T (bytes (preferred (allowed k T.marks) (priced T) (tree_of s)))
      demands bars =
          let best = cheapest_bytes L s small a.tally a.text accepts bars k narrow T in
          let coded = cheapest_small L s small a.tally a.text accepts bars (allowed k T.marks) (priced T) in
          (best, cheapest_minimum L s small a.tally a.text accepts bars k narrow T _ _ coded best)

abbrev pub refused_as : (n p : ℕ) → Folded
refused_as n p = record { refusal = n; place = p; length = 0; cost = 0 }

-- What an answer and an output say of the fold, in either family: nothing by other numbers; on success it is in front; after 14 it
-- has no room.
module _ (L : Limits) (bars : BarsNone L) (too_short : ℕ → Bool) (short : Bool) (s : List ℕ) (small : Bytes s) (k : ℕ) (T : Tariff) (out out' : List ℕ) (r : Folded)
    (answered : r ≡ answer_by too_short (folding_by L short s k T) (length out))
    (written : out' ≡ output_by too_short (folding_by L short s k T) out) where
  abbrev best : Forest
  best = preferred (allowed k T.marks) (priced T) (tree_of s)

  abbrev Demanded : ℕ → Type 0
  Demanded c = CheapestWithin s k (rules_by L T) (bytes best) c × MinimumTreeIn L s k T (bytes best)

  pub data Told : Type 0 where
    other : (r.refusal ≡ 0 → ⊥) → (r.refusal ≡ 14 → ⊥) → Told
    wrote : r.refusal ≡ 0 → Demanded r.cost → take r.length out' ≡ form_in short best → Told
    over : r.refusal ≡ 14 → (c : ℕ) → Demanded c → length out < length (form_in short best) → Told

  abbrev admitted : RunReading
  admitted = as_run_reading (run_outcome_in L (full_head T k) s)

  number : {u : Folded} → r ≡ u → r.refusal ≡ u.refusal
  number e = ap (λ (x : Folded). x.refusal) e

  pub told : Told
  told = by_number (ℕ_discrete admitted.refusal 0)
    where
      folded : (a : Accepted L s k T admitted refl) → (x y : Bool) → too_short admitted.nodes ≡ x
          → ltb (length out) (length (form_in short best)) ≡ y → Told
      folded a true y e f =
          let q : r ≡ refused_as 13 0 = answered ∙ rw (verdict_folds L s k T admitted refl a short, e) in
          other (λ z. omega (arith, number q)) (λ z. omega (arith, number q))
      folded a false true e f =
          let q : r ≡ refused_as 14 0 = answered ∙ rw (verdict_folds L s k T admitted refl a short, e, f) in
          over (number q) _ (demands L s k T admitted refl a small bars) (ltb-true _ _ f)
      folded a false false e f =
          let g = form_in short best in
          let q : r ≡ record { refusal = 0; place = 0; length = length g; cost = cost (priced T) best } =
          answered ∙ rw (verdict_folds L s k T admitted refl a short, e, f) in
          let w : out' ≡ g ++ drop (length g) out = written ∙ rw (verdict_folds L s k T admitted refl a short, e, f) in
          wrote (number q) (rw q (demands L s k T admitted refl a small bars)) (rw (q, w) (take_at g (drop (length g) out) (length g) refl))

      by_number : Dec (admitted.refusal ≡ 0) → Told
      by_number (yes z) = folded (accepted_run L s k T admitted refl z) _ _ refl refl
      by_number (no z) =
          let q : r ≡ refused_as admitted.refusal admitted.place = answered ∙ rw (verdict_refused L s k T admitted refl short z) in
          other (λ y. z (sym (number q) ∙ y)) (λ y. run_number L s k T admitted refl (sym (number q) ∙ y))
