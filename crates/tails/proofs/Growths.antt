-- The matches of one step, by those of the next.
use mathlib.Core.Path.{◌≡◌, refl, sym, ap, ◌∙◌}
use mathlib.Core.Bool.{Bool, true, false, ◌||◌, false≢true}
use mathlib.Core.List.{List}
use Prim.Native.Nat.{ℕ, ◌+◌, ◌≤◌, ◌<◌}
use native.Mathlib.Decide.{dec_lt, ℕ_discrete}
use native.Mathlib.Omega.{arith}
use lib.ListN.{length, get_or, set}
use lib.Seq.{get_or-set_same, get_or-set_other}
use Rattle.format.specs.Limits.{marked_in, allowed}
use Rattle.format.specs.Forest.{Forest, end, step, group, repeat, holds, Allowed}
use Rattle.format.specs.Tree.{tree_of}
use Rattle.optimum.specs.Cheapest.{Run, back, node, FreeCopy}
use Rattle.optimum.specs.Matches.{Matched}
use Rattle.optimum.proofs.Cut.{siblings_back}
use Rattle.optimum.proofs.Matches.{matched_more, matched_none}
use Rattle.blocks.proofs.Flats.{flat_run, flat_node}
use Rattle.tails.specs.Solving.{FlatRun, label_at, MatchAt, ends, differs, is_marked, matches, Matching}

-- Two steps alone are the same where their labels are.
label_of : Forest → ℕ
label_of end = 0
label_of (step l f) = l
label_of (group l b f) = 0
label_of (repeat h w b f) = 0

module _ (run marks : List ℕ) (limit n : ℕ) (f : FlatRun run n) where
  abbrev A : Allowed
  A = allowed limit marks

  abbrev t : Forest
  t = tree_of run

  r : Run A t
  r = flat_run A t f.flat

  step_at : (i : ℕ) → i < n → node i t ≡ step (label_at run i) end
  step_at i l = flat_node i t f.flat (omega (arith, f.all)) ∙ rw f.stands

  -- A free copy, by labels and marks; and back.
  free_copy : (i j : ℕ) → i < n → j < n → label_at run j ≡ label_at run i → marked_in marks (label_at run i) ≡ false → FreeCopy A.marked (node i t) (node j t)
  unfolding holds
  free_copy i j a b e q =
      record {
        same = step_at i a ∙ rw (← e) (sym (step_at j b));
        unmarked = ap (holds A.marked) (step_at i a) ∙ rw q refl;
      }

  copy_free : (i j : ℕ) → i < n → j < n → FreeCopy A.marked (node i t) (node j t) → (label_at run j ≡ label_at run i) × (marked_in marks (label_at run i) ≡ false)
  unfolding label_of holds
  copy_free i j a b c =
      let e : step (label_at run i) end ≡ step (label_at run j) end = sym (step_at i a) ∙ c.same ∙ step_at j b in
      (sym (ap label_of e), unmarked (marked_in marks (label_at run i)) (sym (ap (holds A.marked) (step_at i a)) ∙ c.unmarked))
    where
      unmarked : (b : Bool) → (b || false) ≡ false → b ≡ false
      unmarked true e = absurd (false≢true (sym e))
      unmarked false e = refl

  -- What the matches of step i are at width w.
  pub record MatchesHere (i w k : ℕ) : Type 0 where
    pub matched : i + w ≤ n → Matched A.marked (back i t) w k
    pub none : n < i + w → k ≡ 0

  pub match_here : (i w k x : ℕ) → i < n → 0 < w → (i + 1 + w ≤ n → Matched A.marked (back (i + 1) t) w k) → MatchAt run marks n i w k x → MatchesHere i w x
  match_here i w k x l pos next (ends a e) =
      record {
        matched = λ b. rw e (matched_none A t r i (omega (arith, f.all)) w (omega (arith, f.all)) (λ c q. absurd (omega (arith, f.all))));
        none = λ b. e;
      }
  match_here i w k x l pos next (differs a e) =
      record {
        matched = λ b. rw e (matched_none A t r i (omega (arith, f.all)) w (omega (arith, f.all)) (λ c q. a (copy_free i (i + w) l (omega (arith, f.all)) q).0));
        none = λ b. e;
      }
  match_here i w k x l pos next (is_marked a e) =
      record {
        matched = λ b.
            rw e
            (matched_none A t r i (omega (arith, f.all)) w (omega (arith, f.all))
            (λ c q. absurd (false≢true (sym (copy_free i (i + w) l (omega (arith, f.all)) q).1 ∙ a))));
        none = λ b. e;
      }
  match_here i w k x l pos next (matches a e m d) =
      record {
        matched = λ b. rw d (matched_more A t r i (omega (arith, f.all)) w k (free_copy i (i + w) l a e m) (next (omega arith)));
        none = λ b. absurd (omega arith);
      }

  -- The widths below w are grown, the others as they were.
  pub record Grown (i w : ℕ) (before after : List ℕ) : Type 0 where
    pub here : (v : ℕ) → 0 < v → v < w → MatchesHere i v (get_or after v 0)
    pub later : (v : ℕ) → w ≤ v → get_or after v 0 ≡ get_or before v 0

  -- One more than the matches of the next step is a number of 16 bits.
  pub next_low : {i w : ℕ} {before after : List ℕ} → Grown i w before after → i < n → 0 < w → w ≤ limit → Matching A t before (i + 1)
      → get_or after w 0 < 65535
  next_low {i} {w} {before} {after} g l pos within m = omega (arith, g.later w (omega arith), by_place (dec_lt n (i + 1 + w)))
    where
      by_place : Dec (n < i + 1 + w) → get_or before w 0 < 65535
      by_place (yes b) = omega (arith, m.none w pos within (omega (arith, f.all)))
      by_place (no b) =
          omega (arith, (m.matched w pos within (omega (arith, f.all))).bound, siblings_back (i + 1) t r.plain (omega (arith, f.all)), f.few, f.all)

  pub grown_none : (i : ℕ) (before : List ℕ) → Grown i 1 before before
  grown_none i before = record { here = λ v a b. absurd (omega arith); later = λ v a. refl }

  pub grown_more : {i w : ℕ} {before after : List ℕ} → Grown i w before after → i < n → 0 < w → w ≤ limit → w < length after
      → Matching A t before (i + 1) → (x : ℕ) → MatchAt run marks n i w (get_or after w 0) x → Grown i (w + 1) before (set after w x)
  grown_more {i} {w} {before} {after} g l pos within room m x a =
      let h = match_here i w (get_or after w 0) x l pos (λ b. rw (g.later w (omega arith)) (m.matched w pos within (omega (arith, f.all)))) a in
      record {
        here = λ v b c. elim (ℕ_discrete v w) [
          | yes e ↦ rw (e, get_or-set_same after w x 0 room) h
          | no e ↦ rw (get_or-set_other after w v x 0 e) (g.here v b (omega arith))
        ];
        later = λ v b. get_or-set_other after w v x 0 (λ e. omega arith) ∙ g.later v (omega arith);
      }

  pub grown_all : {i w : ℕ} {before after : List ℕ} → Grown i w before after → limit < w → Matching A t after i
  grown_all {i} {w} g l =
      record {
        matched = λ v a b c. (g.here v a (omega arith)).matched (omega (arith, f.all));
        none = λ v a b c. (g.here v a (omega arith)).none (omega (arith, f.all));
      }
