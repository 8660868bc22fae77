-- WITH EVERY LABEL MARKED THE CHEAPEST FOLD IS THE RUN ITSELF: no repeat may stand in a fold.
use mathlib.Core.Path.{◌≡◌, sym, ◌∙◌}
use mathlib.Core.Bool.{true, true≢false}
use Prim.Native.Nat.{ℕ, zero, suc, ◌<◌}
use native.Mathlib.Omega.{arith}
use Rattle.format.specs.Limits.{Prices}
use Rattle.format.specs.Forest.{Forest, end, step, group, repeat, copies, unroll, siblings, holds, Plain, Allowed, Sound, Coded}
use Rattle.format.proofs.Forests.{siblings_unroll, unroll_plain, plain_unroll}
use Rattle.format.proofs.Marks.{holds_unroll}
use Rattle.optimum.specs.Optimal.{FoldOf}
use Rattle.optimum.specs.Cheapest.{Run}
use Rattle.optimum.specs.Fewest.{preferred}
use Rattle.optimum.proofs.Demands.{coded_parts}
use Rattle.optimum.proofs.Fewest.{preferred_first}

-- Every label that a byte can say is marked.
abbrev pub AllMarked : Allowed → Type 0
AllMarked A = (l : ℕ) → l < 256 → A.marked l ≡ true

module _ (A : Allowed) (all : AllMarked A) where
  -- A sequence that is not empty has a label.
  some_label : (f : Forest) → Coded f → 0 < siblings f → Plain f → holds A.marked f ≡ true
  unfolding holds siblings
  some_label end c h p = absurd (omega arith)
  some_label (step l f) c h p = rw (all l c.0)
  some_label (group l b f) c h p = rw (all l c.0)
  some_label (repeat n w b f) c h p = absurd p

  -- So nothing is repeated.
  none_repeats : (f : Forest) → Sound A f → Coded (unroll f) → Plain f
  unfolding unroll copies
  none_repeats end s c = tt
  none_repeats (step l f) s c = none_repeats f s c.1
  none_repeats (group l b f) s c = (none_repeats b s.1 c.1, none_repeats f s.2 c.2)
  none_repeats (repeat zero w b f) s c = absurd (omega (arith, s.0.twice))
  none_repeats (repeat (suc h) w b f) s c =
      let k = coded_parts (copies (suc h) (unroll b)) (unroll f) c in
      let body = (coded_parts (unroll b) (copies h (unroll b)) k.0).0 in
      let some : 0 < siblings (unroll b) = omega (arith, siblings_unroll b, s.0.some) in
      absurd (true≢false (sym (some_label (unroll b) body some (plain_unroll b)) ∙ holds_unroll A.marked A b s.1 ∙ s.0.unmarked))

  pub only_itself : {t f : Forest} → Coded t → FoldOf A t f → f ≡ t
  only_itself {t} {f} c q = sym (unroll_plain f (none_repeats f q.sound (rw q.unrolls c))) ∙ q.unrolls

  pub preferred_itself : (P : Prices) (t : Forest) → Run A t → Coded t → preferred A P t ≡ t
  preferred_itself P t r c = only_itself c (preferred_first A P t r).fold
