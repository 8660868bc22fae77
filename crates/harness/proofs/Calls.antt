-- The folder and the unroller on slices that were filled: what they answer goes by the lengths alone.
use mathlib.Core.Path.{◌≡◌, ap, ◌∙◌}
use mathlib.Core.Bool.{Bool, true}
use mathlib.Core.Logic.{◌↔◌}
use mathlib.Core.List.{List}
use Prim.Native.Nat.{ℕ}
use lib.ListN.{length, length-replicate}
use Rattle.format.specs.Numbers.{Written}
use Rattle.optimum.specs.Verdict.{Verdict}
use Rattle.folder.specs.Folding.{fold_answer, fold_output, fold_work}
use Rattle.harness.specs.Lent.{filled_words, filled_bytes, unroll_says, unroll_leaves, Unrolls}

module _ (v : Verdict) (costs choices out costs' choices' out' : List ℕ) (p : costs' ≡ filled_words (length costs))
    (q : choices' ≡ filled_words (length choices)) (s : out' ≡ filled_bytes (length out)) where
  pub answer_filled : fold_answer v (length costs') (length choices') (length out') ≡ fold_answer v (length costs) (length choices) (length out)
  answer_filled = rw (p, q, s) (simp length-replicate)

  pub output_filled : fold_output v (length costs') (length choices') out'
      ≡ fold_output v (length costs) (length choices) (filled_bytes (length out))
  output_filled = rw (p, q, s) (simp length-replicate)

  pub costs_filled : fold_work v (length costs') (length choices') costs'
      ≡ fold_work v (length costs) (length choices) (filled_words (length costs))
  costs_filled = rw (p, q) (simp length-replicate)

  pub choices_filled : fold_work v (length costs') (length choices') choices'
      ≡ fold_work v (length costs) (length choices) (filled_words (length choices))
  choices_filled = rw (p, q) (simp length-replicate)

pub unroll_filled : (fold : List ℕ) (limit : ℕ) (before text run after : List ℕ) (r : Written) (b : Bool) → text ≡ filled_bytes (length before)
    → r ≡ unroll_says fold limit (length text) → after ≡ unroll_leaves fold limit text → (b ≡ true) ↔ Unrolls r run after
    → (after ≡ unroll_leaves fold limit (filled_bytes (length before))) × ((b ≡ true) ↔ Unrolls (unroll_says fold limit (length before)) run after)
unroll_filled fold limit before text run after r b e f w says =
    let l : length text ≡ length before = ap length e ∙ length-replicate (length before) 0xee in
    (w ∙ ap (unroll_leaves fold limit) e, rw (f, l) at says)
