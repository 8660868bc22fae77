-- What the folder answers and writes, as the text that is printed of it.
use mathlib.Core.Path.{◌≡◌, refl, ap}
use mathlib.Core.Bool.{false}
use mathlib.Core.List.{List, ◌++◌}
use mathlib.Core.Logic.{◌≢◌}
use Prim.Native.Nat.{ℕ, ◌*◌, ◌≤◌, ◌<◌}
use native.Mathlib.Decide.{dec_le}
use native.Mathlib.Omega.{arith}
use borrow.Author.Tests.{lt-ltb, le-ltb}
use lib.ListN.{length, take, drop, replicate}
use lib.Seq.{take-append_seam}
use Rattle.format.specs.Limits.{limits, Tariff, tariff, priced, allowed}
use Rattle.format.specs.Order.{Bytes}
use Rattle.format.specs.Head.{marks_in_order}
use Rattle.format.specs.Marks.{free_marks}
use Rattle.format.specs.Machine.{Outcome, refused, accepted, read}
use Rattle.format.specs.Readings.{run_rules, as_run_reading, run_reading_in, run_reading}
use Rattle.format.specs.Numbers.{RunReading}
use Rattle.format.specs.Numbers.{Folded}
use Rattle.format.proofs.Refusals.{refused_some}
use Rattle.optimum.proofs.Demands.{cheapest_room}
use Rattle.optimum.specs.Verdict.{Verdict, refuses, folds, verdict, folding_by}
use Rattle.folder.specs.Folding.{folding, fold_answer, fold_output}
use Rattle.fold.specs.Text.{three_lines, refusal_line}
use Rattle.fold.specs.Printed.{lines_of, printed}
use Rattle.fold.proofs.Room.{enough_work, too_little_work}

-- What the program lends.
abbrev unit : Tariff
unit = tariff (replicate 256 1) (replicate 256 1) free_marks 1 0

-- The verdict on a run: a refusal with its number, or a fold with the nodes that the run reader counts.
data Decided (nodes : ℕ) : Verdict → Type 0 where
  refusing : (n p : ℕ) → n ≢ 0 → Decided nodes (refuses n p)
  folded : (f : List ℕ) (c : ℕ) → length f ≤ 4 * nodes → Decided nodes (folds nodes f c)

decided : (s : List ℕ) → Bytes s → Decided (run_reading s).nodes (folding s limits.width unit)
unfolding run_reading_in folding_by marks_in_order
decided s small = by_outcome (read run_rules s) refl
  where
    by_outcome : (o : Outcome) → read run_rules s ≡ o → Decided (as_run_reading o).nodes (verdict (allowed limits.width free_marks) (priced unit) s o)
    by_outcome (refused n p) e = refusing n p (refused_some run_rules s n p e)
    by_outcome (accepted t x) e =
        folded _ _ (cheapest_room limits s small t x e false (allowed limits.width free_marks) (priced unit))

-- What the folder answers and writes with this work and this output.
abbrev answered : Verdict → Folded
answered v = fold_answer v 5050 5050 4096

abbrev output : Verdict → List ℕ
output v = fold_output v 5050 5050 (replicate 4096 0)

-- A run of more than 100 nodes is refused, and one of at most 100 is folded.
module _ (nodes : ℕ) (f : List ℕ) (c : ℕ) (short : length f ≤ 4 * nodes) where
  many : 100 < nodes → answered (folds nodes f c) ≡ record { refusal = 13; place = 0; length = 0; cost = 0 }
  many h = rw (lt-ltb _ _ (too_little_work nodes h))

  few : nodes ≤ 100 → answered (folds nodes f c) ≡ record { refusal = 0; place = 0; length = length f; cost = c }
  few h = rw (le-ltb _ _ (enough_work nodes h), le-ltb 4096 (length f) (omega arith))

  few_output : nodes ≤ 100 → output (folds nodes f c) ≡ f ++ drop (length f) (replicate 4096 0)
  few_output h = rw (le-ltb _ _ (enough_work nodes h), le-ltb 4096 (length f) (omega arith))

-- The line of a refusal.
refusal_text : {nodes : ℕ} (v : Verdict) → Decided nodes v → (answered v).refusal ≢ 0
    → refusal_line (answered v).refusal (answered v).place ≡ lines_of v
refusal_text v (refusing n p z) e = refl
refusal_text {nodes} v (folded f c short) e =
    elim (dec_le nodes 100) [
      | yes h ↦ absurd (e (ap (λ (r : Folded). r.refusal) (few nodes f c short h)))
      | no h ↦ rw (many nodes f c short (omega arith), lt-ltb 100 nodes (omega arith))
    ]

-- The lines of a fold, and its length.
fold_lines : {nodes : ℕ} (v : Verdict) → Decided nodes v → (answered v).refusal ≡ 0
    → three_lines nodes (answered v).cost (take (answered v).length (output v)) ≡ lines_of v
fold_lines v (refusing n p z) e = absurd (z e)
fold_lines {nodes} v (folded f c short) e =
    elim (dec_le nodes 100) [
      | yes h ↦ rw (few nodes f c short h, few_output nodes f c short h, le-ltb 100 nodes h) (ap (three_lines nodes c) (take-append_seam f _))
      | no h ↦ absurd (omega (arith, ap (λ (r : Folded). r.refusal) (many nodes f c short (omega arith))))
    ]

fold_room : {nodes : ℕ} (v : Verdict) → Decided nodes v → (answered v).length ≤ 4096
fold_room v (refusing n p z) = omega arith
fold_room {nodes} v (folded f c short) =
    elim (dec_le nodes 100) [
      | yes h ↦ rw (few nodes f c short h) (omega arith)
      | no h ↦ rw (many nodes f c short (omega arith)) (omega arith)
    ]

-- The same of the folder's own answer.
module _ (s : List ℕ) (small : Bytes s) (r : Folded) (answer : r ≡ answered (folding s limits.width unit)) where
  pub prints_refusal : r.refusal ≢ 0 → refusal_line r.refusal r.place ≡ printed s
  unfolding printed
  prints_refusal = rw answer (refusal_text _ (decided s small))

  pub prints_fold : (out : List ℕ) (n : RunReading) → out ≡ output (folding s limits.width unit) → n ≡ run_reading s
      → r.refusal ≡ 0 → three_lines n.nodes r.cost (take r.length out) ≡ printed s
  unfolding printed
  prints_fold out n e f = rw (e, f, answer) (fold_lines _ (decided s small))

  pub room : r.length ≤ 4096
  room = rw answer (fold_room _ (decided s small))
