-- The steps that fold an accepted season run: its filled blocks, the answer, and the blocks cleared.
use mathlib.Core.Path.{◌≡◌, sym, ap, ◌∙◌}
use mathlib.Core.Bool.{true, false, false≢true}
use mathlib.Core.List.{List, ◌++◌}
use Prim.Native.Nat.{ℕ, ◌+◌, ◌-◌, ◌*◌, ◌/◌, ◌<◌, ◌≤◌}
use native.Mathlib.Nat.{zero-add}
use native.Mathlib.Omega.{arith}
use lib.ListN.{length, drop, replicate, length-drop}
use lib.Seq.{sets-eq, get_or-drop, ext_get_or}
use borrow.Author.Tests.{lt-ltb, le-ltb}
use Rattle.format.specs.Limits.{Prices, allowed}
use Rattle.format.specs.Forest.{Forest, nodes, cost, bytes, Allowed}
use Rattle.format.specs.Tree.{tree_of}
use Rattle.format.specs.Numbers.{Folded}
use Rattle.optimum.specs.Cheapest.{Run, front, back}
use Rattle.optimum.specs.Fewest.{counting, preferred}
use Rattle.optimum.specs.Verdict.{room_answer, room_output}
use Rattle.optimum.proofs.Cut.{front_whole}
use Rattle.optimum.proofs.Fewest.{any_factor, best_counted, counted_few, preferred_short}
use Rattle.blocks.specs.Keys.{factor, block, slot, tail_slot, both_in}
use Rattle.blocks.proofs.Flats.{flat_run, flat_nodes}
use Rattle.tails.specs.declared.rates.Rates.{Rates}
use Rattle.tails.specs.Solving.{FillReady, PricesAre, FilledFrom, KeptPast}
use Rattle.tails.proofs.Fills.{modest}
use Rattle.season.specs.Folding.{work_entries}
use Rattle.season.specs.Writing.{StepsReady, fold_bytes, StepsFit, StepsWritten}
use Rattle.season.specs.inner.Run.{RunFilled, RunWritten, RunFolded}

-- What lies behind the entries stays.
pub kept_tail : (e : ℕ) (xs ys : List ℕ) → KeptPast e xs ys → drop e ys ≡ drop e xs
kept_tail e xs ys k =
    ext_get_or 0 (drop e ys) (drop e xs) (rw (length-drop e ys, length-drop e xs, k.same_length))
    (λ i l. rw (get_or-drop e ys i 0, get_or-drop e xs i 0) (k.past (e + i) (omega arith)))

module _ {run : List ℕ} {n : ℕ} {A : Allowed} {P : Prices} {work : List ℕ} (w : RunFilled run n A P work) where
  abbrev t : Forest
  t = tree_of run

  is_run : Run A t
  is_run = flat_run A t w.flat.flat

  enough : nodes t < 2 * factor
  enough = omega (arith, flat_nodes t w.flat.flat, w.flat.all, w.flat.few)

  -- The whole run is a tail, and the cheapest fold at prices that count repeats is the preferred one.
  pub write_ready : StepsReady run work true 0 n
  write_ready =
      record {
        allowed = A;
        prices = counting factor P;
        tree = t;
        modest = w.modest;
        stands = sym w.flat.stands;
        solved = w.solved;
        room = omega (arith, w.room, w.flat.all);
        ahead = omega arith;
        within = omega (arith, w.flat.all);
        ends = λ e. sym w.flat.all;
        short = λ e. absurd (false≢true (sym e));
      }

  whole : front (n - 0) (back 0 t) ≡ t
  unfolding back
  whole = front_whole (n - 0) t is_run.plain (omega (arith, w.flat.all))

  pub fold_is : fold_bytes write_ready ≡ bytes (preferred A P t)
  unfolding write_ready
  fold_is = rw (whole, any_factor A P t is_run factor enough)

  pub write_fits : StepsFit run work true 0 n 0
  write_fits =
      record {
        ready = write_ready;
        fits = omega (arith, ap length fold_is, preferred_short A P t is_run false, flat_nodes t w.flat.flat, w.flat.all, w.flat.few);
      }

  -- The key of the whole has its cost.
  pub whole_cost : both_in work (slot 0 tail_slot) / 65536 ≡ cost P (preferred A P t)
  unfolding back
  whole_cost =
      let b = (w.solved 0 (omega arith) (omega arith)).tail.is_cost in
      omega (arith, b, best_counted A P t is_run factor enough, counted_few A P t is_run factor enough)

  module _ (len : ℕ) (is_length : (z : StepsReady run work true 0 n) → len ≡ length (fold_bytes z)) (out : List ℕ) where
    abbrev f : List ℕ
    f = bytes (preferred A P t)

    len_is : len ≡ length f
    len_is = is_length write_ready ∙ ap length fold_is

    answer_short : length out < len → (r : Folded) → r ≡ record { refusal = 14; place = 0; length = 0; cost = 0 }
        → (r ≡ room_answer (length out) f (cost P (preferred A P t))) × (out ≡ room_output f out)
    answer_short l r q = let e = lt-ltb (length out) (length f) (omega (arith, len_is)) in (q ∙ rw e, rw e)

    answer_whole : len ≤ length out → (c : ℕ) → c ≡ both_in work (slot 0 tail_slot) / 65536 → (out' : List ℕ) (r : ℕ) → StepsWritten run work true 0 n 0 out out' r
        → (record { refusal = 0; place = 0; length = len; cost = c } ≡ room_answer (length out) f (cost P (preferred A P t))) × (out' ≡ room_output f out)
    answer_whole l c is_cost out' r v =
        let e = le-ltb (length out) (length f) (omega (arith, len_is)) in
        let all = sets-eq f out 0 (omega (arith, len_is)) in
        (rw (e, len_is, is_cost, whole_cost), rw e (v.written write_ready ∙ rw fold_is (rw zero-add at all)))

-- The answer holds for whatever repeats and prices the blocks were filled.
module _ {run : List ℕ} {n : ℕ} {work : List ℕ} (len : ℕ) (is_length : (z : StepsReady run work true 0 n) → len ≡ length (fold_bytes z)) (out : List ℕ) where
  pub written_short : length out < len → (r : Folded) → r ≡ record { refusal = 14; place = 0; length = 0; cost = 0 } → RunWritten run n work out out r
  written_short l r q =
      record { answered = λ A P w. (answer_short w len is_length out l r q).0; written = λ A P w. (answer_short w len is_length out l r q).1 }

  pub written_whole : len ≤ length out → (c : ℕ) → c ≡ both_in work (slot 0 tail_slot) / 65536 → (out' : List ℕ) (r : ℕ) → StepsWritten run work true 0 n 0 out out' r
      → RunWritten run n work out out' (record { refusal = 0; place = 0; length = len; cost = c })
  written_whole l c is_cost out' r v =
      record {
        answered = λ A P w. (answer_whole w len is_length out l c is_cost out' r v).0;
        written = λ A P w. (answer_whole w len is_length out l c is_cost out' r v).1;
      }

-- Filled blocks, and the whole.
module _ {run steps marks : List ℕ} {R : Rates} {limit n : ℕ} {work filled : List ℕ} (z : FillReady run steps R limit n work)
    (f : FilledFrom run steps marks R limit 0 filled) (k : KeptPast (block * (n + 1)) work filled) where
  pub run_filled : (P : Prices) → PricesAre steps R (counting factor P) → RunFilled run n (allowed limit marks) P filled
  run_filled P p =
      record {
        flat = z.flat;
        modest = modest run steps marks R limit n z (counting factor P) p;
        solved = f.solved (counting factor P) p;
        room = omega (arith, z.room, k.same_length);
      }

  pub run_folded : {out out' : List ℕ} {r : Folded} (used : ℕ) → used ≡ work_entries n → RunWritten run n filled out out' r → (work' : List ℕ)
      → work' ≡ replicate used 0 ++ drop used filled → RunFolded run steps marks R limit n work work' out out' r
  run_folded used e w work' c =
      record {
        answered = λ P p. w.answered (allowed limit marks) P (run_filled P p);
        written = λ P p. w.written (allowed limit marks) P (run_filled P p);
        cleared = c ∙ rw (e, kept_tail (work_entries n) work filled k);
      }
