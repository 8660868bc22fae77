-- What is known of the rows of a sequence from one sibling on: past the last one, and of one row more.
use mathlib.Core.Path.{◌≡◌, ◌∙◌}
use mathlib.Core.List.{List}
use Prim.Native.Nat.{ℕ, ◌+◌, ◌*◌, ◌<◌, ◌≤◌}
use native.Mathlib.Decide.{ℕ_discrete}
use native.Mathlib.Omega.{arith}
use lib.ListN.{length, get_or, set}
use lib.Seq.{get_or-set_same, get_or-set_other}
use Rattle.format.specs.Limits.{Prices}
use Rattle.format.specs.Forest.{Forest, Allowed, siblings}
use Rattle.optimum.specs.Cheapest.{Run, back, Least, usual, best_cost}
use Rattle.optimum.proofs.Cut.{back_whole}
use Rattle.optimum.proofs.Cheapest.{best_cost_end}
use Rattle.table.specs.Keys.{key}
use Rattle.table.specs.Table.{stretch}
use Rattle.solver.specs.Rows.{Extending, Entered, Tailing, Stopping}

-- How far the rows are solved, their entries, what they add as tails, and where their first items end.
pub record Known (A : Allowed) (P : Prices) (b : ℕ) (t : Forest) (i : ℕ) (extents tails stops costs choices : List ℕ) : Type 0 where
  pub extending : Extending A.marked t i extents
  pub entered : Entered A P b t i extents costs choices
  pub tailing : Tailing A P t i tails
  pub stopping : Stopping A P t i extents stops

-- Past the last sibling.
module _ (A : Allowed) (P : Prices) (b : ℕ) (t : Forest) (r : Run A t) (m : ℕ) (all : m ≡ siblings t) (extents tails stops costs choices : List ℕ)
    (long_extents : m < length extents) (long_tails : m < length tails) where
  pub known_none : Known A P b t m (set extents m 0) (set tails m 0) stops costs choices
  known_none =
      let here : (xs : List ℕ) (j : ℕ) → m < length xs → m ≤ j → j ≤ siblings t → get_or (set xs m 0) j 0 ≡ 0 =
      λ xs j l h k. let e : j ≡ m = omega arith in rw e (get_or-set_same xs m 0 0 l) in
      let none : (j : ℕ) → m ≤ j → j ≤ siblings t → key (best_cost A P (back j t)) 0 ≡ 0 =
      λ j h k. rw (back_whole j t r.plain (omega arith), best_cost_end A P) in
      record {
        extending = record {
          within = λ j h k. omega (arith, here extents j long_extents h k);
          closed = λ j c h k. omega (arith, here extents j long_extents h (omega arith));
          used = λ j d w h p l k e. absurd (omega arith);
        };
        entered = record { short = λ j d h p q l. absurd (omega arith); whole = λ j d h p q. absurd (omega arith) };
        tailing = record { tail = λ j h k. omega (arith, here tails j long_tails h k, none j h k) };
        stopping = record { one = λ j h k. absurd (omega arith); stop = λ j d g w h p q l x. absurd (omega arith) };
      }

-- One row more in front: its tail, and the longest item that is first in a solved stretch of it.
module _ (A : Allowed) (P : Prices) (t : Forest) (i : ℕ) where
  pub tailing_more : (tails : List ℕ) (tail : ℕ) → i < length tails → tail ≡ key (best_cost A P (back i t)) 0 → Tailing A P t (i + 1) tails
      → Tailing A P t i (set tails i tail)
  tailing_more tails tail short e x =
      record {
        tail = λ j h k. elim (ℕ_discrete j i) [
          | yes q ↦ rw (q, get_or-set_same tails i tail 0 short) e
          | no q ↦ get_or-set_other tails i j tail 0 q ∙ x.tail j (omega arith) k
        ];
      }

  pub stopping_more : (extents stops : List ℕ) (extent longest : ℕ) → i < length extents → i < length stops → 0 < longest
      → ((d h w : ℕ) → 0 < d → d ≤ extent → Least A P usual (best_cost A P) (stretch t i d) h w → h * w ≤ longest)
      → Stopping A P t (i + 1) extents stops → Stopping A P t i (set extents i extent) (set stops i (i + longest))
  stopping_more extents stops extent longest short-extents short-stops some covers x = record { one = one; stop = stop }
    where
      here : get_or (set stops i (i + longest)) i 0 ≡ i + longest
      here = get_or-set_same stops i (i + longest) 0 short-stops

      later : (j : ℕ) → (j ≡ i → ⊥) → get_or (set stops i (i + longest)) j 0 ≡ get_or stops j 0
      later j q = get_or-set_other stops i j (i + longest) 0 q

      one : (j : ℕ) → i ≤ j → j < siblings t → j + 1 ≤ get_or (set stops i (i + longest)) j 0
      one j h k = elim (ℕ_discrete j i) [
        | yes q ↦ rw (q, here) (omega arith)
        | no q ↦ rw (later j q) (x.one j (omega arith) k)
      ]

      stop : (j d h w : ℕ) → i ≤ j → 0 < d → j + d ≤ siblings t → d ≤ get_or (set extents i extent) j 0
          → Least A P usual (best_cost A P) (stretch t j d) h w → j + h * w ≤ get_or (set stops i (i + longest)) j 0
      stop j d h w a p f l y = elim (ℕ_discrete j i) [
        | yes q ↦
            let fits : d ≤ extent = rw (get_or-set_same extents i extent 0 short-extents) at (rw q at l) in
            rw (q, here) (omega (arith, covers d h w p fits (rw q at y)))
        | no q ↦ rw (later j q) (x.stop j d h w (omega arith) p f (rw (get_or-set_other extents i j extent 0 q) at l) y)
      ]
