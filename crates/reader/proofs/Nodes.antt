-- Laws of where a node starts and where it ends, as loops over offsets read them.
use mathlib.Core.Path.{◌≡◌, refl, sym, ◌∙◌}
use mathlib.Core.Bool.{true, false, false≢true}
use mathlib.Core.List.{List, [], ◌∷◌}
use mathlib.Core.Logic.{◌≢◌}
use Prim.Native.Nat.{ℕ, zero, suc, ◌+◌, ◌-◌, ◌<◌, ◌≤◌}
use native.Mathlib.Nat.{sub-zero, sub_self}
use native.Mathlib.Numerals.{sub-one}
use native.Mathlib.Omega.{arith}
use lib.Dec.{eqb}
use lib.ListN.{length, get_or, take, drop, length-drop, drop_of_length-le}
use lib.Seq.{take_all, drop-length}
use borrow.Author.Tests.{ne_eqb, eq-eqb}
use Rattle.std.proofs.lemmas.List.{get_or-take, length-take-le}
use Rattle.format.specs.Machine.{is_node, operands}
use Rattle.format.specs.Readings.{run_reading}
use Rattle.std.specs.Prelude.{Result, Ok, Err}
use Rattle.std.specs.Result.{is_err}
use Rattle.format.specs.Answers.{run_said}
use Rattle.format.specs.declared.answers.Refusal.{Refusal}
use Rattle.format.specs.declared.answers.RunCounts.{RunCounts}
use Rattle.format.proofs.Numbered.{numbered}
use Rattle.format.specs.Parts.{starts, still_open, closing, node_size, node_part, part_of}
use Rattle.format.specs.Numbers.{RunReading}
use Rattle.format.proofs.Machine.{operands_few}
use Rattle.format.proofs.Parts.{closing_none}
use Rattle.walk.proofs.Walking.{cut_one}

-- Operand bytes are passed over one at a time, and no node starts among them.
starts_operand : (p k c : ℕ) (s : List ℕ) → k ≢ 0 → starts (suc p) k (c ∷ s) ≡ starts p (k - 1) s
unfolding starts
starts_operand p zero c s z = absurd (z refl)
starts_operand p (suc k) c s z = rw sub-one

starts_inside : (k c : ℕ) (s : List ℕ) → k ≢ 0 → starts 0 k (c ∷ s) ≡ false
unfolding starts
starts_inside zero c s z = absurd (z refl)
starts_inside (suc k) c s z = refl

-- No node starts at the end or past it.
pub starts_past : (p k : ℕ) (s : List ℕ) → length s ≤ p → false ≡ starts p k s
unfolding starts
starts_past p k [] h = refl
starts_past zero k (c ∷ s) h = absurd (omega (arith, h))
starts_past (suc p) zero (c ∷ s) h = starts_past p (operands c) s (omega (arith, h))
starts_past (suc p) (suc k) (c ∷ s) h = starts_past p k s (omega (arith, h))

-- Whether a node starts at `at` is what it is from offset q on, after k operand bytes.
pub record Counted (s : List ℕ) (at q k : ℕ) : Type 0 where
  pub ahead : q ≤ at
  pub same : starts at 0 s ≡ starts (at - q) k (drop q s)

pub counted_none : (s : List ℕ) (at : ℕ) → Counted s at 0 0
counted_none s at = record { ahead = omega arith; same = rw sub-zero }

module _ (s : List ℕ) (at q k : ℕ) (below : at < length s) (so_far : Counted s at q k) where
  taken : length (take at s) ≡ at
  taken = length-take-le at s (omega arith)

  module _ (more : q < length (take at s)) where
    before : q < at
    before = omega (arith, taken)

    inside : q < length s
    inside = omega (arith, before)

    closer : at - q ≡ suc (at - (q + 1))
    closer = omega (arith, before)

    pub counted_command : k ≡ 0 → (k' : ℕ) → k' ≡ operands (get_or (take at s) q 0) → Counted s at (q + 1) k'
    unfolding starts
    counted_command z k' e =
        record {
          ahead = omega (arith, before);
          same = so_far.same ∙ rw (z, e, get_or-take at s q 0 before, closer, cut_one s q inside);
        }

    pub counted_operand : k ≢ 0 → (k' : ℕ) → k' ≡ k - 1 → Counted s at (q + 1) k'
    counted_operand z k' e =
        record {
          ahead = omega (arith, before);
          same = so_far.same ∙ rw (e, closer, cut_one s q inside) (starts_operand _ k _ _ z);
        }

  module _ (there : length (take at s) ≤ q) where
    here : q ≡ at
    here = omega (arith, taken, so_far.ahead)

    pub counted_here : k ≡ 0 → is_node (get_or s at 0) ≡ starts at 0 s
    unfolding starts
    counted_here z = sym (so_far.same ∙ rw (z, here, sub_self, cut_one s at below))

    pub counted_inside : k ≢ 0 → eqb k 0 ≡ starts at 0 s
    counted_inside z =
        ne_eqb k 0 z ∙ sym (so_far.same ∙ rw (here, sub_self, cut_one s at below) (starts_inside k _ _ z))

-- One byte of what is left of an open group, and none left.
closing_command : (c : ℕ) (s : List ℕ) (d : ℕ) → d ≢ 0 → closing (c ∷ s) d 0 ≡ suc (closing s (still_open d c) (operands c))
unfolding closing
closing_command c s zero z = absurd (z refl)
closing_command c s (suc d) z = refl

closing_operand : (c : ℕ) (s : List ℕ) (d k : ℕ) → d ≢ 0 → k ≢ 0 → closing (c ∷ s) d k ≡ suc (closing s d (k - 1))
unfolding closing
closing_operand c s zero k z y = absurd (z refl)
closing_operand c s (suc d) zero z y = absurd (y refl)
closing_operand c s (suc d) (suc k) z y = rw sub-one

closing_end : (d k : ℕ) → d ≢ 0 → closing [] d k ≡ 0
unfolding closing
closing_end zero k z = absurd (z refl)
closing_end (suc d) k z = refl

-- The node at `at` ends where the outermost of d open groups does, from offset q on, after k operand bytes.
pub record Ending (s : List ℕ) (at q d k : ℕ) : Type 0 where
  pub within : q ≤ length s
  pub depth : d ≤ q
  pub few : k ≤ 4
  pub same : at + node_size (drop at s) ≡ q + closing (drop q s) d k

pub ending_first : (s : List ℕ) (at d k : ℕ) → at < length s → d ≡ still_open 0 (get_or s at 0) → d ≤ 1 → k ≡ operands (get_or s at 0) → Ending s at (at + 1) d k
unfolding node_size
ending_first s at d k below e deep f =
    record {
      within = omega arith;
      depth = omega arith;
      few = omega (arith, operands_few (get_or s at 0));
      same = rw (cut_one s at below, e, f) (omega arith);
    }

module _ (s : List ℕ) (at q d k : ℕ) (so_far : Ending s at q d k) where
  pub ending_closed : d ≡ 0 → q + k ≡ at + node_size (drop at s)
  ending_closed z = sym (so_far.same ∙ rw (z, closing_none (drop q s) k))

  pub ending_last : d ≡ 0 → length s ≤ q → length s + k ≡ at + node_size (drop at s)
  ending_last z h = omega (arith, so_far.within, ending_closed z)

  module _ (some : d ≢ 0) where
    pub ending_all : length s ≤ q → length s ≡ at + node_size (drop at s)
    ending_all h =
        let e : q ≡ length s = omega (arith, so_far.within) in
        let z : closing (drop q s) d k ≡ 0 = rw (e, drop-length) (closing_end d k some) in
        omega (arith, so_far.same)

    module _ (below : q < length s) where
      pub ending_command : k ≡ 0 → (d' k' : ℕ) → d' ≡ still_open d (get_or s q 0) → d' ≤ d + 1 → k' ≡ operands (get_or s q 0) → Ending s at (q + 1) d' k'
      ending_command z d' k' e deep f =
          let one : closing (drop q s) d k ≡ suc (closing (drop (q + 1) s) d' k') =
          rw (z, cut_one s q below, e, f) (closing_command _ _ d some) in
          record {
            within = omega arith;
            depth = omega (arith, so_far.depth);
            few = omega (arith, operands_few (get_or s q 0));
            same = omega (arith, so_far.same);
          }

      pub ending_operand : k ≢ 0 → (d' k' : ℕ) → d' ≡ d → k' ≡ k - 1 → Ending s at (q + 1) d' k'
      ending_operand z d' k' e f =
          let one : closing (drop q s) d k ≡ suc (closing (drop (q + 1) s) d' k') =
          rw (e, f, cut_one s q below) (closing_operand _ _ d k some z) in
          record {
            within = omega arith;
            depth = omega (arith, so_far.depth);
            few = omega (arith, so_far.few);
            same = omega (arith, so_far.same);
          }

all_taken : (s : List ℕ) (p n : ℕ) → length s - p ≤ n → take n (drop p s) ≡ drop p s
all_taken s p n h = take_all n (drop p s) (rw length-drop h)

-- The node that stands at an offset, by where it ends.
pub node_none : (s : List ℕ) (at : ℕ) → length s ≤ at → [] ≡ node_part s at
unfolding node_part
node_none s at h = rw (drop_of_length-le s h)

module _ (s : List ℕ) (at e : ℕ) (ends : e ≡ at + node_size (drop at s)) where
  pub node_whole : take (e - at) (drop at s) ≡ node_part s at
  unfolding node_part
  node_whole =
      let size : e - at ≡ node_size (drop at s) = omega arith in
      rw size

  pub node_rest : length s < e → take (length s - at) (drop at s) ≡ node_part s at
  node_rest h = all_taken s at (length s - at) (omega arith) ∙ (sym (all_taken s at (e - at) (omega arith)) ∙ node_whole)

-- The part of a node, by what was read.
module _ (s : List ℕ) (at : ℕ) (r : RunReading) (reading : r ≡ run_reading s) where
  pub part_refused : r.refusal ≢ 0 → [] ≡ part_of s at
  unfolding part_of
  part_refused z = rw (← reading, ne_eqb _ _ z)

  module _ (all : r.refusal ≡ 0) where
    pub part_none : false ≡ starts at 0 s → [] ≡ part_of s at
    unfolding part_of
    part_none z = rw (← reading, eq-eqb _ _ all, ← z)

    pub part_node : starts at 0 s ≡ true → node_part s at ≡ part_of s at
    unfolding part_of
    part_node there = rw (← reading, eq-eqb _ _ all, there)

-- Whether a run was refused, by what its reading says.
pub said_refused : (r : Result RunCounts Refusal) → is_err r ≡ true → (run_said r).refusal ≢ 0
said_refused (Ok t) h = absurd (false≢true h)
said_refused (Err e) h = numbered e.reason

pub said_accepted : (r : Result RunCounts Refusal) → is_err r ≡ false → (run_said r).refusal ≡ 0
said_accepted (Ok t) h = refl
said_accepted (Err e) h = absurd (false≢true (sym h))
