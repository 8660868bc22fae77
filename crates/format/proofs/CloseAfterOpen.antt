-- Refusal 5: a close right after its open. The table of the machine asks whether there is a sibling yet; that is the same, since
-- after a passed command there is none exactly if it is an open.
use mathlib.Core.Path.{◌≡◌, refl, sym, ◌∙◌}
use mathlib.Core.Bool.{Bool, true, false, ◌&&◌, or-false, false≢true}
use mathlib.Core.List.{List, [], ◌∷◌, ◌++◌}
use mathlib.Core.Logic.{◌≢◌, ◌↔◌, inl, inr}
use Prim.Native.Nat.{ℕ, suc, ◌+◌, ◌≤◌, ◌<◌}
use native.Mathlib.Nat.{mul-le-mul_right}
use native.Mathlib.Omega.{arith}
use lib.Dec.{eqb}
use lib.ListN.{length, get_or, take, drop}
use borrow.Author.Tests.{le-ltb, eqb-true, not-false}
use Rattle.format.specs.Machine.{Rules, State, Open, a_group, a_repeat, Check, ◌when◌, first_of, checks, refusal, read, advance, operands, opens_repeat, is_close, in_group, in_repeat, leave_group, leave_repeat, refused}
use Rattle.format.specs.Reasons.{None, Reached, at_start, passed, Because, at_command, left_open, OneKind, CloseAfterOpen}
use Rattle.format.proofs.Machine.{Opens, by_two, by_one, opens, refusal_other, Command, step_byte, group_byte, group_end_byte, repeat_byte, repeat_end_byte, other_byte, command, group_end_passed, repeat_passed, repeat_end_passed}
use Rattle.format.proofs.Refusals.{Each, first_each, refused_exactly}

-- Every open repeat has a count of at least 2, so at its close one sibling inside it is at least two outside.
abbrev Twice : List Open → Type 0
Twice [] = Unit
Twice (a_group o ∷ os) = Twice os
Twice (a_repeat h w o ∷ os) = (2 ≤ h) × Twice os

-- What a passed command leaves: the group or the repeat that it opens, or a sibling.
data Leaves (c : ℕ) (st : State) : Type 0 where
  new_group : c ≡ 0x11 → in_repeat st.opens ≡ false → Leaves c st
  new_repeat : opens_repeat c ≡ true → in_group st.opens ≡ false → Leaves c st
  some_sibling : 0 < st.tally.siblings → Leaves c st

record KeptCommand (c : ℕ) (st : State) : Type 0 where
  twice : Twice st.opens
  leaves : Leaves c st

-- Where check 5 answers: the command closes what is open, without a sibling.
data Shuts (c : ℕ) (st : State) : Type 0 where
  shut_group : c ≡ 0x12 → in_group st.opens ≡ true → st.tally.siblings ≡ 0 → Shuts c st
  shut_repeat : c ≡ 0x21 → in_repeat st.opens ≡ true → st.tally.siblings ≡ 0 → Shuts c st

-- Where the only check of a number answers, it applies and none above it does.
only_check : (n : ℕ) → n ≢ 0 → (above : List Check) (b : Bool) (below : List Check) → Each (λ m. m ≢ n) above
    → Each (λ m. m ≢ n) below → first_of (above ++ n when b ∷ below) ≡ n → None above × (b ≡ true)
only_check n some [] true below v w e = (tt, refl)
only_check n some [] false below v w e = absurd (first_each (λ m. m ≢ n) below (omega arith) w e)
only_check n some (m when true ∷ above) b below v w e = absurd (v.0 e)
only_check n some (m when false ∷ above) b below v w e =
    let z = only_check n some above b below v.1 w e in
    ((refl, z.0), z.1)

module _ (R : Rules) (st : State) (rest : List ℕ) where
  group_end_kept : (os : List Open) → Twice os → in_group os ≡ true → KeptCommand 0x12 (leave_group os st)
  unfolding leave_group
  group_end_kept [] z inner = absurd (false≢true inner)
  group_end_kept (a_group o ∷ os) z inner = record { twice = z; leaves = some_sibling (omega arith) }
  group_end_kept (a_repeat h w o ∷ os) z inner = absurd (false≢true inner)

  repeat_end_kept : (os : List Open) → Twice os → in_repeat os ≡ true → 0 < st.tally.siblings → KeptCommand 0x21 (leave_repeat os st)
  unfolding leave_repeat
  repeat_end_kept [] z inner some = absurd (false≢true inner)
  repeat_end_kept (a_group o ∷ os) z inner some = absurd (false≢true inner)
  repeat_end_kept (a_repeat h w o ∷ os) z inner some =
      record { twice = z.1; leaves = some_sibling (omega (arith, mul-le-mul_right st.tally.siblings z.0)) }

  kept : {c : ℕ} → Command c → Twice st.opens → refusal R st c rest ≡ 0 → KeptCommand c (advance R.prices c rest st)
  unfolding advance
  kept step_byte z e = record { twice = z; leaves = some_sibling (omega arith) }
  kept group_byte z e = record { twice = z; leaves = new_group refl refl }
  kept group_end_byte z e =
      group_end_kept st.opens z (group_end_passed R st rest e).inner
  kept (repeat_byte by_two) z e =
      record { twice = ((repeat_passed R st rest by_two e).twice, z); leaves = new_repeat refl refl }
  kept (repeat_byte by_one) z e =
      record { twice = ((repeat_passed R st rest by_one e).twice, z); leaves = new_repeat refl refl }
  kept repeat_end_byte z e =
      let y = repeat_end_passed R st rest e in
      repeat_end_kept st.opens z y.inner y.some
  kept (other_byte {c} u) z e = absurd (omega (arith, refusal_other R st rest c u))

  -- Where check 5 answers none of the five checks before it applies.
  fifth : (c : ℕ) → refusal R st c rest ≡ 5 → None (take 5 (checks R st c rest)) × (is_close c && eqb st.tally.siblings 0 ≡ true)
  unfolding refusal
  fifth c e = only_check 5 (omega arith) (take 5 (checks R st c rest)) _ (drop 6 (checks R st c rest)) (omega arith) (omega arith) e

  shut : {c : ℕ} → Command c → refusal R st c rest ≡ 5 → Shuts c st
  unfolding checks
  shut step_byte e = absurd (false≢true (fifth 0x10 e).1)
  shut group_byte e = absurd (false≢true (fifth 0x11 e).1)
  shut group_end_byte e =
      let z = fifth 0x12 e in
      shut_group refl (not-false _ (rw or-false at z.0.1.1.1.1.0)) (eqb-true _ _ z.1)
  shut (repeat_byte by_two) e = absurd (false≢true (fifth 0x20 e).1)
  shut (repeat_byte by_one) e = absurd (false≢true (fifth 0x22 e).1)
  shut repeat_end_byte e =
      let z = fifth 0x21 e in
      shut_repeat refl (not-false _ z.0.1.1.1.1.0) (eqb-true _ _ z.1)
  shut (other_byte {c} u) e = absurd (omega (arith, refusal_other R st rest c u))

  -- Check 5 answers at the close of what was just opened.
  empty_group : (s : List ℕ) → refusal R (advance R.prices 0x11 rest st) 0x12 s ≡ 5
  unfolding advance refusal
  empty_group s = rw (le-ltb (length s) 0 (omega arith))

  empty_repeat : {c : ℕ} (s : List ℕ) → Opens c → refusal R st c rest ≡ 0 → refusal R (advance R.prices c rest st) 0x21 s ≡ 5
  unfolding advance refusal
  empty_repeat s by_two e = rw ((repeat_passed R st rest by_two e).folds, le-ltb (length s) 0 (omega arith))
  empty_repeat s by_one e = rw ((repeat_passed R st rest by_one e).folds, le-ltb (length s) 0 (omega arith))

  close_five : (c d : ℕ) (s : List ℕ) → OneKind c d → refusal R st c rest ≡ 0 → refusal R (advance R.prices c rest st) d s ≡ 5
  close_five c d s (inl k) e = rw (k.0, k.1) (empty_group s)
  close_five c d s (inr k) e = rw k.1 (empty_repeat s (opens c k.0) e)

module _ (R : Rules) (s : List ℕ) where
  -- At every point that is reached the open repeats have counts of at least 2.
  reached_twice : {p : ℕ} {st : State} → Reached R s p st → Twice st.opens
  reached_twice at_start = tt
  reached_twice (passed {p} {st} r lt e) =
      (kept R st (drop (suc p) s) (command (get_or s p 0)) (reached_twice r) e).twice

  module _ (e : ℕ) where
    -- A close without a sibling comes after a command, and that command opened what it closes.
    opened : {p : ℕ} {st : State} → Reached R s p st → p ≡ e → p < length s → Shuts (get_or s p 0) st → CloseAfterOpen R s e
    opened at_start here lt (shut_group c inner none) = absurd (false≢true inner)
    opened at_start here lt (shut_repeat c inner none) = absurd (false≢true inner)
    opened (passed {p} {st} r below f) here lt y =
        by_kind (kept R st (drop (suc p) s) (command (get_or s p 0)) (reached_twice r) f).leaves y
      where
        found : OneKind (get_or s p 0) (get_or s e 0) → CloseAfterOpen R s e
        found k =
            record { at = p; state = st; reached = r; within = below; passes = f; next = here; there = omega arith; kind = k }

        by_kind : Leaves (get_or s p 0) (advance R.prices (get_or s p 0) (drop (suc p) s) st)
            → Shuts (get_or s (suc p + operands (get_or s p 0)) 0) (advance R.prices (get_or s p 0) (drop (suc p) s) st)
            → CloseAfterOpen R s e
        by_kind (new_group o out) (shut_group c inner none) = found (inl (o, rw here at c))
        by_kind (new_group o out) (shut_repeat c inner none) = absurd (false≢true (sym out ∙ inner))
        by_kind (new_repeat o out) (shut_group c inner none) = absurd (false≢true (sym out ∙ inner))
        by_kind (new_repeat o out) (shut_repeat c inner none) = found (inr (o, rw here at c))
        by_kind (some_sibling some) (shut_group c inner none) = absurd (omega arith)
        by_kind (some_sibling some) (shut_repeat c inner none) = absurd (omega arith)

    close_found : Because R s 5 e → CloseAfterOpen R s e
    close_found (at_command p st r lt f some place) =
        opened r (sym place) lt (shut R st (drop (suc p) s) (command (get_or s p 0)) f)
    close_found (left_open st r some five place) = absurd (omega arith)

    close_refused : CloseAfterOpen R s e → Because R s 5 e
    close_refused a =
        let r = passed a.reached a.within a.passes in
        at_command e _ (rw a.next at r) a.there
        (close_five R a.state (drop (suc a.at) s) (get_or s a.at 0) (get_or s e 0) (drop (suc e) s) a.kind a.passes)
        (omega arith) refl

  -- Bytes are refused with 5 exactly at a close right after its open.
  pub five_exactly : (e : ℕ) → (read R s ≡ refused 5 e) ↔ CloseAfterOpen R s e
  five_exactly e =
      (λ out. close_found e ((refused_exactly R s 5 e).0 out), λ a. (refused_exactly R s 5 e).1 (close_refused e a))
