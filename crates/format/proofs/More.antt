-- What more input changes: a refusal other than 3 stays, whatever follows. Of runs, 3,077 bytes or more are refused so, since
-- the node limit bounds the offsets that are reached.
use mathlib.Core.Path.{◌≡◌, refl, sym, ◌∙◌}
use mathlib.Core.Bool.{Bool, true, false, false≢true, not, ◌&&◌, ◌||◌}
use mathlib.Core.List.{List, [], ◌∷◌, ◌++◌}
use mathlib.Core.Logic.{◌≢◌}
use Prim.Native.Nat.{ℕ, zero, suc, ◌+◌, ◌*◌, ◌≤◌, ◌<◌}
use native.Mathlib.Omega.{arith}
use lib.Dec.{ltb, eqb}
use lib.ListN.{length, get_or, take, drop, length-append, length-drop, get_or-append}
use borrow.Author.Tests.{le-ltb, ltb-false, ne_eqb}
use Rattle.format.specs.Limits.{limits, Prices}
use Rattle.format.specs.Machine.{Rules, State, checks, Open, a_group, a_repeat, Outcome, refused, accepted, refusal, scan, read, start, advance, opens_repeat, is_known, operands, open_groups, in_group, leave_group, place_of, at_end}
use Rattle.format.specs.Readings.{free, run_rules}
use Rattle.format.specs.declared.tally.Tally.{Tally}
use Rattle.format.specs.Reasons.{Reached, at_start, passed, Because, at_command, left_open}
use Rattle.format.proofs.Machine.{by_two, by_one, Command, step_byte, group_byte, group_end_byte, repeat_byte, repeat_end_byte, other_byte, command, operands_few, refusal_other, step_passed, group_passed, group_end_passed, operands_there, scan_pass, scan_refuse}
use Rattle.format.proofs.Refusals.{first_each, refused_exactly, accepted_exactly}

-- What the first of two lists has is not changed by the second.
module _ (x y : List ℕ) where
  enough : (k : ℕ) → k ≤ length x → ltb (length (x ++ y)) k ≡ ltb (length x) k
  enough k h = rw (le-ltb (length x) k h) (le-ltb (length (x ++ y)) k (simp length-append (omega arith)))

  byte : (i : ℕ) → i < length x → get_or (x ++ y) i 0 ≡ get_or x i 0
  byte i h = get_or-append x y 0 i h

-- A command that is not refused with 3 meets the same checks whatever follows, since they look at its operands only.
module _ (R : Rules) (st : State) (x y : List ℕ) where
  with_operands : {c : ℕ} → Command c → operands c ≤ length x → refusal R st c (x ++ y) ≡ refusal R st c x
  unfolding refusal
  with_operands step_byte h = rw (enough x y 1 h, byte x y 0 (omega arith))
  with_operands group_byte h = rw (enough x y 1 h, byte x y 0 (omega arith))
  with_operands group_end_byte h = rw (enough x y 0 h)
  with_operands (repeat_byte by_two) h =
      rw (enough x y 4 h, byte x y 0 (omega arith), byte x y 1 (omega arith), byte x y 2 (omega arith), byte x y 3 (omega arith))
  with_operands (repeat_byte by_one) h = rw (enough x y 2 h, byte x y 0 (omega arith), byte x y 1 (omega arith))
  with_operands repeat_end_byte h = rw (enough x y 0 h)
  with_operands (other_byte {c} e) h = refusal_other R st (x ++ y) c e ∙ sym (refusal_other R st x c e)

  same_refusal : (c : ℕ) → refusal R st c x ≢ 3 → refusal R st c (x ++ y) ≡ refusal R st c x
  unfolding refusal
  same_refusal c not3 = go _ _ _ _ refl refl refl refl
    where
      go : (unknown banned grouped missing : Bool) → not (is_known R.short c) ≡ unknown
          → ((opens_repeat c || eqb c 0x21) && not R.folds) ≡ banned → (eqb c 0x11 && eqb R.limits.groups 0) ≡ grouped
          → ltb (length x) (operands c) ≡ missing → refusal R st c (x ++ y) ≡ refusal R st c x
      go true banned grouped missing p q g r = rw p
      go false true grouped missing p q g r = rw (p, q)
      go false false true missing p q g r = rw (p, q, g)
      go false false false true p q g r = absurd (not3 (rw (p, q, g, r)))
      go false false false false p q g r = with_operands (command c) (ltb-false _ _ r)

  same_advance : {c : ℕ} (P : Prices) → Command c → refusal R st c x ≡ 0 → operands c ≤ length x
      → advance P c (x ++ y) st ≡ advance P c x st
  unfolding advance
  same_advance P step_byte e h = rw (byte x y 0 (omega arith))
  same_advance P group_byte e h = rw (byte x y 0 (omega arith))
  same_advance P group_end_byte e h = refl
  same_advance P (repeat_byte by_two) e h =
      rw (byte x y 0 (omega arith), byte x y 1 (omega arith), byte x y 2 (omega arith), byte x y 3 (omega arith))
  same_advance P (repeat_byte by_one) e h = rw (byte x y 0 (omega arith), byte x y 1 (omega arith))
  same_advance P repeat_end_byte e h = refl
  same_advance P (other_byte {c} f) e h = absurd (omega (arith, refusal_other R st x c f))

-- A refusal other than 3 stays, whatever follows.
module _ (R : Rules) (y : List ℕ) (n e : ℕ) (not3 : n ≢ 3) where
  not_at_end : (p : ℕ) (os : List Open) (st : State) → at_end p os st ≢ refused n e
  not_at_end p [] st out = let z : ◌≡◌ {A = ℕ} 0 1 = cc in omega arith
  not_at_end p (o ∷ os) st out = not3 (cc)

  -- From every point the scan of x keeps it.
  abbrev Stays : List ℕ → Type 0
  Stays x = (p k : ℕ) (st : State) → scan R p k st x ≡ refused n e → scan R p k st (x ++ y) ≡ refused n e

  command_stays : (c : ℕ) (x : List ℕ) → Stays x → (p : ℕ) (st : State) → scan R p 0 st (c ∷ x) ≡ refused n e
      → scan R p 0 st (c ∷ x ++ y) ≡ refused n e
  command_stays c x ih p st out = go (refusal R st c x) refl
    where
      go : (m : ℕ) → refusal R st c x ≡ m → scan R p 0 st (c ∷ x ++ y) ≡ refused n e
      go zero f =
          let g : refusal R st c (x ++ y) ≡ 0 = same_refusal R st x y c (omega arith) ∙ f in
          let there : operands c ≤ length x = operands_there R st x c f in
          scan_pass R p st c (x ++ y) g
          ∙ rw (same_advance R st x y R.prices (command c) f there)
          (ih (suc p) (operands c) (advance R.prices c x st) (sym (scan_pass R p st c x f) ∙ out))
      go (suc m) f =
          let g : refused (suc m) (place_of (suc m) p (p + suc (length x))) ≡ refused n e =
          sym (scan_refuse R p st c x (suc m) (omega arith) f) ∙ out in
          let same : suc m ≡ n = cc in
          let other : eqb (suc m) 3 ≡ false = ne_eqb (suc m) 3 (omega arith) in
          scan_refuse R p st c (x ++ y) (suc m) (omega arith) (same_refusal R st x y c (omega arith) ∙ f)
          ∙ rw other (rw other at g)

  scan_stays : (x : List ℕ) → Stays x
  unfolding scan
  scan_stays [] p k st out = absurd (not_at_end p st.opens st out)
  scan_stays (c ∷ x) p zero st out = command_stays c x (λ p k st out. scan_stays x p k st out) p st out
  scan_stays (c ∷ x) p (suc k) st out = scan_stays x (suc p) k st out

pub refused_stays : (R : Rules) (x : List ℕ) (n e : ℕ) → read R x ≡ refused n e → n ≢ 3 → (y : List ℕ)
    → read R (x ++ y) ≡ refused n e
unfolding read
refused_stays R x n e out not3 y = scan_stays R y n e not3 x 0 0 start out

-- In a run a node takes two bytes, and a group one more when it is closed: the nodes bound the offset.
record Bounded (p : ℕ) (st : State) : Type 0 where
  offset : p + open_groups st.opens ≤ 3 * st.tally.nodes
  total : st.tally.nodes ≤ limits.nodes

module _ (p : ℕ) (st : State) (b : Bounded p st) where
  bounded_end : (os : List Open) → st.opens ≡ os → in_group os ≡ true → Bounded (suc p + operands 0x12) (leave_group os st)
  unfolding leave_group
  bounded_end [] top inner = absurd (false≢true inner)
  bounded_end (a_group o ∷ os) top inner = let h = rw top at b.offset in omega arith
  bounded_end (a_repeat h w o ∷ os) top inner = absurd (false≢true inner)

  bounded_command : {c : ℕ} → Command c → (rest : List ℕ) → refusal run_rules st c rest ≡ 0
      → Bounded (suc p + operands c) (advance free c rest st)
  unfolding advance refusal
  bounded_command step_byte rest e = let z = step_passed run_rules st rest e in omega arith
  bounded_command group_byte rest e = let z = group_passed run_rules st rest e in omega arith
  bounded_command group_end_byte rest e =
      bounded_end st.opens refl (group_end_passed run_rules st rest e).inner
  bounded_command (repeat_byte by_two) rest e = absurd (omega arith)
  bounded_command (repeat_byte by_one) rest e = absurd (omega arith)
  bounded_command repeat_end_byte rest e = absurd (omega arith)
  bounded_command (other_byte {c} f) rest e = absurd (omega (arith, refusal_other run_rules st rest c f))

bounded : {s : List ℕ} {p : ℕ} {st : State} → Reached run_rules s p st → Bounded p st
bounded at_start = omega arith
bounded {s} (passed {p} {st} r lt e) = bounded_command p st (bounded r) (command (get_or s p 0)) (drop (suc p) s) e

-- No offset of a run beyond three bytes a node is reached.
pub reached_below : {s : List ℕ} {p : ℕ} {st : State} → Reached run_rules s p st → p ≤ 3 * limits.nodes
reached_below r = let b = bounded r in omega arith

-- A run that is accepted has at most that many bytes.
pub accepted_short : (s : List ℕ) (t : Tally) (x : List ℕ) → read run_rules s ≡ accepted t x → length s ≤ 3 * limits.nodes
accepted_short s t x out = reached_below ((accepted_exactly run_rules s t x).0 out).reached

-- A command whose operands are there is not refused with 3.
not_missing : (R : Rules) (st : State) (c : ℕ) (rest : List ℕ) → operands c ≤ length rest → refusal R st c rest ≢ 3
unfolding refusal
not_missing R st c rest h e =
    let rs = checks R st c rest in
    first_each (λ n. n ≢ 3) (take 3 rs ++ drop 4 rs) (omega arith) (omega arith) (rw (le-ltb _ _ h) at e)

-- A run that is refused whatever follows it.
pub record SettledRefusal (s : List ℕ) : Type 0 where
  pub number : ℕ
  pub place : ℕ
  pub reading : read run_rules s ≡ refused number place
  pub not_three : number ≢ 3

-- 3,072 bytes, a command and its operands settle a run.
module _ (s : List ℕ) (long : 3077 ≤ length s) where
  all_there : (e : ℕ) → Because run_rules s 3 e → ⊥
  all_there e (at_command p st r lt f some w) =
      let c = get_or s p 0 in
      let few : operands c ≤ 4 = operands_few c in
      let below = reached_below r in
      not_missing run_rules st c (drop (suc p) s) (simp length-drop (omega arith)) f
  all_there e (left_open st r some m w) = let below = reached_below r in omega arith

  pub long_settled : SettledRefusal s
  long_settled = go (read run_rules s) refl
    where
      go : (o : Outcome) → read run_rules s ≡ o → SettledRefusal s
      go (refused n e) out =
          let other : n ≢ 3 = λ three. all_there e ((refused_exactly run_rules s 3 e).0 (rw three at out)) in
          record { number = n; place = e; reading = out; not_three = other }
      go (accepted t x) out = absurd (omega (arith, accepted_short s t x out))
