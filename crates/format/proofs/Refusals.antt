-- What a refusal means: the first command that cannot be passed, refused by the first check of the table that applies to it,
-- or something left open at the end. What acceptance means: every command is passed and nothing is left open.
use mathlib.Core.Path.{◌≡◌, refl, sym, ◌∙◌}
use mathlib.Core.Bool.{true, false, and-false}
use mathlib.Core.List.{List, [], ◌∷◌, ◌++◌}
use mathlib.Core.Logic.{◌≢◌, ◌↔◌}
use Prim.Native.Nat.{ℕ, zero, suc, ◌+◌, ◌≤◌, ◌<◌}
use native.Mathlib.Decide.{dec_le}
use native.Mathlib.Omega.{arith}
use lib.Dec.{eqb}
use lib.ListN.{length, get_or, drop, length-drop}
use lib.Seq.{drop-cons, drop-drop, drop-length}
use borrow.Author.Tests.{eq-eqb}
use Rattle.format.specs.Machine.{Rules, State, Open, Check, ◌when◌, first_of, checks, refusal, scan_by, scan, read, start, advance, operands, place_of, at_end, Outcome, refused, accepted}
use Rattle.format.specs.declared.tally.Tally.{Tally}
use Rattle.format.specs.Reasons.{None, numbers, holds_check, First, Reached, at_start, passed, Because, at_command, left_open, Finished}
use Rattle.format.proofs.Machine.{scan_end, by_past, scan_refuse, operands_there}

first_found : (rs : List Check) (n : ℕ) → n ≢ 0 → first_of rs ≡ n → First rs n
first_found [] n some e = absurd (some (sym e))
first_found (m when true ∷ rs) n some e = record { above = []; below = rs; split = rw e; none_above = tt }
first_found (m when false ∷ rs) n some e =
    let f = first_found rs n some e in
    record { above = m when false ∷ f.above; below = f.below; split = cc f.split; none_above = (refl, f.none_above) }

found_first : (rs : List Check) (n : ℕ) → First rs n → first_of rs ≡ n
found_first rs n f = rw f.split (go f.above f.none_above)
  where
    go : (above : List Check) → None above → first_of (above ++ n when true ∷ f.below) ≡ n
    go [] z = refl
    go (m when b ∷ above) z = rw z.0 (go above z.1)

-- Of checks, the first that applies answers.
pub first_exactly : (rs : List Check) (n : ℕ) → n ≢ 0 → (first_of rs ≡ n) ↔ First rs n
first_exactly rs n some = (first_found rs n some, found_first rs n)

-- Where none applies, 0 is answered.
pub none_first : (rs : List Check) → None rs → first_of rs ≡ 0
none_first [] z = refl
none_first (m when b ∷ rs) z = rw z.0 (none_first rs z.1)

-- A number that is said is that of a check that holds; where none applies, none holds.
pub said_holds : (n : ℕ) → n ≢ 0 → (rs : List Check) → first_of rs ≡ n → holds_check n rs ≡ true
unfolding holds_check
said_holds n some [] e = absurd (some (sym e))
said_holds n some (m when true ∷ rs) e = rw (eq-eqb m n e)
said_holds n some (m when false ∷ rs) e = rw (and-false (eqb m n)) (said_holds n some rs e)

pub none_holds : (n : ℕ) (rs : List Check) → None rs → holds_check n rs ≡ false
unfolding holds_check
none_holds n [] z = refl
none_holds n (m when b ∷ rs) z = rw (z.0, and-false (eqb m n)) (none_holds n rs z.1)

-- A command is refused by the first check of the table that applies to it.
pub refusal_exactly : (R : Rules) (st : State) (c : ℕ) (rest : List ℕ) (n : ℕ) → n ≢ 0
    → (refusal R st c rest ≡ n) ↔ First (checks R st c rest) n
unfolding refusal
refusal_exactly R st c rest n some = first_exactly (checks R st c rest) n some

-- THE ORDER OF THE CHECKS at a command.
pub order_of_checks : (R : Rules) (st : State) (c : ℕ) (rest : List ℕ)
    → numbers (checks R st c rest) ≡ 1 ∷ 2 ∷ 21 ∷ 3 ∷ 4 ∷ 5 ∷ 6 ∷ 7 ∷ 20 ∷ 8 ∷ 19 ∷ 10 ∷ 9 ∷ []
unfolding numbers checks
order_of_checks R st c rest = refl

-- What holds of 0 and of every check's number holds of the first that applies.
abbrev pub Each : (ℕ → Type 0) → List Check → Type 0
Each Q [] = Unit
Each Q (n when b ∷ rs) = Q n × Each Q rs

pub first_each : (Q : ℕ → Type 0) (rs : List Check) → Q 0 → Each Q rs → Q (first_of rs)
first_each Q [] z q = z
first_each Q (n when true ∷ rs) z q = q.0
first_each Q (n when false ∷ rs) z q = first_each Q rs z q.1

-- Where one applies, 0 need not be asked.
pub found_each : (Q : ℕ → Type 0) (rs : List Check) (n : ℕ) → n ≢ 0 → first_of rs ≡ n → Each Q rs → Q n
found_each Q [] n some e q = absurd (some (sym e))
found_each Q (m when true ∷ rs) n some e q = rw e at q.0
found_each Q (m when false ∷ rs) n some e q = found_each Q rs n some e q.1

-- The numbers of the table are 1 to 10, and above these 19, 20 and 21 alone.
abbrev pub Numbered : ℕ → Type 0
Numbered n = 10 < n → (19 ≤ n) × (n ≤ 21)

refusal_numbered : (R : Rules) (st : State) (c : ℕ) (rest : List ℕ) → Numbered (refusal R st c rest)
unfolding refusal checks
refusal_numbered R st c rest = first_each Numbered (checks R st c rest) (omega arith) (omega arith, omega arith)

pub open_end : (p : ℕ) (os : List Open) (st : State) → 0 < length os → at_end p os st ≡ refused 3 p
open_end p [] st some = absurd (omega arith)
open_end p (o ∷ os) st some = refl

module _ (R : Rules) (s : List ℕ) where
  -- Where a command stands, the bytes from it on are it and what follows.
  at_offset : (p : ℕ) (st : State) → p < length s → scan R p 0 st (drop p s) ≡ scan R p 0 st (get_or s p 0 ∷ drop (suc p) s)
  at_offset p st lt = rw (drop-cons s p 0 lt)

  -- The reading goes on from every point that is reached, also by other checks that pass what these pass.
  module _ (refuse : State → ℕ → List ℕ → ℕ) (passes : (st : State) (c : ℕ) (rest : List ℕ) → refusal R st c rest ≡ 0 → refuse st c rest ≡ 0) where
    pub reached_by : {p : ℕ} {st : State} → Reached R s p st
        → (p ≤ length s) × (scan_by refuse R.prices 0 0 start s ≡ scan_by refuse R.prices p 0 st (drop p s))
    reached_by at_start = (omega arith, refl)
    reached_by (passed {p} {st} r lt e) =
        let i = reached_by r in
        let c : ℕ = get_or s p 0 in
        let there = operands_there R st (drop (suc p) s) c e in (
          omega (arith, there, length-drop (suc p) s),
          i.1 ∙ rw (drop-cons s p 0 lt) (by_past refuse R.prices p st c (drop (suc p) s) (passes st c (drop (suc p) s) e) there ∙ rw drop-drop),
        )

  reached_read : {p : ℕ} {st : State} → Reached R s p st → (p ≤ length s) × (read R s ≡ scan R p 0 st (drop p s))
  unfolding read
  reached_read = reached_by (refusal R) (λ st c rest e. e)

  pub place : (p : ℕ) → p < length s → p + suc (length (drop (suc p) s)) ≡ length s
  place p lt = omega (arith, length-drop (suc p) s)

  at_last : {st : State} → Reached R s (length s) st → read R s ≡ at_end (length s) st.opens st
  at_last {st} r = (reached_read r).1 ∙ rw drop-length (scan_end R (length s) st)

  because_refused : (n e : ℕ) → Because R s n e → read R s ≡ refused n e
  because_refused n e (at_command p st r lt f some w) =
      (reached_read r).1
      ∙ at_offset p st lt
      ∙ scan_refuse R p st (get_or s p 0) (drop (suc p) s) n some f
      ∙ cc (place p lt)
  because_refused n e (left_open st r some m w) = at_last r ∙ open_end (length s) st.opens st some ∙ rw (m, w)

  finished_accepted : (t : Tally) (x : List ℕ) → Finished R s t x → read R s ≡ accepted t x
  finished_accepted t x f = at_last f.reached ∙ rw (f.closed, f.counts, f.unrolled)

  -- Every reading ends in one of the two ways.
  abbrev Ends : Outcome → Type 0
  Ends (refused n e) = Because R s n e
  Ends (accepted t x) = Finished R s t x

  ended : (p : ℕ) (st : State) → Reached R s p st → p ≡ length s → Ends (read R s)
  ended p st r last = go st.opens refl (rw last at r)
    where
      go : (os : List Open) → st.opens ≡ os → Reached R s (length s) st → Ends (read R s)
      go [] top r =
          let f : Finished R s st.tally st.text =
          record { state = st; reached = r; closed = top; counts = refl; unrolled = refl } in
          rw (finished_accepted st.tally st.text f) f
      go (o ∷ os) top r =
          let b : Because R s 3 (length s) = left_open st r (rw top (omega arith)) refl refl in
          rw (because_refused 3 (length s) b) b

  -- From a point that is reached, with at most m bytes to go.
  abbrev Finds : ℕ → Type 0
  Finds m = (p : ℕ) (st : State) → Reached R s p st → length s ≤ p + m → Ends (read R s)

  grow : (m : ℕ) → Finds m → Finds (suc m)
  grow m ih p st r short = go (dec_le (suc p) (length s))
    where
      at : (k : ℕ) → p < length s → refusal R st (get_or s p 0) (drop (suc p) s) ≡ k → Ends (read R s)
      at zero lt f =
          ih (suc p + operands (get_or s p 0)) (advance R.prices (get_or s p 0) (drop (suc p) s) st) (passed r lt f)
          (omega arith)
      at (suc k) lt f =
          let w : ℕ = place_of (suc k) p (length s) in
          let b : Because R s (suc k) w = at_command p st r lt f (omega arith) refl in
          rw (because_refused (suc k) w b) b

      go : Dec (p < length s) → Ends (read R s)
      go (yes lt) = at (refusal R st (get_or s p 0) (drop (suc p) s)) lt refl
      go (no h) = ended p st r (omega (arith, (reached_read r).0))

  find : (m : ℕ) → Finds m
  find zero p st r short = ended p st r (omega (arith, (reached_read r).0))
  find (suc m) p st r short = grow m (λ p st r short. find m p st r short) p st r short

  ends : Ends (read R s)
  ends = find (length s) 0 start at_start (omega arith)

  -- Bytes are refused exactly for such a reason.
  pub refused_exactly : (n e : ℕ) → (read R s ≡ refused n e) ↔ Because R s n e
  refused_exactly n e = (λ out. rw out at ends, because_refused n e)

  -- They are accepted exactly where every command is passed and nothing is left open.
  pub accepted_exactly : (t : Tally) (x : List ℕ) → (read R s ≡ accepted t x) ↔ Finished R s t x
  accepted_exactly t x = (λ out. rw out at ends, finished_accepted t x)

-- A refusal has a number.
pub refused_some : (R : Rules) (s : List ℕ) (n e : ℕ) → read R s ≡ refused n e → n ≢ 0
refused_some R s n e r = of_cause ((refused_exactly R s n e).0 r)
  where
    of_cause : Because R s n e → n ≢ 0
    of_cause (at_command p st reached below is some place) = some
    of_cause (left_open st reached some three place) = omega arith

-- It is one of the table's.
pub refused_numbered : (R : Rules) (s : List ℕ) (n e : ℕ) → read R s ≡ refused n e → Numbered n
refused_numbered R s n e r = of_cause ((refused_exactly R s n e).0 r)
  where
    of_cause : Because R s n e → Numbered n
    of_cause (at_command p st reached below is some place) = rw is at (refusal_numbered R st (get_or s p 0) (drop (suc p) s))
    of_cause (left_open st reached some three place) = omega arith
