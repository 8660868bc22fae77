-- Laws of the machine, one command at a time: each command's own short table, when it is passed, and what a passed command,
-- a refused one and the end do to the scan.
use mathlib.Core.Path.{◌≡◌, refl, sym, ◌∙◌}
use mathlib.Core.Bool.{Bool, true, false, true≢false, not, cond, or-false, ◌&&◌, ◌||◌}
use mathlib.Core.List.{List, [], ◌∷◌, ◌++◌}
use mathlib.Core.Logic.{◌≢◌}
use Prim.Native.Nat.{ℕ, zero, suc, ◌+◌, ◌*◌, ◌≤◌, ◌<◌}
use native.Mathlib.Omega.{arith}
use lib.Dec.{ltb, leb, eqb}
use lib.ListN.{length, drop, length-append}
use lib.Seq.{drop-append_seam}
use borrow.Author.Tests.{le-ltb, eq-eqb, ne_eqb, ltb-false, eqb-true, eqb-false, leb-false, lt-leb, not-false}
use Rattle.format.specs.Machine.{Rules, State, Check, ◌when◌, first_of, checks, refusal, scan_by, scan, advance, operands, label_operand, count_operand, width_operand, is_node, is_close, opens_repeat, is_known, place_of, unless, at_end, open_groups, open_repeats, in_group, in_repeat, claimed, total_of, node_total, refused, accepted, put_step, enter_group, leave_group, enter_repeat, leave_repeat}
use Rattle.format.specs.Limits.{Prices, in_one_byte}
use Rattle.format.specs.Reasons.{None}
use Rattle.format.specs.declared.tally.Tally.{Tally}

-- Checks whose numbers are not 0.
abbrev pub Positive : List Check → Type 0
Positive [] = Unit
Positive (n when b ∷ rs) = (0 < n) × Positive rs

pub first_none : (rs : List Check) → Positive rs → first_of rs ≡ 0 → None rs
first_none [] m e = tt
first_none (n when true ∷ rs) m e = absurd (omega arith)
first_none (n when false ∷ rs) m e = (refl, first_none rs m.1 e)

-- The checks that can apply to each command, in the table's order. A command that adds no node is never refused with 10 where
-- the total was within the limit before it.
module _ (R : Rules) (st : State) (rest : List ℕ) where
  abbrev pub step_checks : List Check
  step_checks =
      3 when ltb (length rest) 1
      ∷ 19 when (R.allowed.marked (label_operand rest) && ltb 0 (open_repeats st.opens))
      ∷ 10 when ltb R.limits.nodes (st.tally.nodes + 1)
      ∷ []

  abbrev pub group_checks : List Check
  group_checks =
      21 when eqb R.limits.groups 0
      ∷ 3 when ltb (length rest) 1
      ∷ 8 when leb R.limits.groups (open_groups st.opens)
      ∷ 19 when (R.allowed.marked (label_operand rest) && ltb 0 (open_repeats st.opens))
      ∷ 10 when ltb R.limits.nodes (st.tally.nodes + 1)
      ∷ []

  abbrev pub repeat_checks : (command : ℕ) → List Check
  repeat_checks c =
      1 when not (is_known R.short c)
      ∷ 2 when not R.folds
      ∷ 3 when ltb (length rest) (operands c)
      ∷ 6 when ltb (count_operand c rest) 2
      ∷ 7 when ltb R.allowed.widest (width_operand c rest)
      ∷ 20 when (eqb c 0x20 && (R.short && in_one_byte (count_operand c rest) (width_operand c rest)))
      ∷ 8 when leb R.limits.repeats (open_repeats st.opens)
      ∷ []

abbrev pub group_end_checks : State → List Check
group_end_checks st = 4 when not (in_group st.opens) ∷ 5 when eqb st.tally.siblings 0 ∷ []

abbrev pub repeat_end_checks : Rules → State → List Check
repeat_end_checks R st =
    2 when not R.folds
    ∷ 4 when not (in_repeat st.opens)
    ∷ 5 when eqb st.tally.siblings 0
    ∷ 10 when ltb R.limits.nodes (total_of st.opens st.tally.nodes)
    ∷ 9 when not (eqb st.tally.siblings (claimed st.opens))
    ∷ []

-- No command has more than four operand bytes.
pub operands_few : (c : ℕ) → operands c ≤ 4
operands_few c = few (is_node c) (eqb c 0x20) (eqb c 0x22)
  where
    few : (node two one : Bool) → cond node 1 (cond two 4 (cond one 2 0)) ≤ 4
    few true two one = omega arith
    few false true one = omega arith
    few false false true = omega arith
    few false false false = omega arith

-- The commands that open a repeat: `20` with operands of two bytes, `22` with operands of one.
pub data Opens : ℕ → Type 0 where
  by_two : Opens 0x20
  by_one : Opens 0x22

pub opens : (c : ℕ) → opens_repeat c ≡ true → Opens c
opens c e = go (eqb c 0x20) (eqb c 0x22) (eqb-true c 0x20) (eqb-true c 0x22) e
  where
    go : (p q : Bool) → (p ≡ true → c ≡ 0x20) → (q ≡ true → c ≡ 0x22) → (p || q) ≡ true → Opens c
    go true q h k e = rw (h refl) by_two
    go false q h k e = rw (k e) by_one

-- A byte that is a command in neither family is unknown in each.
other_unknown : (short : Bool) (c : ℕ) → is_known true c ≡ false → is_known short c ≡ false
other_unknown true c e = e
other_unknown false c e = neither (is_node c) (is_close c) (eqb c 0x20) (eqb c 0x22) e
  where
    neither : (a b d u : Bool) → (a || b || (d || u)) ≡ false → (a || b || (d || false)) ≡ false
    neither false false false u e = refl
    neither true b d u e = absurd (true≢false e)
    neither false true d u e = absurd (true≢false e)
    neither false false true u e = absurd (true≢false e)

module _ (R : Rules) (st : State) (rest : List ℕ) where
  pub refusal_step : refusal R st 0x10 rest ≡ first_of (step_checks R st rest)
  unfolding refusal
  refusal_step = refl

  pub refusal_group : refusal R st 0x11 rest ≡ first_of (group_checks R st rest)
  unfolding refusal
  refusal_group = rw or-false

  pub refusal_group_end : st.tally.nodes ≤ R.limits.nodes → refusal R st 0x12 rest ≡ first_of (group_end_checks st)
  unfolding refusal
  refusal_group_end h =
      rw (le-ltb (length rest) 0 (omega arith), le-ltb R.limits.nodes st.tally.nodes h, or-false)

  pub refusal_repeat : {c : ℕ} → Opens c → st.tally.nodes ≤ R.limits.nodes
      → refusal R st c rest ≡ first_of (repeat_checks R st rest c)
  unfolding refusal
  refusal_repeat by_two h = rw (le-ltb R.limits.nodes st.tally.nodes h)
  refusal_repeat by_one h = rw (le-ltb R.limits.nodes st.tally.nodes h)

  pub refusal_repeat_end : refusal R st 0x21 rest ≡ first_of (repeat_end_checks R st)
  unfolding refusal
  refusal_repeat_end = rw (le-ltb (length rest) 0 (omega arith))

  pub refusal_unknown : (c : ℕ) → is_known R.short c ≡ false → refusal R st c rest ≡ 1
  unfolding refusal
  refusal_unknown c e = rw e

  pub refusal_other : (c : ℕ) → is_known true c ≡ false → refusal R st c rest ≡ 1
  refusal_other c e = refusal_unknown c (other_unknown R.short c e)

  -- A passed command has its operands.
  pub operands_there : (c : ℕ) → refusal R st c rest ≡ 0 → operands c ≤ length rest
  unfolding refusal
  operands_there c e = ltb-false _ _ (first_none (checks R st c rest) (omega arith) e).1.1.1.0

  -- And the node total that it makes is within the limit.
  pub total_within : (c : ℕ) → refusal R st c rest ≡ 0 → node_total c st.opens st.tally.nodes ≤ R.limits.nodes
  unfolding refusal
  total_within c e = ltb-false _ _ (first_none (checks R st c rest) (omega arith) e).1.1.1.1.1.1.1.1.1.1.1.0

-- When each command is passed.
pub record StepPasses (R : Rules) (st : State) (rest : List ℕ) : Type 0 where
  pub operand : 1 ≤ length rest
  pub unmarked : 0 < open_repeats st.opens → R.allowed.marked (label_operand rest) ≡ false
  pub total : st.tally.nodes + 1 ≤ R.limits.nodes

pub record GroupPasses (R : Rules) (st : State) (rest : List ℕ) : Type 0 where
  pub operand : 1 ≤ length rest
  pub room : open_groups st.opens < R.limits.groups
  pub unmarked : 0 < open_repeats st.opens → R.allowed.marked (label_operand rest) ≡ false
  pub total : st.tally.nodes + 1 ≤ R.limits.nodes

pub record GroupEndPasses (st : State) : Type 0 where
  pub inner : in_group st.opens ≡ true
  pub some : 0 < st.tally.siblings

pub record RepeatPasses (R : Rules) (st : State) (c : ℕ) (rest : List ℕ) : Type 0 where
  pub known : is_known R.short c ≡ true
  pub folds : R.folds ≡ true
  pub operand : operands c ≤ length rest
  pub twice : 2 ≤ count_operand c rest
  pub narrow : width_operand c rest ≤ R.allowed.widest
  pub fitting : (eqb c 0x20 && (R.short && in_one_byte (count_operand c rest) (width_operand c rest))) ≡ false
  pub room : open_repeats st.opens < R.limits.repeats

pub record RepeatEndPasses (R : Rules) (st : State) : Type 0 where
  pub folds : R.folds ≡ true
  pub inner : in_repeat st.opens ≡ true
  pub some : 0 < st.tally.siblings
  pub total : total_of st.opens st.tally.nodes ≤ R.limits.nodes
  pub true_width : st.tally.siblings ≡ claimed st.opens

not_zero : (n : ℕ) → eqb n 0 ≡ false → 0 < n
not_zero n e = let h : ¬ (n ≡ 0) = eqb-false n 0 e in omega arith

zero_not : (n : ℕ) → 0 < n → eqb n 0 ≡ false
zero_not n h = ne_eqb n 0 (omega arith)

-- A label inside a repeat is not marked: the check of 19, either way.
unmarked_inside : (b : Bool) (n : ℕ) → (b && ltb 0 n) ≡ false → 0 < n → b ≡ false
unmarked_inside true n e some = absurd (omega (arith, ltb-false 0 n e))
unmarked_inside false n e some = refl

inside_unmarked : (b : Bool) (n : ℕ) → (0 < n → b ≡ false) → (b && ltb 0 n) ≡ false
inside_unmarked false n h = refl
inside_unmarked true n h = le-ltb 0 n (none n h)
  where
    none : (k : ℕ) → (0 < k → true ≡ false) → k ≤ 0
    none zero i = omega arith
    none (suc k) i = absurd (true≢false (i (omega arith)))

module _ (R : Rules) (st : State) (rest : List ℕ) where
  pub step_passed : refusal R st 0x10 rest ≡ 0 → StepPasses R st rest
  step_passed e =
      let z = first_none (step_checks R st rest) (omega arith) (sym (refusal_step R st rest) ∙ e) in
      record { operand = ltb-false _ _ z.0; unmarked = unmarked_inside _ _ z.1.0; total = ltb-false _ _ z.1.1.0 }

  pub step_passes : StepPasses R st rest → refusal R st 0x10 rest ≡ 0
  step_passes h = refusal_step R st rest ∙ rw (le-ltb _ _ h.operand, inside_unmarked _ _ h.unmarked, le-ltb _ _ h.total)

  pub group_passed : refusal R st 0x11 rest ≡ 0 → GroupPasses R st rest
  group_passed e =
      let z = first_none (group_checks R st rest) (omega arith) (sym (refusal_group R st rest) ∙ e) in
      record {
        operand = ltb-false _ _ z.1.0;
        room = leb-false _ _ z.1.1.0;
        unmarked = unmarked_inside _ _ z.1.1.1.0;
        total = ltb-false _ _ z.1.1.1.1.0;
      }

  pub group_passes : GroupPasses R st rest → refusal R st 0x11 rest ≡ 0
  group_passes h =
      let some : 0 < R.limits.groups = omega (arith, h.room) in
      refusal_group R st rest
      ∙ rw (zero_not _ some, le-ltb _ _ h.operand, lt-leb _ _ h.room, inside_unmarked _ _ h.unmarked, le-ltb _ _ h.total)

  pub repeat_end_passed : refusal R st 0x21 rest ≡ 0 → RepeatEndPasses R st
  repeat_end_passed e =
      let z = first_none (repeat_end_checks R st) (omega arith) (sym (refusal_repeat_end R st rest) ∙ e) in
      let y = z.1.1 in
      record {
        folds = not-false _ z.0;
        inner = not-false _ z.1.0;
        some = not_zero _ y.0;
        total = ltb-false _ _ y.1.0;
        true_width = eqb-true _ _ (not-false _ y.1.1.0);
      }

  pub repeat_end_passes : RepeatEndPasses R st → refusal R st 0x21 rest ≡ 0
  repeat_end_passes h =
      refusal_repeat_end R st rest
      ∙ rw (h.folds, h.inner, zero_not _ h.some, le-ltb _ _ h.total, eq-eqb _ _ h.true_width)

  pub group_end_passed : refusal R st 0x12 rest ≡ 0 → GroupEndPasses st
  group_end_passed e =
      let z = first_none (group_end_checks st) (omega arith) (sym (refusal_group_end R st rest (total_within R st rest 0x12 e)) ∙ e) in
      record { inner = not-false _ z.0; some = not_zero _ z.1.0 }

  opened_within : {c : ℕ} → Opens c → refusal R st c rest ≡ 0 → st.tally.nodes ≤ R.limits.nodes
  opened_within by_two e = total_within R st rest 0x20 e
  opened_within by_one e = total_within R st rest 0x22 e

  pub repeat_passed : {c : ℕ} → Opens c → refusal R st c rest ≡ 0 → RepeatPasses R st c rest
  repeat_passed {c} o e =
      let z = first_none (repeat_checks R st rest c) (omega arith) (sym (refusal_repeat R st rest o (opened_within o e)) ∙ e) in
      let y = z.1.1 in
      record {
        known = not-false _ z.0;
        folds = not-false _ z.1.0;
        operand = ltb-false _ _ y.0;
        twice = ltb-false _ _ y.1.0;
        narrow = ltb-false _ _ y.1.1.0;
        fitting = y.1.1.1.0;
        room = leb-false _ _ y.1.1.1.1.0;
      }

  module _ (within : st.tally.nodes ≤ R.limits.nodes) where
    pub group_end_passes : GroupEndPasses st → refusal R st 0x12 rest ≡ 0
    group_end_passes h = refusal_group_end R st rest within ∙ rw (h.inner, zero_not _ h.some)

    pub repeat_passes : {c : ℕ} → Opens c → RepeatPasses R st c rest → refusal R st c rest ≡ 0
    repeat_passes o h =
        refusal_repeat R st rest o within
        ∙ rw (h.known, h.folds, le-ltb _ _ h.operand, le-ltb _ _ h.twice, le-ltb _ _ h.narrow, h.fitting, lt-leb _ _ h.room)

-- A byte is one of the commands of the two families, or none.
pub data Command : ℕ → Type 0 where
  step_byte : Command 0x10
  group_byte : Command 0x11
  group_end_byte : Command 0x12
  repeat_byte : {c : ℕ} → Opens c → Command c
  repeat_end_byte : Command 0x21
  other_byte : {c : ℕ} → is_known true c ≡ false → Command c

sorted : (c : ℕ) (a b d e f g : Bool) → eqb c 0x10 ≡ a → eqb c 0x11 ≡ b → eqb c 0x12 ≡ d → eqb c 0x20 ≡ e → eqb c 0x21 ≡ f
    → eqb c 0x22 ≡ g → Command c
sorted c true b d e f g p q r s t u = rw (eqb-true c 0x10 p) step_byte
sorted c false true d e f g p q r s t u = rw (eqb-true c 0x11 q) group_byte
sorted c false false true e f g p q r s t u = rw (eqb-true c 0x12 r) group_end_byte
sorted c false false false true f g p q r s t u = rw (eqb-true c 0x20 s) (repeat_byte by_two)
sorted c false false false false true g p q r s t u = rw (eqb-true c 0x21 t) repeat_end_byte
sorted c false false false false false true p q r s t u = rw (eqb-true c 0x22 u) (repeat_byte by_one)
sorted c false false false false false false p q r s t u = other_byte {c = c} (rw (p, q, r, t, s, u))

pub command : (c : ℕ) → Command c
command c = sorted c _ _ _ _ _ _ refl refl refl refl refl refl

-- The scan: the end, one command, and operands passed over.
module _ (R : Rules) (p : ℕ) (st : State) where
  pub scan_end : scan R p 0 st [] ≡ at_end p st.opens st
  unfolding scan
  scan_end = refl

  module _ (c : ℕ) (s : List ℕ) where
    scan_command : scan R p 0 st (c ∷ s)
        ≡ unless (refusal R st c s) p (p + suc (length s)) (scan R (suc p) (operands c) (advance R.prices c s st) s)
    unfolding scan
    scan_command = refl

    pub scan_pass : refusal R st c s ≡ 0
        → scan R p 0 st (c ∷ s) ≡ scan R (suc p) (operands c) (advance R.prices c s st) s
    scan_pass e = rw (scan_command, e)

    pub scan_refuse : (n : ℕ) → n ≢ 0 → refusal R st c s ≡ n
        → scan R p 0 st (c ∷ s) ≡ refused n (place_of n p (p + suc (length s)))
    scan_refuse zero h e = absurd (h refl)
    scan_refuse (suc n) h e = rw (scan_command, e)

    -- Where the scan is accepted the command is passed.
    pub scan_passed : {t : Tally} {x : List ℕ} → scan R p 0 st (c ∷ s) ≡ accepted t x → refusal R st c s ≡ 0
    scan_passed {t} {x} e = passed (refusal R st c s) refl
      where
        passed : (n : ℕ) → refusal R st c s ≡ n → n ≡ 0
        passed zero f = refl
        passed (suc n) f = cc (e, scan_refuse (suc n) (omega arith) f)

-- Operands are passed over alike whatever refuses a command.
pub by_drop : (refuse : State → ℕ → List ℕ → ℕ) (P : Prices) (p k : ℕ) (st : State) (s : List ℕ) → k ≤ length s
    → scan_by refuse P p k st s ≡ scan_by refuse P (p + k) 0 st (drop k s)
unfolding scan_by
by_drop refuse P p zero st s h = let e : p + 0 ≡ p = omega arith in rw e
by_drop refuse P p (suc k) st [] h = absurd (omega arith)
by_drop refuse P p (suc k) st (x ∷ s) h =
    let e : p + suc k ≡ suc p + k = omega arith in
    rw e (by_drop refuse P (suc p) k st s (omega arith))

-- A passed command that has its operands.
pub by_past : (refuse : State → ℕ → List ℕ → ℕ) (P : Prices) (p : ℕ) (st : State) (c : ℕ) (s : List ℕ) → refuse st c s ≡ 0
    → operands c ≤ length s
    → scan_by refuse P p 0 st (c ∷ s) ≡ scan_by refuse P (suc p + operands c) 0 (advance P c s st) (drop (operands c) s)
unfolding scan_by
by_past refuse P p st c s e there = rw e (by_drop refuse P (suc p) (operands c) (advance P c s st) s there)

pub scan_skip : (R : Rules) (p : ℕ) (st : State) (xs s : List ℕ)
    → scan R p (length xs) st (xs ++ s) ≡ scan R (p + length xs) 0 st s
unfolding scan
scan_skip R p st xs s =
    by_drop (refusal R) R.prices p (length xs) st (xs ++ s) (simp length-append (omega arith)) ∙ rw drop-append_seam

-- A command that opens a repeat, by the operands that it has.
pub opens_advance : {c : ℕ} → Opens c → (P : Prices) (rest : List ℕ) (st : State)
    → advance P c rest st ≡ enter_repeat P (count_operand c rest) (width_operand c rest) st
unfolding advance
opens_advance by_two P rest st = refl
opens_advance by_one P rest st = refl

module _ (R : Rules) (p : ℕ) (st : State) where
  -- A passed command, wherever its operands come from.
  pub scan_past : (c : ℕ) (s : List ℕ) → refusal R st c s ≡ 0
      → scan R p 0 st (c ∷ s) ≡ scan R (suc p + operands c) 0 (advance R.prices c s st) (drop (operands c) s)
  unfolding scan
  scan_past c s e = by_past (refusal R) R.prices p st c s e (operands_there R st s c e)

  -- A passed command with its operands.
  pub scan_on : (c : ℕ) (xs s : List ℕ) → operands c ≡ length xs → refusal R st c (xs ++ s) ≡ 0
      → scan R p 0 st (c ∷ xs ++ s) ≡ scan R (p + suc (length xs)) 0 (advance R.prices c (xs ++ s) st) s
  scan_on c xs s o e =
      let q : suc p + length xs ≡ p + suc (length xs) = omega arith in
      rw (scan_pass R p st c (xs ++ s) e, o, ← q) (scan_skip R (suc p) (advance R.prices c (xs ++ s) st) xs s)

  module _ (s : List ℕ) where
    pub scan_step : (l : ℕ) → refusal R st 0x10 (l ∷ s) ≡ 0
        → scan R p 0 st (0x10 ∷ l ∷ s) ≡ scan R (p + 2) 0 (put_step R.prices l st) s
    unfolding advance
    scan_step l e = scan_on 0x10 (l ∷ []) s refl e

    pub scan_group : (l : ℕ) → refusal R st 0x11 (l ∷ s) ≡ 0
        → scan R p 0 st (0x11 ∷ l ∷ s) ≡ scan R (p + 2) 0 (enter_group R.prices l st) s
    unfolding advance
    scan_group l e = scan_on 0x11 (l ∷ []) s refl e

    pub scan_group_end : refusal R st 0x12 s ≡ 0
        → scan R p 0 st (0x12 ∷ s) ≡ scan R (p + 1) 0 (leave_group st.opens st) s
    unfolding advance
    scan_group_end e = scan_on 0x12 [] s refl e

    pub scan_repeat : (a b c d : ℕ) → refusal R st 0x20 (a ∷ b ∷ c ∷ d ∷ s) ≡ 0
        → scan R p 0 st (0x20 ∷ a ∷ b ∷ c ∷ d ∷ s) ≡ scan R (p + 5) 0 (enter_repeat R.prices (a * 256 + b) (c * 256 + d) st) s
    unfolding advance
    scan_repeat a b c d e = scan_on 0x20 (a ∷ b ∷ c ∷ d ∷ []) s refl e

    pub scan_short : (h w : ℕ) → refusal R st 0x22 (h ∷ w ∷ s) ≡ 0
        → scan R p 0 st (0x22 ∷ h ∷ w ∷ s) ≡ scan R (p + 3) 0 (enter_repeat R.prices h w st) s
    unfolding advance
    scan_short h w e = scan_on 0x22 (h ∷ w ∷ []) s refl e

    pub scan_repeat_end : refusal R st 0x21 s ≡ 0
        → scan R p 0 st (0x21 ∷ s) ≡ scan R (p + 1) 0 (leave_repeat st.opens st) s
    unfolding advance
    scan_repeat_end e = scan_on 0x21 [] s refl e
