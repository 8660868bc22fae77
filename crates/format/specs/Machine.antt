-- The command machine: one pass over the bytes that passes each command or refuses it by the first check of
-- docs/REFUSALS.md that applies, and counts.
use Rattle.std.specs.Prelude.{Bool, true, false, not, cond, ◌&&◌, ◌||◌, List, [], ◌∷◌, ◌++◌, ℕ, zero, suc, ◌+◌, ◌-◌, ◌*◌, max, ltb, leb, eqb, length, get_or, drop}
use Rattle.format.specs.Limits.{Limits, Prices, of_repeat, Allowed, in_one_byte}
use Rattle.format.specs.declared.tally.Tally.{Tally}

-- The commands: `10` a step, `11` opens a group, `12` closes it, `20` opens a repeat, `21` closes it. In the short family `22`
-- opens a repeat too.
abbrev pub is_node : ℕ → Bool
is_node c = eqb c 0x10 || eqb c 0x11

abbrev pub is_close : ℕ → Bool
is_close c = eqb c 0x12 || eqb c 0x21

abbrev pub opens_repeat : ℕ → Bool
opens_repeat c = eqb c 0x20 || eqb c 0x22

-- In a family: a `22` is none in the long one.
abbrev pub opens_in : (short : Bool) → ℕ → Bool
opens_in short c = eqb c 0x20 || (short && eqb c 0x22)

abbrev pub is_known : (short : Bool) → ℕ → Bool
is_known short c = is_node c || is_close c || opens_in short c

-- The number of operand bytes.
abbrev pub operands : ℕ → ℕ
operands c = cond (is_node c) 1 (cond (eqb c 0x20) 4 (cond (eqb c 0x22) 2 0))

-- The operands, of the bytes behind the command: a label; a count and a width, one byte each behind a `22`, else two, the high byte
-- first.
abbrev pub label_operand : List ℕ → ℕ
label_operand s = get_or s 0 0

abbrev pub word : List ℕ → ℕ → ℕ
word s i = get_or s i 0 * 256 + get_or s (suc i) 0

abbrev pub count_operand : (command : ℕ) → List ℕ → ℕ
count_operand c s = cond (eqb c 0x22) (get_or s 0 0) (word s 0)

abbrev pub width_operand : (command : ℕ) → List ℕ → ℕ
width_operand c s = cond (eqb c 0x22) (get_or s 1 0) (word s 2)

-- What is open, with the counts outside it: a group, or a repeat with its operands.
pub data Open : Type 0 where
  a_group : (outer : Tally) → Open
  a_repeat : (count width : ℕ) (outer : Tally) → Open

-- By what rules bytes are read: within which limits, whether repeats may stand in them (a fold) or not (a run), whether they are of
-- the short family, which repeats are allowed, and the prices.
pub record Rules : Type 0 where
  pub limits : Limits
  pub folds : Bool
  pub short : Bool
  pub allowed : Allowed
  pub prices : Prices

-- Groups and repeats that are open.
abbrev pub open_groups : List Open → ℕ
open_groups [] = 0
open_groups (a_group t ∷ os) = suc (open_groups os)
open_groups (a_repeat h w t ∷ os) = open_groups os

abbrev pub open_repeats : List Open → ℕ
open_repeats [] = 0
open_repeats (a_group t ∷ os) = open_repeats os
open_repeats (a_repeat h w t ∷ os) = suc (open_repeats os)

-- The innermost open thing is a group; is a repeat.
abbrev pub in_group : List Open → Bool
in_group [] = false
in_group (a_group t ∷ os) = true
in_group (a_repeat h w t ∷ os) = false

abbrev pub in_repeat : List Open → Bool
in_repeat [] = false
in_repeat (a_group t ∷ os) = false
in_repeat (a_repeat h w t ∷ os) = true

-- The width operand of the innermost repeat.
abbrev pub claimed : List Open → ℕ
claimed [] = 0
claimed (a_group t ∷ os) = 0
claimed (a_repeat h w t ∷ os) = w

-- A total after a repeat of count h, where it was o at the open and is n at the close: the other h − 1 passes are added.
abbrev pub repeated : ℕ → (o n : ℕ) → ℕ
repeated h o n = n + (h - 1) * (n - o)

abbrev pub total_of : List Open → ℕ → ℕ
total_of [] n = n
total_of (a_group t ∷ os) n = n
total_of (a_repeat h w t ∷ os) n = repeated h t.nodes n

-- The node total that a command makes.
abbrev pub node_total : ℕ → List Open → ℕ → ℕ
node_total c os n = cond (is_node c) (n + 1) (cond (eqb c 0x21) (total_of os n) n)

-- Nothing counted.
abbrev pub none : Tally
none = record { siblings = 0; nodes = 0; size = 0; cost = 0; steps = 0; depth = 0 }

-- The counts after a step of that price: two bytes.
abbrev pub with_step : Tally → ℕ → Tally
with_step t price =
    record {
      siblings = t.siblings + 1;
      nodes = t.nodes + 1;
      size = t.size + 2;
      cost = t.cost + price;
      steps = t.steps + 1;
      depth = t.depth;
    }

-- The counts inside a group that is opened at a price, where `g` groups were open before it: one node more, two bytes, no
-- sibling yet, and g + 1 groups open together.
abbrev pub group_entered : (g : ℕ) → (outer : Tally) → ℕ → Tally
group_entered g outer price =
    record {
      siblings = 0;
      nodes = outer.nodes + 1;
      size = outer.size + 2;
      cost = outer.cost + price;
      steps = outer.steps;
      depth = max outer.depth (g + 1);
    }

-- The counts after a group, by those before it and those inside it: outside it, it is one sibling.
abbrev pub after_group : (outer inner : Tally) → Tally
after_group outer inner =
    record {
      siblings = outer.siblings + 1;
      nodes = inner.nodes;
      size = inner.size + 1;
      cost = inner.cost;
      steps = inner.steps;
      depth = inner.depth;
    }

-- The counts inside a repeat that is opened at a price: no sibling yet.
abbrev pub repeat_entered : (before : Tally) → ℕ → Tally
repeat_entered before price =
    record {
      siblings = 0;
      nodes = before.nodes;
      size = before.size;
      cost = before.cost + price;
      steps = before.steps;
      depth = before.depth;
    }

-- The counts after a repeat, by those before it and those after one pass: all h passes count, but not for cost and depth.
abbrev pub after_repeat : ℕ → (before pass : Tally) → Tally
after_repeat h before pass =
    record {
      siblings = before.siblings + h * pass.siblings;
      nodes = repeated h before.nodes pass.nodes;
      size = repeated h before.size pass.size;
      cost = pass.cost;
      steps = repeated h before.steps pass.steps;
      depth = pass.depth;
    }

-- n copies of a list, end to end.
unfoldable pub times : {A : Type 0} → ℕ → List A → List A
times zero s = []
times (suc n) s = s ++ times n s

-- What stands at a point of the reading: what is open, innermost first, the counts, and the unrolled bytes so far (an open
-- repeat at one pass).
pub record State : Type 0 where
  pub opens : List Open
  pub tally : Tally
  pub text : List ℕ

-- The state after a passed command.
unfoldable pub put_step : Prices → ℕ → State → State
put_step P l st =
    record { opens = st.opens; tally = with_step st.tally (P.of_step l); text = st.text ++ 0x10 ∷ l ∷ [] }

unfoldable pub enter_group : Prices → ℕ → State → State
enter_group P l st =
    record {
      opens = a_group st.tally ∷ st.opens;
      tally = group_entered (open_groups st.opens) st.tally (P.of_group l);
      text = st.text ++ 0x11 ∷ l ∷ [];
    }

unfoldable pub leave_group : List Open → State → State
leave_group [] st = st
leave_group (a_group o ∷ os) st = record { opens = os; tally = after_group o st.tally; text = st.text ++ 0x12 ∷ [] }
leave_group (a_repeat h w o ∷ os) st = st

unfoldable pub enter_repeat : Prices → (count width : ℕ) → State → State
enter_repeat P h w st =
    record { opens = a_repeat h w st.tally ∷ st.opens; tally = repeat_entered st.tally (of_repeat P h); text = st.text }

unfoldable pub leave_repeat : List Open → State → State
unfolding times
leave_repeat [] st = st
leave_repeat (a_group o ∷ os) st = st
leave_repeat (a_repeat h w o ∷ os) st =
    record {
      opens = os;
      tally = after_repeat h o st.tally;
      text = st.text ++ times (h - 1) (drop o.size st.text);
    }

unfoldable pub advance : Prices → (command : ℕ) → (rest : List ℕ) → State → State
unfolding put_step enter_group leave_group enter_repeat leave_repeat
advance P c rest st =
    cond (eqb c 0x10) (put_step P (label_operand rest) st)
    (cond (eqb c 0x11) (enter_group P (label_operand rest) st)
    (cond (eqb c 0x12) (leave_group st.opens st)
    (cond (opens_repeat c) (enter_repeat P (count_operand c rest) (width_operand c rest) st)
    (leave_repeat st.opens st))))

-- A check of the table: the number, and whether its condition holds.
pub data Check : Type 0 where
  ◌when◌ : ℕ → Bool → Check

infix 68 ◌when◌
-- Refusals 1 to 10 and 19 to 21 at one command, in the order of docs/REFUSALS.md: 1, 2, 21, 3, 4, 5, 6, 7, 20, 8, 19, 10, 9.
-- `rest` is what follows the command's byte. 21 is for limits that have no groups, those of season runs.
unfoldable pub checks : Rules → State → (command : ℕ) → (rest : List ℕ) → List Check
checks R st c rest =
    1 when not (is_known R.short c)
    ∷ 2 when ((opens_repeat c || eqb c 0x21) && not R.folds)
    ∷ 21 when (eqb c 0x11 && eqb R.limits.groups 0)
    ∷ 3 when ltb (length rest) (operands c)
    ∷ 4 when ((eqb c 0x12 && not (in_group st.opens)) || (eqb c 0x21 && not (in_repeat st.opens)))
    ∷ 5 when (is_close c && eqb st.tally.siblings 0)
    ∷ 6 when (opens_repeat c && ltb (count_operand c rest) 2)
    ∷ 7 when (opens_repeat c && ltb R.allowed.widest (width_operand c rest))
    ∷ 20 when (eqb c 0x20 && (R.short && in_one_byte (count_operand c rest) (width_operand c rest)))
    ∷ 8 when ((eqb c 0x11 && leb R.limits.groups (open_groups st.opens))
    || (opens_repeat c && leb R.limits.repeats (open_repeats st.opens)))
    ∷ 19 when (is_node c && (R.allowed.marked (label_operand rest) && ltb 0 (open_repeats st.opens)))
    ∷ 10 when ltb R.limits.nodes (node_total c st.opens st.tally.nodes)
    ∷ 9 when (eqb c 0x21 && not (eqb st.tally.siblings (claimed st.opens)))
    ∷ []

-- The number of the first check that applies, or 0.
abbrev pub first_of : List Check → ℕ
first_of [] = 0
first_of (n when b ∷ rs) = cond b n (first_of rs)

-- The refusal at a command, 0 where it is passed.
unfoldable pub refusal : Rules → State → (command : ℕ) → (rest : List ℕ) → ℕ
unfolding checks
refusal R st c rest = first_of (checks R st c rest)

-- The outcome of a reading: a refusal with its number and place, or the counts and the unrolled bytes.
pub data Outcome : Type 0 where
  refused : (number place : ℕ) → Outcome
  accepted : (tally : Tally) (text : List ℕ) → Outcome

-- The place of a refusal at a command: the command's offset, but for 3 the input's length.
abbrev pub place_of : ℕ → (offset length : ℕ) → ℕ
place_of n p e = cond (eqb n 3) e p

-- Go on, or refuse.
abbrev pub unless : ℕ → (offset length : ℕ) → Outcome → Outcome
unless zero p e next = next
unless (suc n) p e next = refused (suc n) (place_of (suc n) p e)

-- At the end of the input nothing may be open.
abbrev pub at_end : ℕ → List Open → State → Outcome
at_end p [] st = accepted st.tally st.text
at_end p (o ∷ os) st = refused 3 p

-- Read on from offset p with `skip` operand bytes to pass over first, where `refuse` gives the refusal at a command.
unfoldable pub scan_by : (refuse : State → (command : ℕ) → (rest : List ℕ) → ℕ) → Prices → (p skip : ℕ) → State → List ℕ → Outcome
unfolding advance
scan_by refuse P p k st [] = at_end p st.opens st
scan_by refuse P p zero st (c ∷ s) =
    unless (refuse st c s) p (p + suc (length s)) (scan_by refuse P (suc p) (operands c) (advance P c s st) s)
scan_by refuse P p (suc k) st (c ∷ s) = scan_by refuse P (suc p) k st s

-- Read on by rules: a command is refused by the table.
unfoldable pub scan : Rules → (p skip : ℕ) → State → List ℕ → Outcome
unfolding scan_by refusal
scan R p k st s = scan_by (refusal R) R.prices p k st s

-- Before anything is read.
abbrev pub start : State
start = record { opens = []; tally = none; text = [] }

-- The reading of whole bytes.
unfoldable pub read : Rules → List ℕ → Outcome
unfolding scan
read R s = scan R 0 0 start s
