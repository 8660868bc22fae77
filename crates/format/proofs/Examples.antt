-- Examples of what the readers answer, checked by computation: every check of docs/REFUSALS.md, the order of the checks, each
-- limit met and passed, widths, costs, cost tables of other sizes, steps, depth and parts. Each list of cases has one statement:
-- every case holds.
use mathlib.Core.Path.{◌≡◌, refl}
use mathlib.Core.List.{List, [], ◌∷◌, ◌++◌, map}
use Prim.Native.Nat.{ℕ, ◌/◌, ◌%◌}
use Rattle.format.specs.Limits.{Tariff, tariff}
use Rattle.format.specs.Machine.{times}
use Rattle.format.specs.Head.{marks_in_order}
use Rattle.format.specs.Marks.{free_marks, mark_of, all_marks}
use Rattle.format.specs.Readings.{run_reading_in, run_reading, reading_by, fold_reading, short_reading, season_run_reading, season_reading}
use Rattle.format.specs.Parts.{part_of}
use Rattle.format.specs.Numbers.{RunReading}
use Rattle.format.specs.Numbers.{FoldReading}

-- What a reader is asked: a run, or a season run; or a fold, a short fold or a season fold, at a width limit and what is lent to
-- price it.
pub data Asked : Type 0 where
  run : (input : List ℕ) → Asked
  fold_with : (limit : ℕ) → Tariff → (input : List ℕ) → Asked
  short_with : (limit : ℕ) → Tariff → (input : List ℕ) → Asked
  season_run : (input : List ℕ) → Asked
  season_with : (limit : ℕ) → Tariff → (input : List ℕ) → Asked

-- A table of that many entries, each 1.
abbrev pub ones : ℕ → List ℕ
unfolding times
ones n = times n (1 ∷ [])

-- Unit costs with these marks.
abbrev pub marked_with : List ℕ → Tariff
unfolding ones
marked_with marks = tariff (ones 256) (ones 256) marks 1 0

-- Tables of so many entries for steps and for groups, each 1, free marks, and first 1, each 0: unit costs, where they have 256.
abbrev pub sized : (steps groups : ℕ) → Tariff
unfolding ones
sized m n = tariff (ones m) (ones n) free_marks 1 0

-- A fold at unit costs; the limit is 1,024 unless named.
abbrev pub fold_within : ℕ → List ℕ → Asked
unfolding sized
fold_within k s = fold_with k (sized 256 256) s

abbrev pub fold : List ℕ → Asked
unfolding fold_within
fold s = fold_within 1024 s

-- The answers: a refusal's number and place with every value 0; the nodes, length, cost, steps and depth of a fold; the nodes,
-- steps and depth of a run.
abbrev pub a_refusal : (number place : ℕ) → FoldReading
a_refusal n p = record { refusal = n; place = p; nodes = 0; length = 0; cost = 0; steps = 0; depth = 0 }

abbrev pub fold_values : (nodes length cost steps depth : ℕ) → FoldReading
fold_values n l c s d = record { refusal = 0; place = 0; nodes = n; length = l; cost = c; steps = s; depth = d }

abbrev pub run_values : (nodes steps depth : ℕ) → FoldReading
run_values n s d = fold_values n 0 0 s d

-- A case: what is asked, and the answer.
pub data Case : Type 0 where
  ◌gives◌ : Asked → FoldReading → Case

infix 68 ◌gives◌
-- A run's answer in the form of a fold's, without length and cost.
abbrev pub from_run_reading : RunReading → FoldReading
from_run_reading r =
    record {
      refusal = r.refusal;
      place = r.place;
      nodes = r.nodes;
      length = 0;
      cost = 0;
      steps = r.steps;
      depth = r.depth;
    }

unfoldable pub answer : Asked → FoldReading
unfolding run_reading_in reading_by
answer (run s) = from_run_reading (run_reading s)
answer (fold_with k T s) = fold_reading s k T
answer (short_with k T s) = short_reading s k T
answer (season_run s) = from_run_reading (season_run_reading s)
answer (season_with k T s) = season_reading s k T

unfoldable pub answered : Case → FoldReading
unfolding answer
answered (q gives a) = answer q

unfoldable pub expected : Case → FoldReading
expected (q gives a) = a

-- Every case of a list holds.
abbrev pub Hold : List Case → Type 0
Hold cs = map answered cs ≡ map expected cs

-- Checks 1 to 12, 15, 18, 19 and 20 of the table of refusals, each by its example there.
unfoldable pub refusals : List Case
unfolding fold times
refusals =
    run (0x13 ∷ []) gives a_refusal 1 0
    ∷ run (0x10 ∷ 0x07 ∷ 0x21 ∷ []) gives a_refusal 2 2
    ∷ run (0x11 ∷ 0x05 ∷ []) gives a_refusal 3 2
    ∷ run (0x12 ∷ []) gives a_refusal 4 0
    ∷ run (0x11 ∷ 0x05 ∷ 0x12 ∷ []) gives a_refusal 5 2
    ∷ fold (0x20 ∷ 0x00 ∷ 0x01 ∷ 0x00 ∷ 0x01 ∷ 0x10 ∷ 0x07 ∷ 0x21 ∷ []) gives a_refusal 6 0
    ∷ fold_within 1 (0x20 ∷ 0x00 ∷ 0x02 ∷ 0x00 ∷ 0x02 ∷ 0x10 ∷ 0x07 ∷ 0x10 ∷ 0x07 ∷ 0x21 ∷ []) gives a_refusal 7 0
    ∷ run (times 9 (0x11 ∷ 0x01 ∷ [])) gives a_refusal 8 16
    ∷ fold (0x20 ∷ 0x00 ∷ 0x02 ∷ 0x00 ∷ 0x02 ∷ 0x10 ∷ 0x07 ∷ 0x21 ∷ []) gives a_refusal 9 7
    ∷ fold (0x20 ∷ 0x04 ∷ 0x01 ∷ 0x00 ∷ 0x01 ∷ 0x10 ∷ 0x07 ∷ 0x21 ∷ []) gives a_refusal 10 7
    ∷ fold_with 1024 (sized 255 256) [] gives a_refusal 11 0
    ∷ fold_within 1025 [] gives a_refusal 12 0
    ∷ fold_with 1024 (sized 256 255) [] gives a_refusal 15 0
    ∷ fold_with 1024 (marked_with (times 255 (0 ∷ []) ++ 2 ∷ [])) [] gives a_refusal 18 0
    ∷ fold_with 1024 (marked_with (mark_of 7)) (0x20 ∷ 0x00 ∷ 0x02 ∷ 0x00 ∷ 0x01 ∷ 0x10 ∷ 0x07 ∷ 0x21 ∷ []) gives a_refusal 19 5
    ∷ short_with 1024 (sized 256 256) (0x20 ∷ 0x00 ∷ 0x02 ∷ 0x00 ∷ 0x01 ∷ 0x10 ∷ 0x07 ∷ 0x21 ∷ []) gives a_refusal 20 0
    ∷ []

pub refusals_hold : Hold refusals
unfolding answered expected refusals marks_in_order
refusals_hold = refl

-- The bytes of a step; of what opens a group, and of a whole one; of what opens a repeat, and of a whole one.
abbrev pub one_step : List ℕ
one_step = 0x10 ∷ 0x07 ∷ []

abbrev pub group_start : List ℕ
group_start = 0x11 ∷ 0x05 ∷ []

abbrev pub group_07 : List ℕ
group_07 = 0x11 ∷ 0x07 ∷ []

abbrev pub grouping : List ℕ → List ℕ
grouping s = group_start ++ s ++ 0x12 ∷ []

abbrev pub repeat_start : (count width : ℕ) → List ℕ
repeat_start h w = 0x20 ∷ h / 256 ∷ h % 256 ∷ w / 256 ∷ w % 256 ∷ []

abbrev pub repeating : (count width : ℕ) → List ℕ → List ℕ
repeating h w s = repeat_start h w ++ s ++ 0x21 ∷ []

-- Several checks apply: the one that answers. Any two checks that can meet at one command meet here or in check 2's example.
unfoldable pub order : List Case
unfolding fold times
order =
    -- 11, then 15, then 12, then 18, then the commands
    fold_with 1025 (tariff (ones 255) (ones 255) [] 1 0) (0x13 ∷ []) gives a_refusal 11 0
    ∷ fold_with 1025 (tariff (ones 256) (ones 255) [] 1 0) (0x13 ∷ []) gives a_refusal 15 0
    ∷ fold_with 1025 (marked_with []) (0x13 ∷ []) gives a_refusal 12 0
    ∷ fold_with 1024 (marked_with []) (0x13 ∷ []) gives a_refusal 18 0
    -- the commands from left to right, and the end last
    ∷ run (0x12 ∷ 0x13 ∷ []) gives a_refusal 4 0
    ∷ run (group_start ++ grouping []) gives a_refusal 5 4
    -- 2 before 3, 6 and 7; before 4 and 5
    ∷ run (0x20 ∷ 0x00 ∷ 0x01 ∷ 0x09 ∷ []) gives a_refusal 2 0
    ∷ run (0x21 ∷ []) gives a_refusal 2 0
    -- 3 before 6, 7 and 8; before 8 and 10
    ∷ fold_within 1 (times 10 (repeat_start 2 1) ++ 0x20 ∷ 0x00 ∷ 0x01 ∷ 0x09 ∷ []) gives a_refusal 3 54
    ∷ fold (repeating 1016 1 one_step ++ times 8 group_start ++ 0x11 ∷ []) gives a_refusal 3 25
    -- 4 before 5; before 9
    ∷ fold (group_start ++ 0x21 ∷ []) gives a_refusal 4 2
    ∷ fold (group_start ++ one_step ++ 0x21 ∷ []) gives a_refusal 4 4
    -- 5 before 9
    ∷ fold (repeating 2 1 []) gives a_refusal 5 5
    -- 6 before 7 and 8, 7 before 8
    ∷ fold_within 1 (times 10 (repeat_start 2 1) ++ repeat_start 1 2) gives a_refusal 6 50
    ∷ fold_within 1 (times 10 (repeat_start 2 1) ++ repeat_start 2 2) gives a_refusal 7 50
    -- 8 before 10, 10 before 9
    ∷ fold (repeating 1016 1 one_step ++ times 9 group_start) gives a_refusal 8 24
    ∷ fold (repeating 1025 2 one_step) gives a_refusal 10 7
    -- 3 and 8 before 19: no label, a marked ninth group; 19 before 10, at a step and at a group
    ∷ fold_with 1024 (marked_with (mark_of 0)) (repeat_start 2 1 ++ 0x10 ∷ []) gives a_refusal 3 6
    ∷ fold_with 1024 (marked_with (mark_of 5)) (times 8 group_07 ++ repeat_start 2 1 ++ group_start) gives a_refusal 8 21
    ∷ fold_with 1024 (marked_with (mark_of 7)) (repeating 1024 1 (0x10 ∷ 0x09 ∷ []) ++ repeat_start 2 1 ++ one_step) gives a_refusal 19 13
    ∷ fold_with 1024 (marked_with (mark_of 5)) (repeating 1024 1 (0x10 ∷ 0x09 ∷ []) ++ repeat_start 2 1 ++ group_start) gives a_refusal 19 13
    ∷ []

pub order_hold : Hold order
unfolding answered expected order marks_in_order
order_hold = refl

-- Ten repeats inside each other, each of two passes of the next.
abbrev pub ten_nested : List ℕ
ten_nested =
    repeating 2 512 (repeating 2 256 (repeating 2 128 (repeating 2 64 (repeating 2 32 (repeating 2 16 (repeating 2 8 (repeating 2 4 (repeating 2 2 (repeating 2 1 one_step)))))))))

-- Each limit exactly met; and just passed, where that is no example above.
unfoldable pub bounds : List Case
unfolding fold times
bounds =
    -- counts from 2
    fold (repeating 2 1 one_step) gives fold_values 2 4 2 2 0
    -- 1,024 nodes, by themselves or by a repeat
    ∷ run (times 1024 one_step) gives run_values 1024 1024 0
    ∷ run (times 1025 one_step) gives a_refusal 10 2048
    ∷ fold (repeating 1024 1 one_step) gives fold_values 1024 2048 2 1024 0
    -- 8 open groups; those that are closed do not count
    ∷ run (times 8 group_start ++ one_step ++ times 8 (0x12 ∷ [])) gives run_values 9 1 8
    ∷ run (times 9 (grouping one_step)) gives run_values 18 9 1
    -- 10 open repeats; the 11th is refused at its open
    ∷ fold ten_nested gives fold_values 1024 2048 11 1024 0
    ∷ fold (times 11 (repeat_start 2 1)) gives a_refusal 8 50
    -- a width operand that is the limit
    ∷ fold_within 2 (repeating 2 2 (one_step ++ one_step)) gives fold_values 4 8 3 4 0
    -- limit 1,024 and 256 entries in both tables; `table_sizes` has others
    ∷ fold [] gives fold_values 0 0 0 0 0
    ∷ []

pub bounds_hold : Hold bounds
unfolding answered expected bounds marks_in_order
bounds_hold = refl

-- Two groups 05 holding aaa: as a run, and as its cheapest fold (`known` in crates/optimum/specs/Known.antt).
abbrev pub two_groups : List ℕ
unfolding times
two_groups = times 2 (0x11 ∷ 0x05 ∷ times 3 (0x10 ∷ 0x01 ∷ []) ++ 0x12 ∷ [])

abbrev pub two_groups_folded : List ℕ
two_groups_folded = repeating 2 1 (0x11 ∷ 0x05 ∷ repeating 3 1 (0x10 ∷ 0x01 ∷ []) ++ 0x12 ∷ [])

-- Every group costs 4, all else is at unit costs.
abbrev pub dear_groups : Tariff
unfolding ones times
dear_groups = tariff (ones 256) (times 256 (4 ∷ [])) free_marks 1 0

-- What is counted: nodes, the length of the run, the cost, steps and depth.
unfoldable pub values : List Case
unfolding fold times
values =
    -- a label may look like a command
    run (0x11 ∷ 0x12 ∷ 0x10 ∷ 0x21 ∷ 0x12 ∷ []) gives run_values 2 1 1
    -- the place of 3 is the input's length
    ∷ run (0x10 ∷ []) gives a_refusal 3 1
    -- the width is counted in siblings after unrolling: a repeat is not one item
    ∷ fold (repeating 2 4 (one_step ++ repeating 3 1 one_step)) gives fold_values 8 16 4 8 0
    ∷ fold (repeating 2 2 (one_step ++ repeating 3 1 one_step)) gives a_refusal 9 15
    -- nodes inside groups do not count for the width
    ∷ fold (repeating 2 1 (grouping (one_step ++ one_step))) gives fold_values 6 14 4 4 1
    ∷ fold (repeating 2 3 (grouping (one_step ++ one_step))) gives a_refusal 9 12
    -- a repeat of count h costs first + each × (h − 2), and its body once
    ∷ fold_with 1024 (tariff (ones 256) (ones 256) free_marks 3 10) (repeating 5 1 one_step) gives fold_values 5 10 34 5 0
    -- a label is priced by its entry: steps 01 for 7 and FF for 65,535, group 02 for 90, and neither by the other table
    ∷ fold_with 1024 (tariff (1 ∷ 7 ∷ 9 ∷ ones 252 ++ 65535 ∷ []) (1 ∷ 70 ∷ 90 ∷ ones 252 ++ 3 ∷ []) free_marks 0 0) (0x11 ∷ 0x02 ∷ 0x10 ∷ 0x01 ∷ 0x12 ∷ 0x10 ∷ 0xFF ∷ [])
    gives fold_values 3 7 65632 2 1
    -- two groups 05 holding aaa, where every group costs 4 and all else is at unit costs: 7 folded, 14 plain
    ∷ fold_with 1024 dear_groups two_groups_folded gives fold_values 8 18 7 6 1
    ∷ fold_with 1024 dear_groups two_groups gives fold_values 8 18 14 6 1
    ∷ []

pub values_hold : Hold values
unfolding answered expected values marks_in_order
values_hold = refl

-- Each cost table of 0, 255 and 257 entries, alone and both at once; 15 before 12; and 15 before every command: before an unknown
-- byte, before each command without operands, before those that have them, and before a whole repeat.
unfoldable pub table_sizes : List Case
unfolding sized times
table_sizes =
    map (λ m. fold_with 1024 (sized m 256) [] gives a_refusal 11 0) (0 ∷ 255 ∷ 257 ∷ [])
    ++ map (λ n. fold_with 1024 (sized 256 n) [] gives a_refusal 15 0) (0 ∷ 255 ∷ 257 ∷ [])
    ++ map (λ n. fold_with 1024 (sized 0 n) [] gives a_refusal 11 0) (0 ∷ 255 ∷ 257 ∷ [])
    ++ map (λ n. fold_with 1024 (sized 255 n) [] gives a_refusal 11 0) (0 ∷ 255 ∷ 257 ∷ [])
    ++ map (λ n. fold_with 1024 (sized 257 n) [] gives a_refusal 11 0) (0 ∷ 255 ∷ 257 ∷ [])
    ++ map (λ n. fold_with 1025 (sized 256 n) [] gives a_refusal 15 0) (0 ∷ 255 ∷ 257 ∷ [])
    ++ map (λ s. fold_with 1024 (sized 256 255) s gives a_refusal 15 0)
    ((0x13 ∷ []) ∷ (0x10 ∷ []) ∷ (0x11 ∷ []) ∷ (0x12 ∷ []) ∷ (0x20 ∷ []) ∷ (0x21 ∷ []) ∷ one_step ∷ group_start ∷ repeat_start 2 1
    ∷ repeating 2 1 one_step ∷ [])

pub table_sizes_hold : Hold table_sizes
unfolding answered expected table_sizes marks_in_order
table_sizes_hold = refl

-- Marks: lists of other lengths and with other bytes, 18 before every kind of command; marked labels inside repeats, and outside.
unfoldable pub marks : List Case
unfolding marked_with times
marks =
    map (λ n. fold_with 1024 (marked_with (times n (0 ∷ []))) [] gives a_refusal 18 0) (0 ∷ 255 ∷ 257 ∷ [])
    ++ map (λ b. fold_with 1024 (marked_with (b ∷ times 255 (0 ∷ []))) [] gives a_refusal 18 0) (2 ∷ 255 ∷ [])
    ++ map (λ m. fold_with 1024 (marked_with m) [] gives fold_values 0 0 0 0 0) (free_marks ∷ all_marks ∷ mark_of 0 ∷ mark_of 255 ∷ [])
    ++ map (λ s. fold_with 1024 (marked_with (times 255 (0 ∷ []))) s gives a_refusal 18 0)
    ((0x13 ∷ []) ∷ (0x10 ∷ []) ∷ (0x11 ∷ []) ∷ (0x12 ∷ []) ∷ (0x20 ∷ []) ∷ (0x21 ∷ []) ∷ one_step ∷ group_start ∷ repeat_start 2 1
    ∷ repeating 2 1 one_step ∷ [])
    -- a step, a group, and a step in a group, each in a repeat: refused at the label's own command
    ++ fold_with 1024 (marked_with (mark_of 7)) (one_step ++ repeating 2 1 one_step) gives a_refusal 19 7
    ∷ fold_with 1024 (marked_with (mark_of 5)) (repeating 2 1 (grouping one_step)) gives a_refusal 19 5
    ∷ fold_with 1024 (marked_with (mark_of 7)) (repeating 2 1 (grouping one_step)) gives a_refusal 19 7
    -- behind a repeat inside a repeat, and in a group between two repeats
    ∷ fold_with 1024 (marked_with (mark_of 7)) (repeating 2 3 (repeating 2 1 (0x10 ∷ 0x09 ∷ []) ++ one_step)) gives a_refusal 19 13
    ∷ fold_with 1024 (marked_with (mark_of 5)) (repeating 2 1 (group_07 ++ repeating 2 1 (grouping one_step) ++ 0x12 ∷ [])) gives a_refusal 19 12
    -- the first of two is named
    ∷ fold_with 1024 (marked_with all_marks) (repeating 2 1 (grouping one_step)) gives a_refusal 19 5
    -- outside a repeat a marked label stands as any: before it, behind it, and around it
    ∷ fold_with 1024 (marked_with (mark_of 7)) (one_step ++ repeating 2 1 (0x10 ∷ 0x09 ∷ []) ++ one_step) gives fold_values 4 8 4 4 0
    ∷ fold_with 1024 (marked_with (mark_of 5)) (grouping (repeating 3 1 one_step)) gives fold_values 4 9 3 3 1
    -- a free label beside a marked one of the next number
    ∷ fold_with 1024 (marked_with (mark_of 8)) (repeating 2 1 one_step) gives fold_values 2 4 2 2 0
    -- the operands of a repeat are no labels
    ∷ fold_with 1024 (marked_with (mark_of 2)) (repeating 2 1 one_step) gives fold_values 2 4 2 2 0
    ∷ []

pub marks_hold : Hold marks
unfolding answered expected marks marks_in_order
marks_hold = refl

-- How many of the nodes are steps, and how many groups are open together; `bounds` has eight inside each other.
unfoldable pub shapes : List Case
unfolding fold times
shapes =
    -- the same of a run and of its fold; 8 nodes, 18 bytes, cost 8 plain and 4 folded
    run two_groups gives run_values 8 6 1
    ∷ fold two_groups gives fold_values 8 18 8 6 1
    ∷ fold two_groups_folded gives fold_values 8 18 4 6 1
    -- flat runs: nothing, three steps
    ∷ run [] gives run_values 0 0 0
    ∷ run (times 3 one_step) gives run_values 3 3 0
    -- a repeat of a group multiplies its steps and not its depth
    ∷ fold (repeating 5 1 (grouping (one_step ++ grouping one_step))) gives fold_values 20 50 5 10 2
    -- a repeat between two groups adds no depth
    ∷ fold (grouping (repeating 2 1 (grouping one_step))) gives fold_values 5 13 4 2 2
    -- groups side by side are not open together: the deeper one counts, before or behind
    ∷ run (grouping (grouping one_step) ++ grouping one_step) gives run_values 5 2 2
    ∷ run (grouping one_step ++ grouping (grouping one_step)) gives run_values 5 2 2
    -- nothing of what was counted stays after a refusal
    ∷ run (grouping one_step ++ 0x13 ∷ []) gives a_refusal 1 5
    ∷ fold (grouping one_step ++ 0x13 ∷ []) gives a_refusal 1 5
    ∷ []

pub shapes_hold : Hold shapes
unfolding answered expected shapes marks_in_order
shapes_hold = refl

-- Parts of the run a, group 05 of b and c, a: a node with all it holds at 0, 2, 4 and 9; nothing at a label, at the close and at
-- the end; nothing in a refused run.
unfoldable pub parts : List (List ℕ)
unfolding part_of
parts =
    let r : List ℕ = 0x10 ∷ 0x01 ∷ 0x11 ∷ 0x05 ∷ 0x10 ∷ 0x02 ∷ 0x10 ∷ 0x03 ∷ 0x12 ∷ 0x10 ∷ 0x01 ∷ [] in
    map (part_of r) (0 ∷ 2 ∷ 4 ∷ 9 ∷ 1 ∷ 8 ∷ 11 ∷ [])
    ++ part_of (r ++ 0x12 ∷ []) 0
    ∷ []

pub parts_hold : parts
    ≡ (0x10 ∷ 0x01 ∷ [])
    ∷ (0x11 ∷ 0x05 ∷ 0x10 ∷ 0x02 ∷ 0x10 ∷ 0x03 ∷ 0x12 ∷ [])
    ∷ (0x10 ∷ 0x02 ∷ [])
    ∷ (0x10 ∷ 0x01 ∷ [])
    ∷ [] ∷ [] ∷ []
    ∷ []
    ∷ []
unfolding parts
parts_hold = refl
