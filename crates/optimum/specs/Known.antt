-- The known folds of docs/FORMAT.md that the checker computes, in one table with one statement, and a few more that pin prices,
-- ties and marks.
use Rattle.std.specs.Prelude.{◌≡◌, List, [], ◌∷◌, ◌++◌, map, ℕ}
use Rattle.format.specs.Limits.{Tariff, tariff, priced, allowed}
use Rattle.format.specs.Forest.{form_in, cost}
use Rattle.format.specs.Machine.{Outcome, refused, accepted, read, times}
use Rattle.format.specs.Readings.{run_rules, fold_rules}
use Rattle.format.specs.Marks.{free_marks, mark_of, all_marks}
use Rattle.format.specs.Tree.{tree_of}
use Rattle.optimum.specs.Fewest.{preferred}
use Rattle.optimum.specs.Verdict.{Verdict, refuses, folds, verdict}

-- What is asked at a width limit and costs: the cheapest fold of a run, or what a fold reads as.
pub data Asked : Type 0 where
  run : (limit : ℕ) → Tariff → List ℕ → Asked
  fold : (limit : ℕ) → Tariff → List ℕ → Asked

-- The answer: the cheapest fold and its cost; the run that a fold unrolls to and the fold's cost; or a refusal.
pub data Answer : Type 0 where
  fold_is : (fold : List ℕ) (cost : ℕ) → Answer
  run_is : (run : List ℕ) (cost : ℕ) → Answer
  refusal_is : (number place : ℕ) → Answer

unfoldable pub of_verdict : Verdict → Answer
of_verdict (refuses n p) = refusal_is n p
of_verdict (folds n f c) = fold_is f c

unfoldable pub of_reading : Outcome → Answer
of_reading (refused n p) = refusal_is n p
of_reading (accepted t x) = run_is x t.cost

-- The answer of the definitions.
unfoldable pub answer : Asked → Answer
unfolding of_verdict of_reading read preferred cost form_in tree_of
answer (run k T s) = of_verdict (verdict (allowed k T.marks) (priced T) s (read run_rules s))
answer (fold k T s) = of_reading (read (fold_rules (allowed k T.marks) (priced T)) s)

-- A case: what is asked, and the known answer.
pub data Case : Type 0 where
  ◌gives◌ : Asked → Answer → Case

infix 68 ◌gives◌
unfoldable pub answered : Case → Answer
unfolding answer
answered (q gives a) = answer q

unfoldable pub expected : Case → Answer
expected (q gives a) = a

-- One price for every step, one for every group, and the repeat prices first and each; one price for both; unit costs.
abbrev pub nodes_at : (step group first each : ℕ) → Tariff
unfolding times
nodes_at l g first each = tariff (times 256 (l ∷ [])) (times 256 (g ∷ [])) free_marks first each

abbrev pub labels_at : ℕ → (first each : ℕ) → Tariff
unfolding nodes_at
labels_at l first each = nodes_at l l first each

abbrev pub unit : Tariff
unfolding labels_at
unit = labels_at 1 1 0

-- Unit costs, with these marks.
abbrev pub unit_with : List ℕ → Tariff
unfolding times
unit_with marks = tariff (times 256 (1 ∷ [])) (times 256 (1 ∷ [])) marks 1 0

-- Both tables have label 01 for nothing, 02 for 3 and the others for 1; each is 0.
abbrev pub free_a : ℕ → Tariff
unfolding times
free_a first =
    let table : List ℕ = 1 ∷ 0 ∷ 3 ∷ times 253 (1 ∷ []) in
    tariff table table free_marks first 0

-- The group 05 costs 9, label 01 costs 2 as a step and 5 as a group, 02 costs 3 and 1; the others cost 1, and so does a repeat.
abbrev pub unlike : Tariff
unfolding times
unlike =
    tariff (1 ∷ 2 ∷ 3 ∷ times 253 (1 ∷ [])) (1 ∷ 5 ∷ 1 ∷ 1 ∷ 1 ∷ 9 ∷ times 250 (1 ∷ [])) free_marks 1 0

-- The steps a and b; a group.
abbrev pub a : List ℕ
a = 0x10 ∷ 0x01 ∷ []

abbrev pub b : List ℕ
b = 0x10 ∷ 0x02 ∷ []

abbrev pub group_05 : List ℕ → List ℕ
group_05 s = 0x11 ∷ 0x05 ∷ s ++ 0x12 ∷ []

-- The table: the cases of docs/FORMAT.md, then more, which pin what prices, ties and marks decide.
unfoldable pub known : List Case
unfolding unit unit_with free_a unlike times
known =
    -- the empty run, and a
    run 1024 unit [] gives fold_is [] 0
    ∷ run 1024 unit a gives fold_is a 1
    ∷ run 0 unit a gives fold_is a 1
    -- a tie of the plain node and a repeat
    ∷ run 1024 unit (a ++ a) gives fold_is (a ++ a) 2
    -- a repeat, and none at limit 0
    ∷ run 1024 unit (a ++ a ++ a) gives fold_is (0x20 ∷ 0x00 ∷ 0x03 ∷ 0x00 ∷ 0x01 ∷ 0x10 ∷ 0x01 ∷ 0x21 ∷ []) 2
    ∷ run 0 unit (a ++ a ++ a) gives fold_is (a ++ a ++ a) 3
    -- fewer repeats win a tie: one and two, first 0; and one and two at unit costs
    ∷ run 1024 (labels_at 1 0 0) (times 4 a) gives fold_is (0x20 ∷ 0x00 ∷ 0x04 ∷ 0x00 ∷ 0x01 ∷ 0x10 ∷ 0x01 ∷ 0x21 ∷ []) 1
    ∷ run 1024 unit (times 4 a ++ b ++ a ++ b) gives fold_is (0x20 ∷ 0x00 ∷ 0x04 ∷ 0x00 ∷ 0x01 ∷ 0x10 ∷ 0x01 ∷ 0x21 ∷ b ++ a ++ b) 5
    -- each above 0
    ∷ run 1024 (labels_at 1 1 5) (times 4 a)
    gives fold_is (0x20 ∷ 0x00 ∷ 0x02 ∷ 0x00 ∷ 0x02 ∷ 0x10 ∷ 0x01 ∷ 0x10 ∷ 0x01 ∷ 0x21 ∷ []) 3
    -- equal groups with a repeat inside, at limit 1 too
    ∷ run 1024 unit (times 2 (group_05 (a ++ a ++ a)))
    gives fold_is (0x20 ∷ 0x00 ∷ 0x02 ∷ 0x00 ∷ 0x01 ∷ 0x11 ∷ 0x05 ∷ 0x20 ∷ 0x00 ∷ 0x03 ∷ 0x00 ∷ 0x01 ∷ 0x10 ∷ 0x01 ∷ 0x21 ∷ 0x12 ∷ 0x21 ∷ []) 4
    ∷ run 1 unit (times 2 (group_05 (a ++ a ++ a)))
    gives fold_is (0x20 ∷ 0x00 ∷ 0x02 ∷ 0x00 ∷ 0x01 ∷ 0x11 ∷ 0x05 ∷ 0x20 ∷ 0x00 ∷ 0x03 ∷ 0x00 ∷ 0x01 ∷ 0x10 ∷ 0x01 ∷ 0x21 ∷ 0x12 ∷ 0x21 ∷ []) 4
    -- every group costs 4 and all else is at unit costs
    ∷ run 1024 (nodes_at 1 4 1 0) (times 2 (group_05 (a ++ a ++ a)))
    gives fold_is (0x20 ∷ 0x00 ∷ 0x02 ∷ 0x00 ∷ 0x01 ∷ 0x11 ∷ 0x05 ∷ 0x20 ∷ 0x00 ∷ 0x03 ∷ 0x00 ∷ 0x01 ∷ 0x10 ∷ 0x01 ∷ 0x21 ∷ 0x12 ∷ 0x21 ∷ []) 7
    -- two groups are repeated where a group is dear, and are not where it is cheap
    ∷ run 1024 (nodes_at 1 4 3 0) (times 2 (group_05 a))
    gives fold_is (0x20 ∷ 0x00 ∷ 0x02 ∷ 0x00 ∷ 0x01 ∷ 0x11 ∷ 0x05 ∷ 0x10 ∷ 0x01 ∷ 0x12 ∷ 0x21 ∷ []) 8
    ∷ run 1024 (nodes_at 1 1 3 0) (times 2 (group_05 a)) gives fold_is (times 2 (group_05 a)) 4
    -- label 01 marked, and another one
    ∷ run 1024 (unit_with (mark_of 1)) (times 3 a) gives fold_is (times 3 a) 3
    ∷ run 1024 (unit_with (mark_of 2)) (times 3 a) gives fold_is (0x20 ∷ 0x00 ∷ 0x03 ∷ 0x00 ∷ 0x01 ∷ 0x10 ∷ 0x01 ∷ 0x21 ∷ []) 2
    -- a marked step between free ones, which are repeated beside it
    ∷ run 1024 (unit_with (mark_of 2)) (times 2 (times 3 a ++ b))
    gives fold_is (times 2 (0x20 ∷ 0x00 ∷ 0x03 ∷ 0x00 ∷ 0x01 ∷ 0x10 ∷ 0x01 ∷ 0x21 ∷ b)) 6
    -- a free group that holds a marked step is not repeated, and one that holds a free step is
    ∷ run 1024 (unit_with (mark_of 1)) (times 2 (group_05 a)) gives fold_is (times 2 (group_05 a)) 4
    ∷ run 1024 (unit_with (mark_of 2)) (times 2 (group_05 a))
    gives fold_is (0x20 ∷ 0x00 ∷ 0x02 ∷ 0x00 ∷ 0x01 ∷ 0x11 ∷ 0x05 ∷ 0x10 ∷ 0x01 ∷ 0x12 ∷ 0x21 ∷ []) 3
    -- a marked group is not repeated, and what it holds is
    ∷ run 1024 (unit_with (mark_of 5)) (group_05 (times 3 a)) gives fold_is (group_05 (0x20 ∷ 0x00 ∷ 0x03 ∷ 0x00 ∷ 0x01 ∷ 0x10 ∷ 0x01 ∷ 0x21 ∷ [])) 3
    ∷ run 1024 (unit_with (mark_of 5)) (times 2 (group_05 (times 3 a)))
    gives fold_is (times 2 (group_05 (0x20 ∷ 0x00 ∷ 0x03 ∷ 0x00 ∷ 0x01 ∷ 0x10 ∷ 0x01 ∷ 0x21 ∷ []))) 6
    -- every label marked
    ∷ run 1024 (unit_with all_marks) (times 4 a ++ group_05 (times 3 b)) gives fold_is (times 4 a ++ group_05 (times 3 b)) 8
    -- the example of refusal 19, and a marked step that is not repeated
    ∷ fold 1024 (unit_with (mark_of 7)) (0x20 ∷ 0x00 ∷ 0x02 ∷ 0x00 ∷ 0x01 ∷ 0x10 ∷ 0x07 ∷ 0x21 ∷ []) gives refusal_is 19 5
    ∷ fold 1024 (unit_with (mark_of 1)) (times 3 a) gives run_is (times 3 a) 3
    -- the examples of refusals 5 and 9
    ∷ run 1024 unit (0x11 ∷ 0x05 ∷ 0x12 ∷ []) gives refusal_is 5 2
    ∷ fold 1024 unit (0x20 ∷ 0x00 ∷ 0x02 ∷ 0x00 ∷ 0x02 ∷ 0x10 ∷ 0x07 ∷ 0x21 ∷ []) gives refusal_is 9 7
    -- more: a tie of six folds at cost 2: (2, 3) and (3, 2) take two repeats, (2, 1) and (2, 2) one more; then the smaller count
    ∷ run 1024 (labels_at 1 0 1) (times 6 a)
    gives fold_is (0x20 ∷ 0x00 ∷ 0x02 ∷ 0x00 ∷ 0x03 ∷ 0x10 ∷ 0x01 ∷ 0x20 ∷ 0x00 ∷ 0x02 ∷ 0x00 ∷ 0x01 ∷ 0x10 ∷ 0x01 ∷ 0x21 ∷ 0x21 ∷ []) 2
    -- more: repeats inside a group count, and outside of it too, where three groups tie with a group and two
    ∷ run 1024 (labels_at 1 0 0) (group_05 (times 4 a)) gives fold_is (group_05 (0x20 ∷ 0x00 ∷ 0x04 ∷ 0x00 ∷ 0x01 ∷ 0x10 ∷ 0x01 ∷ 0x21 ∷ [])) 2
    ∷ run 1024 (labels_at 1 0 2) (times 3 (group_05 (a ++ a)))
    gives fold_is (0x20 ∷ 0x00 ∷ 0x03 ∷ 0x00 ∷ 0x01 ∷ 0x11 ∷ 0x05 ∷ 0x20 ∷ 0x00 ∷ 0x02 ∷ 0x00 ∷ 0x01 ∷ 0x10 ∷ 0x01 ∷ 0x21 ∷ 0x12 ∷ 0x21 ∷ []) 4
    -- more: a body's repeats count once, nested as side by side; then the plain node goes first
    ∷ run 1024 (labels_at 1 0 1) (a ++ b ++ a ++ times 4 b)
    gives fold_is (a ++ b ++ a ++ 0x20 ∷ 0x00 ∷ 0x02 ∷ 0x00 ∷ 0x02 ∷ 0x20 ∷ 0x00 ∷ 0x02 ∷ 0x00 ∷ 0x01 ∷ 0x10 ∷ 0x02 ∷ 0x21 ∷ 0x21 ∷ []) 4
    -- more: with as many repeats the plain node goes first, then the smaller count, then the smaller width
    ∷ run 1024 (labels_at 1 0 1) (times 3 a) gives fold_is (a ++ 0x20 ∷ 0x00 ∷ 0x02 ∷ 0x00 ∷ 0x01 ∷ 0x10 ∷ 0x01 ∷ 0x21 ∷ []) 2
    ∷ run 1024 (labels_at 2 2 1) (times 4 a) gives fold_is (0x20 ∷ 0x00 ∷ 0x02 ∷ 0x00 ∷ 0x02 ∷ 0x10 ∷ 0x01 ∷ 0x10 ∷ 0x01 ∷ 0x21 ∷ []) 6
    ∷ run 1024 (labels_at 1 0 0) (times 2 (a ++ a ++ b) ++ a ++ a)
    gives fold_is (0x20 ∷ 0x00 ∷ 0x02 ∷ 0x00 ∷ 0x01 ∷ 0x10 ∷ 0x01 ∷ 0x21 ∷ 0x20 ∷ 0x00 ∷ 0x02 ∷ 0x00 ∷ 0x03 ∷ 0x10 ∷ 0x02 ∷ 0x20 ∷ 0x00 ∷ 0x02 ∷ 0x00 ∷ 0x01 ∷ 0x10 ∷ 0x01 ∷ 0x21 ∷ 0x21 ∷ []) 3
    -- more: each is paid for the copies past the second
    ∷ run 1024 (labels_at 3 1 1) (times 4 a)
    gives fold_is (0x20 ∷ 0x00 ∷ 0x02 ∷ 0x00 ∷ 0x02 ∷ 0x20 ∷ 0x00 ∷ 0x02 ∷ 0x00 ∷ 0x01 ∷ 0x10 ∷ 0x01 ∷ 0x21 ∷ 0x21 ∷ []) 5
    -- the same at limit 1, which bars the nested body: it is one item but two siblings
    ∷ run 1 (labels_at 3 1 1) (times 4 a) gives fold_is (0x20 ∷ 0x00 ∷ 0x04 ∷ 0x00 ∷ 0x01 ∷ 0x10 ∷ 0x01 ∷ 0x21 ∷ []) 6
    ∷ run 1024 (labels_at 4 3 1) (times 3 a) gives fold_is (0x20 ∷ 0x00 ∷ 0x03 ∷ 0x00 ∷ 0x01 ∷ 0x10 ∷ 0x01 ∷ 0x21 ∷ []) 8
    ∷ run 1024 (labels_at 2 3 2) (times 3 a) gives fold_is (times 3 a) 6
    -- more: equal labels do not make equal groups
    ∷ run 1024 unit (group_05 a ++ group_05 b ++ group_05 a) gives fold_is (group_05 a ++ group_05 b ++ group_05 a) 6
    ∷ run 1024 unit (times 2 (group_05 a ++ group_05 b))
    gives fold_is (0x20 ∷ 0x00 ∷ 0x02 ∷ 0x00 ∷ 0x02 ∷ 0x11 ∷ 0x05 ∷ 0x10 ∷ 0x01 ∷ 0x12 ∷ 0x11 ∷ 0x05 ∷ 0x10 ∷ 0x02 ∷ 0x12 ∷ 0x21 ∷ []) 5
    -- more: steps by their table and groups by theirs, whatever the label
    ∷ run 1024 unlike (group_05 (a ++ 0x11 ∷ 0x01 ∷ b ++ 0x12 ∷ []) ++ 0x11 ∷ 0x02 ∷ a ++ 0x12 ∷ [])
    gives fold_is (group_05 (a ++ 0x11 ∷ 0x01 ∷ b ++ 0x12 ∷ []) ++ 0x11 ∷ 0x02 ∷ a ++ 0x12 ∷ []) 22
    -- more: labels that cost nothing, all of them or a alone with b at 3
    ∷ run 1024 (labels_at 0 0 0) (times 4 a) gives fold_is (times 4 a) 0
    ∷ run 1024 (free_a 2) (times 2 (a ++ b))
    gives fold_is (0x20 ∷ 0x00 ∷ 0x02 ∷ 0x00 ∷ 0x02 ∷ 0x10 ∷ 0x01 ∷ 0x10 ∷ 0x02 ∷ 0x21 ∷ []) 5
    ∷ run 1024 (free_a 3) (times 2 (a ++ b)) gives fold_is (times 2 (a ++ b)) 6
    ∷ run 1024 (free_a 2) (times 3 a) gives fold_is (times 3 a) 0
    -- more: a cheapest fold that is longer than its run
    ∷ run 1024 (labels_at 1 0 0) (a ++ a ++ b ++ b)
    gives fold_is (0x20 ∷ 0x00 ∷ 0x02 ∷ 0x00 ∷ 0x01 ∷ 0x10 ∷ 0x01 ∷ 0x21 ∷ 0x20 ∷ 0x00 ∷ 0x02 ∷ 0x00 ∷ 0x01 ∷ 0x10 ∷ 0x02 ∷ 0x21 ∷ []) 2
    -- more: a fold read back
    ∷ fold 1024 (labels_at 1 1 5) (0x20 ∷ 0x00 ∷ 0x02 ∷ 0x00 ∷ 0x02 ∷ 0x10 ∷ 0x01 ∷ 0x10 ∷ 0x01 ∷ 0x21 ∷ [])
    gives run_is (times 4 a) 3
    ∷ []

-- The statement: the definitions give every known answer.
abbrev pub Known : Type 0
Known = map answered known ≡ map expected known
