-- Examples of season runs and season folds, checked by computation: 21 and its place among the checks, the season's own limits met
-- and passed, and what is counted.
use mathlib.Core.Path.{refl}
use mathlib.Core.List.{List, [], ◌∷◌, ◌++◌}
use Prim.Native.Nat.{ℕ}
use Rattle.format.specs.Machine.{times}
use Rattle.format.specs.Head.{marks_in_order}
use Rattle.format.specs.Marks.{mark_of}
use Rattle.format.proofs.Examples.{Asked, season_run, season_with, Case, ◌gives◌, answered, expected, Hold, sized, marked_with, a_refusal, fold_values, run_values, one_step, group_start, grouping, repeat_start, repeating}

-- A season fold at unit costs and limit 32.
abbrev pub season_fold : List ℕ → Asked
season_fold s = season_with 32 (sized 256 256) s

unfoldable pub seasons : List Case
unfolding times
seasons =
    -- 21 at every `11`, in a run and in a fold, inside a repeat too
    season_run (one_step ++ group_start) gives a_refusal 21 2
    ∷ season_run (grouping one_step) gives a_refusal 21 0
    ∷ season_fold (repeating 2 1 (grouping (0x10 ∷ 0x01 ∷ []))) gives a_refusal 21 5
    -- 1 and 2 before what follows, 21 before 3: a label that is missing
    ∷ season_run (0x13 ∷ 0x11 ∷ []) gives a_refusal 1 0
    ∷ season_run (0x21 ∷ 0x11 ∷ []) gives a_refusal 2 0
    ∷ season_run (0x11 ∷ []) gives a_refusal 21 0
    ∷ season_fold (0x11 ∷ []) gives a_refusal 21 0
    -- before 19 and 10: a marked label inside a repeat, behind 65,535 nodes
    ∷ season_with 32 (marked_with (mark_of 5)) (repeat_start 2 1 ++ group_start) gives a_refusal 21 5
    ∷ season_fold (repeating 65535 1 one_step ++ group_start) gives a_refusal 21 8
    -- 65,535 nodes and no more
    ∷ season_fold (repeating 65535 1 one_step) gives fold_values 65535 131070 2 65535 0
    ∷ season_fold (repeating 65535 1 one_step ++ one_step) gives a_refusal 10 8
    ∷ season_fold (repeating 65535 2 (one_step ++ one_step)) gives a_refusal 10 9
    -- width limit 32 and no more; a width at the limit and past it
    ∷ season_with 33 (sized 256 256) [] gives a_refusal 12 0
    ∷ season_fold (repeating 2 32 (times 32 one_step)) gives fold_values 64 128 33 64 0
    ∷ season_fold (repeating 2 33 (times 33 one_step)) gives a_refusal 7 0
    -- ten repeats inside each other and no more
    ∷ season_fold (times 10 (repeat_start 2 1)) gives a_refusal 3 50
    ∷ season_fold (times 11 (repeat_start 2 1)) gives a_refusal 8 50
    -- the other refusals as ever; `22` is unknown
    ∷ season_with 32 (sized 255 256) [] gives a_refusal 11 0
    ∷ season_with 32 (sized 256 255) [] gives a_refusal 15 0
    ∷ season_with 32 (marked_with []) [] gives a_refusal 18 0
    ∷ season_with 32 (marked_with (mark_of 7)) (repeating 2 1 one_step) gives a_refusal 19 5
    ∷ season_fold (0x22 ∷ 0x02 ∷ 0x01 ∷ one_step ++ 0x21 ∷ []) gives a_refusal 1 0
    -- flat runs: nothing, three steps
    ∷ season_run [] gives run_values 0 0 0
    ∷ season_run (times 3 one_step) gives run_values 3 3 0
    ∷ []

pub seasons_hold : Hold seasons
unfolding answered expected seasons marks_in_order
seasons_hold = refl
