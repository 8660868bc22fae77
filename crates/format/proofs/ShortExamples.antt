-- Examples of the short family, checked by computation: what the short reader answers, in which order its checks come, and which
-- form a fold has in each family.
use mathlib.Core.Path.{◌≡◌, refl}
use mathlib.Core.List.{List, [], ◌∷◌, ◌++◌, map}
use Prim.Native.Nat.{ℕ}
use Rattle.format.specs.Machine.{times}
use Rattle.format.specs.Head.{marks_in_order}
use Rattle.format.specs.Marks.{mark_of}
use Rattle.format.specs.Family.{converted_from, short_form, long_form}
use Rattle.format.proofs.Examples.{Asked, run, short_with, Case, ◌gives◌, answered, expected, Hold, sized, marked_with, fold, a_refusal, fold_values, one_step, grouping, repeat_start, repeating}

-- What opens a repeat by a `22`, and a whole one.
abbrev pub short_start : (count width : ℕ) → List ℕ
short_start h w = 0x22 ∷ h ∷ w ∷ []

abbrev pub shortly : (count width : ℕ) → List ℕ → List ℕ
shortly h w s = short_start h w ++ s ++ 0x21 ∷ []

-- A short fold at unit costs; the limit is 1,024 unless named.
abbrev pub short_within : ℕ → List ℕ → Asked
short_within k s = short_with k (sized 256 256) s

abbrev pub short : List ℕ → Asked
short s = short_within 1024 s

-- Short folds that are read, and the checks at a `22` and at a `20`.
unfoldable pub shorts : List Case
unfolding times
shorts =
    -- aaa
    short (shortly 3 1 (0x10 ∷ 0x01 ∷ [])) gives fold_values 3 6 2 3 0
    -- counts and widths of 255 and 256: the border is between them
    ∷ short (shortly 255 1 one_step) gives fold_values 255 510 2 255 0
    ∷ short (repeating 255 1 one_step) gives a_refusal 20 0
    ∷ short (repeating 256 1 one_step) gives fold_values 256 512 2 256 0
    ∷ short (shortly 2 255 (shortly 255 1 one_step)) gives fold_values 510 1020 3 510 0
    ∷ short (repeating 2 255 (shortly 255 1 one_step)) gives a_refusal 20 0
    ∷ short (repeating 2 256 (shortly 128 2 (one_step ++ one_step))) gives fold_values 512 1024 4 512 0
    -- a `20` around a `22`, and a `22` around a `20`
    ∷ short (repeating 256 2 (shortly 2 1 one_step)) gives fold_values 512 1024 3 512 0
    ∷ short (shortly 2 1 (grouping (repeating 256 1 one_step))) gives fold_values 514 1030 4 512 1
    -- `22` is unknown in a fold and in a run
    ∷ fold (shortly 3 1 one_step) gives a_refusal 1 0
    ∷ run (one_step ++ shortly 3 1 one_step) gives a_refusal 1 2
    -- an operand byte is missing, of a `22` and of a `20`
    ∷ short (0x22 ∷ []) gives a_refusal 3 1
    ∷ short (0x22 ∷ 0x03 ∷ []) gives a_refusal 3 2
    ∷ short (0x20 ∷ 0x00 ∷ 0x02 ∷ 0x00 ∷ []) gives a_refusal 3 4
    -- 6 and 7 before 20, 20 before 8; at a `22` 6, then 7, then 8
    ∷ short_within 1 (times 10 (short_start 2 1) ++ repeat_start 1 2) gives a_refusal 6 30
    ∷ short_within 1 (times 10 (short_start 2 1) ++ repeat_start 2 2) gives a_refusal 7 30
    ∷ short (times 10 (short_start 2 1) ++ repeat_start 2 2) gives a_refusal 20 30
    ∷ short_within 1 (times 10 (short_start 2 1) ++ short_start 1 2) gives a_refusal 6 30
    ∷ short_within 1 (times 10 (short_start 2 1) ++ short_start 2 2) gives a_refusal 7 30
    ∷ short (times 10 (short_start 2 1) ++ short_start 2 2) gives a_refusal 8 30
    -- what a `21` is refused with, behind a `22` as behind a `20`
    ∷ short (short_start 2 1 ++ one_step ++ 0x12 ∷ []) gives a_refusal 4 5
    ∷ short (shortly 2 1 []) gives a_refusal 5 3
    ∷ short (shortly 2 2 one_step) gives a_refusal 9 5
    ∷ short (shortly 255 5 (times 5 one_step)) gives a_refusal 10 13
    -- a marked label in it
    ∷ short_with 1024 (marked_with (mark_of 7)) (shortly 2 1 one_step) gives a_refusal 19 3
    ∷ []

pub shorts_hold : Hold shorts
unfolding answered expected shorts marks_in_order
shorts_hold = refl

-- Folds, and their short forms.
unfoldable pub folds : List (List ℕ)
folds =
    []
    ∷ one_step
    ∷ repeating 3 1 (0x10 ∷ 0x01 ∷ [])
    ∷ repeating 255 1 one_step
    ∷ repeating 256 1 one_step
    ∷ repeating 2 256 (repeating 128 2 (one_step ++ one_step))
    ∷ repeating 256 2 (repeating 2 1 one_step)
    ∷ (repeating 2 1 (grouping (repeating 256 1 one_step)) ++ one_step)
    -- a label may look like a command
    ∷ repeating 2 1 (0x11 ∷ 0x22 ∷ 0x10 ∷ 0x20 ∷ 0x12 ∷ [])
    ∷ []

unfoldable pub forms : List (List ℕ)
forms =
    []
    ∷ one_step
    ∷ shortly 3 1 (0x10 ∷ 0x01 ∷ [])
    ∷ shortly 255 1 one_step
    ∷ repeating 256 1 one_step
    ∷ repeating 2 256 (shortly 128 2 (one_step ++ one_step))
    ∷ repeating 256 2 (shortly 2 1 one_step)
    ∷ (shortly 2 1 (grouping (repeating 256 1 one_step)) ++ one_step)
    ∷ shortly 2 1 (0x11 ∷ 0x22 ∷ 0x10 ∷ 0x20 ∷ 0x12 ∷ [])
    ∷ []

pub forms_hold : (map short_form folds ≡ forms) × (map long_form forms ≡ folds)
unfolding folds forms converted_from
forms_hold = (refl, refl)
