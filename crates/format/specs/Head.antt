-- What is checked at an entry point before the first command: of the two lent cost tables, of the width limit and of the marks.
use Rattle.std.specs.Prelude.{Bool, true, not, ◌&&◌, List, [], ◌∷◌, ℕ, ltb, leb, eqb, length}
use Rattle.format.specs.Limits.{Limits, limits, Tariff}
use Rattle.format.specs.Machine.{Check, ◌when◌, first_of, Outcome, unless}
pub use Rattle.format.specs.declared.head.Head.{Head}

-- Refusals 11, 15, 12 and 18, in the order of docs/REFUSALS.md.
unfoldable pub head_checks : Limits → Head → List Check
head_checks L h =
    11 when not (eqb h.steps L.labels)
    ∷ 15 when not (eqb h.groups L.labels)
    ∷ 12 when ltb L.width h.limit
    ∷ 18 when not h.marks
    ∷ []

-- The first head check that applies, at place 0, else what follows.
unfoldable pub headed : Limits → Head → Outcome → Outcome
unfolding head_checks
headed L h next = unless (first_of (head_checks L h)) 0 0 next

-- Marks are in order: one for each label, and each is 0 or 1.
unfoldable pub each_mark : List ℕ → Bool
each_mark [] = true
each_mark (b ∷ s) = leb b 1 && each_mark s

unfoldable pub marks_in_order : Limits → List ℕ → Bool
unfolding each_mark
marks_in_order L s = eqb (length s) L.labels && each_mark s

-- The head of an entry point that takes a limit and no costs: for these it hands what no check refuses.
abbrev pub limit_head : (limit : ℕ) → Head
limit_head k = record { steps = limits.labels; groups = limits.labels; limit = k; marks = true }

-- The head of an entry point that takes costs and a limit.
abbrev pub full_head : Tariff → (limit : ℕ) → Head
full_head T k =
    record { steps = length T.steps; groups = length T.groups; limit = k; marks = marks_in_order limits T.marks }
