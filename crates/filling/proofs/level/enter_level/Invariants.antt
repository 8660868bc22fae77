-- What is known of the rows from sibling i on, and that the lists have their lengths.
use mathlib.Core.Path.{◌≡◌}
use lib.ListN.{length}
use Rattle.filling.proofs.Levels.{Descended}
use Rattle.filling.proofs.level.enter_level.Given as goal

abbrev pub invariant-loop-i : goal.invariant-loop-i
invariant-loop-i l =
    Descended l.s l.level.span.behind l.level.limit l.tables.steps.now l.tables.groups.now l.tables.marks.now l.tables.repeats.now l.initial.costs l.initial.choices l.i l.costs l.choices l.scratch.rows.matches l.scratch.rows.extents l.scratch.rows.tails l.scratch.rows.stops
    × (l.scratch.siblings ≡ l.initial.scratch.siblings)
    × (length l.scratch.siblings.numbers ≡ 1025)
    × (length l.scratch.siblings.kinds ≡ 1025)
    × (length l.scratch.rows.extents ≡ 1025)
    × (length l.scratch.rows.tails ≡ 1025)
    × (length l.scratch.rows.stops ≡ 1025)
