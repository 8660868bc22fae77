-- The bytes inside each group are fewer. The loop passes the siblings, with all below those passed entered.
use Rattle.std.proofs.Common.{length}
use Rattle.format.specs.Limits.{allowed}
use Rattle.filling.specs.Filling.{counted_of}
use Rattle.filling.proofs.Recursion.{Through}
use Rattle.filling.proofs.level.+enter_tree.Given as goal

abbrev pub decreases-enter_tree : goal.decreases-enter_tree
decreases-enter_tree l = length l.s.now

abbrev pub invariant-loop-q : goal.invariant-loop-q
invariant-loop-q l =
    Through (allowed l.level.limit l.tables.marks.now) (counted_of l.tables.steps.now l.tables.groups.now l.tables.repeats.now) l.s l.level.span.behind l.initial.costs l.initial.choices l.costs l.choices l.q

abbrev pub decreases-loop-q : goal.decreases-loop-q
decreases-loop-q l = l.q
