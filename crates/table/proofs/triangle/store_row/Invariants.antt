use Prim.Native.Nat.{◌+◌, ◌-◌, ◌≤◌}
use lib.ListN.{get_or}
use Rattle.table.specs.Keys.{cost_digit, choice_digits}
use Rattle.table.specs.Table.{Stored}
use Rattle.table.proofs.triangle.store_row.Given as goal

abbrev pub invariant-loop-d : goal.invariant-loop-d
invariant-loop-d l =
    (l.d ≤ l.n + 1)
    × Stored l.numbers l.i (l.d - 1) (λ e. cost_digit (get_or l.keys e 0)) l.initial.costs l.costs
    × Stored l.numbers l.i (l.d - 1) (λ e. choice_digits (get_or l.keys e 0)) l.initial.choices l.choices
