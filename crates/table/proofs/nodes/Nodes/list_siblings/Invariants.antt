use mathlib.Core.Path.{◌≡◌}
use Prim.Native.Nat.{◌≤◌}
use Rattle.format.specs.Tree.{tree_of}
use Rattle.table.proofs.Following.{Followed}
use Rattle.table.proofs.nodes.Nodes.list_siblings.Given as goal

abbrev pub invariant-loop-q : goal.invariant-loop-q
invariant-loop-q l = (l.row.kinds ≡ l.initial.row.kinds) × (l.m ≤ 1024) × (l.q ≤ 1024) × Followed l.behind (tree_of l.s) l.row.offsets l.row.numbers l.m l.q

abbrev pub decreases-loop-q : goal.decreases-loop-q
decreases-loop-q l = l.q
