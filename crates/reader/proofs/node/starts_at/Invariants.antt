-- The invariant: whether a node starts at `at` is what it is from the next command on, after `skip` operand bytes.
use Rattle.reader.proofs.Nodes.{Counted}
use Rattle.reader.proofs.node.starts_at.Given as goal

abbrev pub invariant-loop-c : goal.invariant-loop-c
invariant-loop-c l = Counted l.fn.run l.at l.c-index l.skip
