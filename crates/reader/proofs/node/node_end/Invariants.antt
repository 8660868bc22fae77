-- The invariant: the node ends where the outermost of the d open groups does, from q on, after `skip` operand bytes.
use Rattle.reader.proofs.Nodes.{Ending}
use Rattle.reader.proofs.node.node_end.Given as goal

abbrev pub invariant-loop-q : goal.invariant-loop-q
invariant-loop-q l = Ending l.run l.at l.q l.d l.skip
