-- `node_at` meets its contract.
use Rattle.reader.proofs.Nodes.{node_none, node_rest, node_whole}
use Rattle.reader.proofs.node_at.Goals as goal

pub returns-then-s-at : goal.returns-then-s-at
returns-then-s-at c =
    node_none _ _ c.if-s-at.true

pub returns-then-s-end : goal.returns-then-s-end
returns-then-s-end c =
    node_rest _ _ _ c.node_end-end.ensures c.if-s-end.true

pub returns : goal.returns
returns c =
    node_whole _ _ _ c.node_end-end.ensures
