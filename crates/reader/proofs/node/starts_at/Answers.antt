-- `node::starts_at` meets its contract.
use mathlib.Core.Path.{◌∙◌}
use Rattle.reader.proofs.Nodes.{counted_command, counted_operand}
use Rattle.reader.proofs.node.starts_at.Goals as goal
use Rattle.reader.proofs.node.starts_at.Goals.{then-skip-eq0, else-skip-eq0}

pub loop-c-preserved : goal.loop-c-preserved
loop-c-preserved c =
    let inside = c.if-run-at.false in
    let l = c.loop-c.invariant in
    let n = c.loop-c-test.true in
    elim c.if-skip-eq0.branch [
      | then-skip-eq0 w ↦ counted_command _ _ _ _ inside l n w.if-skip-eq0.true _ (w.skip-is ∙ w.operand_bytes-skip.ensures)
      | else-skip-eq0 w ↦ counted_operand _ _ _ _ inside l n w.if-skip-eq0.false _ w.skip-is
    ]
