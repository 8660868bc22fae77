-- `part` meets its contract.
use Rattle.std.proofs.Common.{sym, ◌∙◌}
use Rattle.reader.proofs.Nodes.{part_refused, part_none, part_node, said_refused, said_accepted}
use Rattle.reader.proofs.part.Goals as goal
use Rattle.reader.proofs.part.Goals.{then-is_err-via-then-is_err, then-is_err-via-else-is_err+then-not-starts_at}

pub returns-then-is_err : goal.returns-then-is_err
returns-then-is_err c =
    elim c.then-is_err.branch [
      | then-is_err-via-then-is_err w ↦ part_refused _ _ _ c.read_run.ensures (said_refused c.read_run.result (sym c.is_err.ensures.value ∙ w.if-is_err.true))
      | then-is_err-via-else-is_err+then-not-starts_at w ↦ part_none _ _ _ c.read_run.ensures (said_accepted c.read_run.result (sym c.is_err.ensures.value ∙ w.if-is_err.false)) (sym (w.if-not-starts_at.true) ∙ w.starts_at.ensures)
    ]

pub returns : goal.returns
returns c =
    c.node_at.ensures ∙ part_node _ _ _ c.read_run.ensures (said_accepted c.read_run.result (sym c.is_err.ensures.value ∙ c.if-is_err.false)) (sym c.starts_at.ensures ∙ c.if-not-starts_at.false)
