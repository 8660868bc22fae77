-- `leave_group` meets its contract.
use Rattle.walk.proofs.Commands.{left_open}
use Rattle.walk.proofs.command.leave_group.Goals as goal

pub returns-then-at-s : goal.returns-then-at-s
returns-then-at-s c =
    λ d. rw c.at.ensures (left_open c.args.a.now c.args.s.now d c.args.at c.args.t c.args.i c.requires.halted c.requires.nodes.1 c.if-at-s.true _ _)
