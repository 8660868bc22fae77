-- `put_form` meets its contract.
use Rattle.std.proofs.Common.{◌+◌, arith}
use Rattle.put.proofs.Along.{along_whole}
use Rattle.convert.proofs.Forms.{nothing_left, command_fits, behind_command}
use Rattle.convert.proofs.form.put_form.Goals as goal

pub put_command-to-requires-clause-at_bound : goal.put_command-to-requires-clause-at_bound
put_command-to-requires-clause-at_bound c =
    command_fits c.args.short c.args.s.now c.loop-at.at c.loop-at-test.true c.loop-at.invariant _ c.requires

pub loop-at-preserved : goal.loop-at-preserved
loop-at-preserved c =
    let e = c.put_command-to.ensures in
    behind_command c.args.short c.args.s.now c.loop-at.at c.loop-at-test.true c.loop-at.invariant c.put_command-to.result c.put_command-to.new.out (c.loop-at.at + 1 + c.operand_bytes.result) e.value e.out_after
    (omega (arith, c.operand_bytes.ensures))

pub returns : goal.returns
returns c =
    let w = along_whole (rw (nothing_left c.args.short c.args.s.now c.loop-at.at c.loop-at-test.false) at c.loop-at.invariant) in
    record { value = omega (arith, w.0); out_after = w.1 }
