-- `put_run` meets its contract: the length decides, and what is written is the fold.
use native.Mathlib.Omega.{arith}
use Rattle.blocks.specs.Keys.{slot, tail_slot}
use Rattle.tails.proofs.Offers.{read_both}
use Rattle.season.proofs.Runs.{write_fits, written_short, written_whole}
use Rattle.season.proofs.run.put_run.Goals as goal

pub fold_length-length-requires : goal.fold_length-length-requires
fold_length-length-requires c = write_fits c.requires.1.1

pub returns-then-out-length : goal.returns-then-out-length
returns-then-out-length c =
    written_short c.fold_length-length.result c.fold_length-length.ensures c.args.out.now (omega (arith, c.if-out-length.true)) _ (rw c.at.ensures)

pub put_steps-requires : goal.put_steps-requires
put_steps-requires c = write_fits c.requires.1.1

pub returns : goal.returns
returns c =
    let e = read_both c.args.work.now (slot 0 tail_slot) c.key_at-whole.ensures.0 c.slot.ensures in
    written_whole c.fold_length-length.result c.fold_length-length.ensures c.args.out.now (omega (arith, c.if-out-length.false)) _ (omega (arith, e)) _ c.put_steps.result
    c.put_steps.ensures
