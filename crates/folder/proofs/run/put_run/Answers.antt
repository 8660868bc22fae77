-- `folder::run::put_run` meets its contract: the length decides, and what is written is the fold.
use mathlib.Core.Path.{refl}
use native.Mathlib.Omega.{arith}
use Rattle.folder.proofs.Runs.{write_ready, written_short, written_whole}
use Rattle.folder.proofs.run.put_run.Goals as goal

pub fold_length-length-requires : goal.fold_length-length-requires
fold_length-length-requires c = write_ready _ c.requires.run_filled.1.1 c.requires.run_listed

pub returns-then-out-length : goal.returns-then-out-length
returns-then-out-length c =
    let L = c.fold_length-length in
    rw c.at.ensures
    (written_short c.args.source.now c.requires.run_listed L.result L.ensures c.args.out.now (omega (arith, c.if-out-length.true)) _ refl)

pub write_run-requires : goal.write_run-requires
write_run-requires c = write_ready c.args.source.now c.requires.run_filled.1.1 c.requires.run_listed

pub returns : goal.returns
returns c =
    let L = c.fold_length-length in
    let x = c.whole_cost.ensures in
    written_whole c.args.source.now c.requires.run_listed L.result L.ensures _ (omega (arith, c.if-out-length.false)) c.whole_cost.result x.0 x.1
    _ c.write_run.result c.write_run.ensures
