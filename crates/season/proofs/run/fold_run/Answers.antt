-- `fold_run` meets its contract: filled, written by the blocks, and cleared.
use native.Mathlib.Omega.{arith}
use Rattle.season.proofs.Runs.{run_filled, run_folded}
use Rattle.season.proofs.run.fold_run.Goals as goal

pub put_run-folded-requires : goal.put_run-folded-requires
put_run-folded-requires c =
    let p = c.requires.prices_are in
    (_, (p.0, run_filled c.requires.fill_ready c.fill.ensures.filled_from c.fill.ensures.kept_past p.0 p.1))

pub returns : goal.returns
returns c =
    run_folded c.requires.fill_ready c.fill.ensures.filled_from c.fill.ensures.kept_past c.entries.result (omega (arith, c.entries.ensures)) c.put_run-folded.ensures _ c.clear.ensures
