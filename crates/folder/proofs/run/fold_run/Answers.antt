-- `folder::run::fold_run` meets its contract: listed, filled, written by the table, and cleared.
use Rattle.folder.proofs.Runs.{run_folded}
use Rattle.folder.proofs.run.fold_run.Goals as goal

pub put_run-r-requires-clause-run_filled : goal.put_run-r-requires-clause-run_filled
put_run-r-requires-clause-run_filled c = (_, (_, c.fill.ensures.filled))

pub returns : goal.returns
returns c =
    run_folded c.requires c.fill.ensures.kept c.fill.ensures.filled c.entries-used.result c.entries-used.ensures c.put_run-r.ensures
    (c.fill-2.ensures.after (λ y e. e)) (c.fill-3.ensures.after (λ y e. e))
