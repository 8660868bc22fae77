-- `read_run` meets its contract.
use Rattle.std.proofs.Common.{false}
use Rattle.std.proofs.lemmas.Result.{err_from_is_err_and}
use Rattle.reader.proofs.Answers.{whole_free, run_refused, run_read}
use Rattle.reader.proofs.read_run.Goals as goal

pub returns-in_err-whole : goal.returns-in_err-whole
returns-in_err-whole g c =
    let p = err_from_is_err_and c.from_residual.result c.from_residual.ensures.1 in
    rw (p.1, p.2) (run_refused g.K.Kind.bounds _ c.args.run.now c.none.result _ c.in_err-whole.ensures c.none.ensures c.limits.ensures)

pub returns : goal.returns
returns g c =
    rw c.from.ensures (run_read g.K.Kind.bounds c.args.run.now _ (whole_free c.none.result c.none.ensures _ false false 0 _ _ (rw c.limits.ensures at c.in_ok-whole.ensures)))
