-- `admit` meets its contract.
use Rattle.std.proofs.Common.{refl, ◌∙◌}
use Rattle.std.proofs.lemmas.Result.{err_from_is_err_and}
use Rattle.format.proofs.Numbered.{numbered}
use Rattle.reader.proofs.Answers.{admit_refused, admit_read}
use Rattle.reader.proofs.admit.Goals as goal

pub returns-in_err-check : goal.returns-in_err-check
returns-in_err-check g c =
    let p = err_from_is_err_and c.from_residual.result c.from_residual.ensures.1 in
    let checked = c.in_err-check.ensures in
    rw (p.1, p.2, checked.ahead) (admit_refused g.K.Kind.bounds c.args.head _ (rw c.limits.ensures at checked.number) c.args.run.now (numbered _))

pub returns : goal.returns
returns g c =
    c.read_run.ensures ∙ admit_read g.K.Kind.bounds c.args.head 0 (rw c.limits.ensures at c.in_ok-check.ensures.number) c.args.run.now refl
