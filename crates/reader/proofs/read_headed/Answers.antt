-- `read_headed` meets its contract.
use Rattle.std.proofs.Common.{refl, ◌∙◌}
use Rattle.std.proofs.lemmas.Result.{err_from_is_err_and}
use Rattle.format.proofs.Numbered.{numbered}
use Rattle.reader.proofs.Answers.{entry_refused, entry_read, fold_refused, fold_read}
use Rattle.reader.proofs.read_headed.Goals as goal

pub returns-in_err-check : goal.returns-in_err-check
returns-in_err-check g c =
    let p = err_from_is_err_and c.from_residual.result c.from_residual.ensures.1 in
    let checked = c.in_err-check.ensures in
    rw (p.1, p.2, checked.ahead) (entry_refused g.K.Kind.bounds c.args.head _ (rw c.limits-limits.ensures at checked.number) c.args.short _ c.args.fold.now (numbered _))

pub returns-in_err-whole : goal.returns-in_err-whole
returns-in_err-whole g c =
    let p = err_from_is_err_and c.from_residual-in_err-whole.result c.from_residual-in_err-whole.ensures.1 in
    rw (p.1, p.2) (fold_refused _ c.args.fold.now _ (rw c.limits-limits.ensures at c.in_err-whole.ensures)
    ∙ entry_read g.K.Kind.bounds c.args.head 0 (rw c.limits-limits.ensures at c.in_ok-check.ensures.number) c.args.short _ c.args.fold.now refl)

pub returns : goal.returns
returns g c =
    rw c.from.ensures (fold_read _ c.args.fold.now _ (rw c.limits-limits.ensures at c.in_ok-whole.ensures)
    ∙ entry_read g.K.Kind.bounds c.args.head 0 (rw c.limits-limits.ensures at c.in_ok-check.ensures.number) c.args.short _ c.args.fold.now refl)
