-- `read_alone` meets its contract.
use Rattle.std.proofs.Common.{true}
use Rattle.std.proofs.lemmas.Result.{err_from_is_err_and}
use Rattle.reader.proofs.Answers.{whole_free, alone_refused, alone_read}
use Rattle.reader.proofs.read_alone.Goals as goal

pub returns-in_err-whole : goal.returns-in_err-whole
returns-in_err-whole c =
    let p = err_from_is_err_and c.from_residual.result c.from_residual.ensures.1 in
    rw (p.1, p.2) (alone_refused c.args.short c.args.fold.now _ (whole_free c.none.result c.none.ensures _ true c.args.short 65535 _ _ (rw c.limits.ensures at c.in_err-whole.ensures)))

pub returns : goal.returns
returns c =
    rw c.from.ensures (alone_read c.args.short c.args.fold.now _ (whole_free c.none.result c.none.ensures _ true c.args.short 65535 _ _ (rw c.limits.ensures at c.in_ok-whole.ensures)))
