-- `unroll` meets its contract: a refusal leaves the output as it was, and else the walk over the whole fold writes the run.
use Rattle.std.proofs.Common.{arith, rules}
use Rattle.std.proofs.lemmas.Result.{err_from_is_err_and}
use Rattle.unroller.proofs.Answers.{read_at, fold_refused, too_short, whole_fold, run_written}
use Rattle.unroller.proofs.unroll.Goals as goal

pub returns-in_err-read : goal.returns-in_err-read
returns-in_err-read g c =
    let p = err_from_is_err_and c.from_residual.result c.from_residual.ensures.1 in
    let reads = read_at g.K.Kind.bounds c.args.fold.now c.args.limit _ _ c.in_err-read.ensures (search rules) in
    let said = fold_refused g.K.Kind.bounds c.args.fold.now c.args.limit _ reads c.args.out.now in
    record { answered = rw (p.1, p.2) said.0; written = said.1; meant = rw p.1 tt }

pub returns-then-out-read : goal.returns-then-out-read
returns-then-out-read g c =
    let a = c.args in
    let reads = read_at g.K.Kind.bounds a.fold.now a.limit _ _ c.in_ok-read.ensures (search rules) in
    let said = too_short g.K.Kind.bounds a.fold.now a.limit (λ i. (c.type_inv.fold i).fits) c.in_ok-read.read reads a.out.now (omega arith) in
    record { answered = rw c.at.ensures said.0; written = said.1; meant = tt }

pub put_sequence-requires : goal.put_sequence-requires
put_sequence-requires g c =
    let a = c.args in
    let reads = read_at g.K.Kind.bounds a.fold.now a.limit _ _ c.in_ok-read.ensures (search rules) in
    (_, whole_fold g.K.Kind.bounds a.fold.now a.limit (λ i. (c.type_inv.fold i).fits) c.in_ok-read.read reads a.out.now (omega arith))

pub returns : goal.returns
returns g c =
    let a = c.args in
    let reads = read_at g.K.Kind.bounds a.fold.now a.limit _ _ c.in_ok-read.ensures (search rules) in
    let said = run_written g.K.Kind.bounds a.fold.now a.limit (λ i. (c.type_inv.fold i).fits) c.in_ok-read.read reads a.out.now (omega arith) _ _
    (c.put_sequence.ensures _ (whole_fold g.K.Kind.bounds a.fold.now a.limit (λ i. (c.type_inv.fold i).fits) c.in_ok-read.read reads a.out.now (omega arith))) in
    record { answered = said.0.0; written = said.0.1; meant = said.1 }
