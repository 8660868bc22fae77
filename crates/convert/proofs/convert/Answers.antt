-- `convert` meets its contract: a refusal leaves the output as it was, and else the form is measured and then written.
use Rattle.std.proofs.lemmas.Result.{err_from_is_err_and}
use Rattle.convert.proofs.Conversions.{input_refused, form_fits, too_short, form_written}
use Rattle.convert.proofs.convert.Goals as goal

pub returns-in_err-read_alone : goal.returns-in_err-read_alone
returns-in_err-read_alone c =
    let a = c.args in
    let p = err_from_is_err_and c.from_residual.result c.from_residual.ensures.1 in
    let said = input_refused a.from a.short a.fold.now _ c.in_err-read_alone.ensures a.out.now in
    record { value = rw (p.1, p.2) said.0; out_after = said.1 }

pub put_form-length-requires : goal.put_form-length-requires
put_form-length-requires c =
    let a = c.args in
    form_fits a.from _ a.fold.now (λ i. (c.type_inv.fold i).fits) _ c.in_ok-read_alone.ensures

pub returns-then-out-length : goal.returns-then-out-length
returns-then-out-length c =
    let a = c.args in
    let said = too_short a.from a.short a.fold.now (λ i. (c.type_inv.fold i).fits) _ c.in_ok-read_alone.ensures a.out.now c.put_form-length.result c.put_form-length.ensures.value c.if-out-length.true in
    record { value = rw c.at.ensures said.0; out_after = said.1 }

pub put_form-requires : goal.put_form-requires
put_form-requires c =
    let a = c.args in
    form_fits a.from a.short a.fold.now (λ i. (c.type_inv.fold i).fits) _ c.in_ok-read_alone.ensures

pub returns : goal.returns
returns c =
    let a = c.args in
    let said = form_written a.from a.short a.fold.now (λ i. (c.type_inv.fold i).fits) _ c.in_ok-read_alone.ensures a.out.now c.put_form-length.result c.put_form-length.ensures.value c.if-out-length.false _ c.put_form.ensures.out_after in
    record { value = said.0; out_after = said.1 }
