-- `fold_in` meets its contract: admitted or refused, with work enough or not, and folded.
use Rattle.std.proofs.Common.{refl, sym, ◌∙◌}
use Rattle.std.proofs.lemmas.Result.{err_from_is_err_and}
use Rattle.format.specs.Limits.{limits}
use Rattle.format.specs.Answers.{tariff_of}
use Rattle.format.proofs.Numbered.{numbered}
use Rattle.folder.specs.Folding.{folding_in}
use Rattle.optimum.proofs.Verdicts.{verdict_refused, verdict_folds, accepted_run, few}
use Rattle.folder.proofs.Verdicts.{run_ready, long_enough, met_refused, met_short, met_folded}
use Rattle.folder.proofs.either.fold_in.Goals as goal

pub returns-in_err-n : goal.returns-in_err-n
returns-in_err-n c =
    let a = c.args in
    let T = tariff_of a.how.now.tariff.now in
    let p = err_from_is_err_and c.from_residual.result c.from_residual.ensures.1 in
    let admits = rw c.full.ensures at c.in_err-n.ensures in
    let met =
    met_refused (folding_in a.how.now.short a.run.now a.how.now.limit T) a.costs.now a.choices.now a.out.now _ _
    (verdict_refused limits a.run.now a.how.now.limit T _ admits a.how.now.short (numbered _)) _ refl in
    record {
      answered = rw (p.1, p.2) met.0;
      written = met.1.0;
      costs_cleared = met.1.1.0;
      choices_cleared = met.1.1.1;
    }

pub short_of-requires : goal.short_of-requires
short_of-requires c =
    let a = c.args in
    let T = tariff_of a.how.now.tariff.now in
    let admits = rw c.full.ensures at c.in_ok-n.ensures in
    few limits a.run.now a.how.now.limit T _ admits (accepted_run limits a.run.now a.how.now.limit T _ admits refl) (λ i. (c.type_inv.run i).fits)

pub returns-then-short_of : goal.returns-then-short_of
returns-then-short_of c =
    let a = c.args in
    let T = tariff_of a.how.now.tariff.now in
    let admits = rw c.full.ensures at c.in_ok-n.ensures in
    let met =
    met_short (folding_in a.how.now.short a.run.now a.how.now.limit T) a.costs.now a.choices.now a.out.now _ _ _
    (verdict_folds limits a.run.now a.how.now.limit T _ admits (accepted_run limits a.run.now a.how.now.limit T _ admits refl) a.how.now.short)
    (sym c.short_of.ensures ∙ c.if-short_of.true) _ refl in
    record {
      answered = rw c.at.ensures met.0;
      written = met.1.0;
      costs_cleared = met.1.1.0;
      choices_cleared = met.1.1.1;
    }

pub fold_run-requires : goal.fold_run-requires
fold_run-requires c =
    let a = c.args in
    let T = tariff_of a.how.now.tariff.now in
    let admits = rw c.full.ensures at c.in_ok-n.ensures in
    let long = long_enough _ _ _ (sym c.short_of.ensures ∙ c.if-short_of.false) in
    run_ready a.run.now a.how.now.limit T _ admits (accepted_run limits a.run.now a.how.now.limit T _ admits refl) (λ i. (c.type_inv.run i).fits) a.costs.now a.choices.now long.0 long.1

pub returns : goal.returns
returns c =
    let a = c.args in
    let T = tariff_of a.how.now.tariff.now in
    let admits = rw c.full.ensures at c.in_ok-n.ensures in
    let d = accepted_run limits a.run.now a.how.now.limit T _ admits refl in
    let met =
    met_folded (folding_in a.how.now.short a.run.now a.how.now.limit T) a.costs.now a.choices.now a.out.now a.how.now.short a.run.now _ _ _
    (verdict_folds limits a.run.now a.how.now.limit T _ admits d a.how.now.short)
    (sym c.short_of.ensures ∙ c.if-short_of.false) _ _ _ _
    c.fold_run.ensures in
    record {
      answered = met.0;
      written = met.1.0;
      costs_cleared = met.1.1.0;
      choices_cleared = met.1.1.1;
    }
