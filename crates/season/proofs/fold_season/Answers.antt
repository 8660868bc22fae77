-- `fold_season` meets its contract: admitted or refused, with work enough or not, and folded.
use Rattle.std.proofs.Common.{refl, false, length, arith, Ok, Err}
use Rattle.std.proofs.lemmas.Result.{err_from_is_err_and}
use Rattle.format.specs.Limits.{season, priced}
use Rattle.format.specs.Answers.{number, run_said, folded_said, tariff_of}
use Rattle.format.proofs.Numbered.{numbered}
use Rattle.optimum.proofs.Verdicts.{verdict_refused, verdict_folds, accepted_run}
use Rattle.season.specs.Folding.{season_folding}
use Rattle.season.proofs.Verdicts.{run_few, fill_ready, prices_are, met_refused, met_short, met_folded, season_held}
use Rattle.season.proofs.fold_season.Goals as goal

pub returns-in_err-counts : goal.returns-in_err-counts
returns-in_err-counts c =
    let a = c.args in
    let T = tariff_of a.tariff.now in
    let p = err_from_is_err_and c.from_residual.result c.from_residual.ensures.1 in
    let e = c.in_err-counts.field-0.0 in
    let admits = rw c.full.ensures at c.in_err-counts.ensures in
    let m = met_refused (season_folding a.run.now a.limit T) a.work.now a.out.now (number e.reason) e.place (verdict_refused season a.run.now a.limit T (run_said (Err e)) admits false (numbered e.reason)) (folded_said (Err e)) refl in
    let h = season_held a.run.now (λ i. (c.type_inv.run i).fits) a.limit T (length a.work.now) a.out.now _ (Err e) m.0 m.1.0 in
    rw (p.1, p.2) (record { answered = m.0; written = m.1.0; cleared = m.1.1; cheapest = h.0; minimum = h.1; too_long = h.2 })

pub entries-requires : goal.entries-requires
entries-requires c =
    let a = c.args in
    let T = tariff_of a.tariff.now in
    let admits = rw c.full.ensures at c.in_ok-counts.ensures in
    run_few a.run.now a.limit T (run_said (Ok c.in_ok-counts.counts)) admits
    (accepted_run season a.run.now a.limit T (run_said (Ok c.in_ok-counts.counts)) admits refl) (λ i. (c.type_inv.run i).fits)

pub returns-then-work-entries : goal.returns-then-work-entries
returns-then-work-entries c =
    let a = c.args in
    let T = tariff_of a.tariff.now in
    let r = run_said (Ok c.in_ok-counts.counts) in
    let admits = rw c.full.ensures at c.in_ok-counts.ensures in
    let m =
    met_short (season_folding a.run.now a.limit T) a.work.now a.out.now _ _ _
    (verdict_folds season a.run.now a.limit T r admits (accepted_run season a.run.now a.limit T r admits refl) false)
    (omega (arith, c.entries.ensures, c.if-work-entries.true)) (folded_said (Err c.at.result)) (rw c.at.ensures) in
    let h = season_held a.run.now (λ i. (c.type_inv.run i).fits) a.limit T (length a.work.now) a.out.now _ (Err c.at.result) m.0 m.1.0 in
    record { answered = m.0; written = m.1.0; cleared = m.1.1; cheapest = h.0; minimum = h.1; too_long = h.2 }

pub fold_run-requires : goal.fold_run-requires
fold_run-requires c =
    let a = c.args in
    let T = tariff_of a.tariff.now in
    let r = run_said (Ok c.in_ok-counts.counts) in
    let admits = rw c.full.ensures at c.in_ok-counts.ensures in
    let e = c.season_of-season.ensures in
    record {
      fill_ready =
          rw (e.lent.0, e.lent.1, e.said.0, e.said.1, e.said.2) (fill_ready a.run.now a.limit T r admits
          (accepted_run season a.run.now a.limit T r admits refl) (λ i. (c.type_inv.run i).fits) c.new-rates.result a.work.now
          e.low (omega (arith, c.entries.ensures, c.if-work-entries.false)));
      prices_are = (priced T, rw (e.lent.1, e.said.2) (prices_are T c.new-rates.result c.new-rates.ensures));
    }

pub returns : goal.returns
returns c =
    let a = c.args in
    let T = tariff_of a.tariff.now in
    let r = run_said (Ok c.in_ok-counts.counts) in
    let admits = rw c.full.ensures at c.in_ok-counts.ensures in
    let e = c.season_of-season.ensures in
    let m =
    met_folded (season_folding a.run.now a.limit T) a.work.now a.out.now a.run.now a.limit T c.new-rates.result _
    (verdict_folds season a.run.now a.limit T r admits (accepted_run season a.run.now a.limit T r admits refl) false)
    (omega (arith, c.entries.ensures, c.if-work-entries.false)) c.new-rates.ensures _ _ _ (rw (e.lent.0, e.lent.1, e.lent.2, e.said.0, e.said.1, e.said.2) at c.fold_run.ensures) in
    let h = season_held a.run.now (λ i. (c.type_inv.run i).fits) a.limit T (length a.work.now) a.out.now _ c.fold_run.result m.0 m.1.0 in
    record { answered = m.0; written = m.1.0; cleared = m.1.1; cheapest = h.0; minimum = h.1; too_long = h.2 }
