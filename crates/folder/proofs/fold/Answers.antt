-- `fold` meets its contract: either folder's answer in the long family, and what that says of the fold.
use Rattle.format.specs.Answers.{tariff_of}
use Rattle.folder.proofs.Verdicts.{fold_held}
use Rattle.folder.proofs.fold.Goals as goal

pub returns : goal.returns
returns c =
    let a = c.args in
    let e = c.fold_in.ensures in
    let held = fold_held a.run.now (λ i. (c.type_inv.run i).fits) a.limit (tariff_of a.tariff.now) _ _ a.out.now _ c.fold_in.result e.answered e.written in
    record {
      answered = e.answered;
      written = e.written;
      costs_cleared = e.costs_cleared;
      choices_cleared = e.choices_cleared;
      cheapest = held.0;
      minimum = held.1.0;
      too_long = held.1.1;
    }
