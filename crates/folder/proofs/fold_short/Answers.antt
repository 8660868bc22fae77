-- `fold_short` meets its contract: the same in the short one, whose verdict is the folder's with its fold in the short form.
use Rattle.format.specs.Answers.{tariff_of}
use Rattle.folder.proofs.Verdicts.{short_folding, short_held}
use Rattle.folder.proofs.fold_short.Goals as goal

pub returns : goal.returns
returns c =
    let a = c.args in
    let e = c.fold_in.ensures in
    let T = tariff_of a.tariff.now in
    let s = a.run.now in
    let held = short_held s (λ i. (c.type_inv.run i).fits) a.limit T _ _ a.out.now _ c.fold_in.result e.answered e.written in
    let same = short_folding s a.limit T in
    record {
      answered = rw same at e.answered;
      written = rw same at e.written;
      costs_cleared = rw same at e.costs_cleared;
      choices_cleared = rw same at e.choices_cleared;
      cheapest = held.0;
      minimum = held.1.0;
      too_long = held.1.1;
    }
