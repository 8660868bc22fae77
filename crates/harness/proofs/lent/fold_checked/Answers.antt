-- `harness::lent::fold_checked` meets its contract: what the folder ensures, of slices that were filled, and what was looked at.
use mathlib.Core.Path.{◌∙◌}
use Rattle.format.specs.Answers.{tariff_of}
use Rattle.folder.specs.Folding.{folding}
use Rattle.harness.proofs.Calls.{answer_filled, output_filled, costs_filled, choices_filled}
use Rattle.harness.proofs.lent.fold_checked.Goals as goal

pub returns : goal.returns
returns c =
    let a = c.args in
    let v = folding a.run.now a.limit (tariff_of a.tariff.now) in
    let x = a.costs.now in
    let y = a.choices.now in
    let z = a.out.now in
    let p = c.fill_words.ensures in
    let q = c.fill_words-2.ensures in
    let s = c.fill_bytes.ensures in
    let F = c.fold-answer.ensures in
    record {
      answered = F.answered ∙ answer_filled v x y z _ _ _ p q s;
      written = F.written ∙ output_filled v x y z _ _ _ p q s;
      costs_cleared = F.costs_cleared ∙ costs_filled v x y z _ _ _ p q s;
      choices_cleared = F.choices_cleared ∙ choices_filled v x y z _ _ _ p q s;
      looked_at = c.kept-right.ensures;
    }
