-- `all_are` meets its contract.
use Rattle.std.proofs.Common.{rules, ◌≡◌}
use borrow.Author.Tests.{tests}
use Rattle.std.proofs.lemmas.Iterator.{cases_from_all, YieldsList-from_slice}
use Rattle.harness.proofs.Fillings.{all_looked_at}
use Rattle.harness.proofs.lent.all_are.Goals as goal

pub returns : goal.returns
returns c =
    all_looked_at c.args.s.now c.args.x c.all.result
    (cases_from_all _ _ _ (λ y. y ≡ c.args.x) (λ y. y ≡ c.args.x → ⊥) c.all.ensures.ran (YieldsList-from_slice c.args.s.now cc) (λ y q k. search (rules, tests)) (λ y q k. search (rules, tests)))
