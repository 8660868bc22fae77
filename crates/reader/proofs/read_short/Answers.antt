-- `read_short` meets its contract.
use Rattle.format.specs.Answers.{tariff_of}
use Rattle.reader.proofs.Answers.{with_long_meaning}
use Rattle.reader.proofs.read_short.Goals as goal

pub returns : goal.returns
returns c =
    let both = with_long_meaning c.args.fold.now c.args.limit (tariff_of c.args.costs.now) (λ i. (c.type_inv.fold i).fits)
    c.read_headed.result (rw c.full.ensures at c.read_headed.ensures) in
    record { answered = both.0; meant = both.1 }
