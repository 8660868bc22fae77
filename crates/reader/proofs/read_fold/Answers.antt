-- `read_fold` meets its contract.
use Rattle.std.proofs.Common.{rules}
use Rattle.format.specs.Answers.{tariff_of}
use Rattle.reader.proofs.Answers.{with_meaning}
use Rattle.reader.proofs.read_fold.Goals as goal

pub returns : goal.returns
returns g c =
    let both = with_meaning c.args.fold.now c.args.limit (tariff_of c.args.costs.now) (λ i. (c.type_inv.fold i).fits) g.K.Kind.bounds
    c.read_headed.result _ _ c.read_headed.ensures c.full.ensures (search rules) in
    record { answered = both.0; meant = both.1 }
