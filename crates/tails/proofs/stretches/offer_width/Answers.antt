-- `offer_width` meets its contract.
use native.Mathlib.Omega.{arith}
use Rattle.tails.proofs.Offers.{width_some}
use Rattle.tails.proofs.stretches.offer_width.Goals as goal

pub returns : goal.returns
returns c =
    let a = c.args in
    width_some a.work.now a.row.now.matches.now a.row.now.rates a.row.now.i a.d a.w a.best _ (omega arith) (omega (arith, c.min.ensures)) (omega (arith, c.min.ensures))
    (λ n l m. omega (arith, c.min.ensures)) _ c.offer.ensures
