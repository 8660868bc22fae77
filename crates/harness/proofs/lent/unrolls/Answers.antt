-- `harness::lent::unrolls` meets its contract: what the unroller ensures, of a text that was filled, and what was looked at.
use Rattle.harness.proofs.Calls.{unroll_filled}
use Rattle.harness.proofs.lent.unrolls.Goals as goal

pub returns : goal.returns
returns c =
    let a = c.args in
    let both = unroll_filled a.fold.now a.limit a.text.now _ _ _ _ _ c.fill_bytes.ensures c.unroll-answer.ensures.answered c.unroll-answer.ensures.written c.unrolled.ensures in
    record { written = both.0; looked_at = both.1 }
