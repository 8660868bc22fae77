-- `put_refusal` meets its contract.
use native.Mathlib.Omega.{arith}
use Rattle.fold.proofs.Puts.{put_both, put_length}
use Rattle.fold.proofs.Digits.{decimal_length}
use Rattle.fold.proofs.text.put_refusal.Goals as goal

pub put_decimal-behind-requires : goal.put_decimal-behind-requires
put_decimal-behind-requires c =
    let p = c.put_bytes-first.ensures in
    omega (arith, p.reached, put_length p, decimal_length c.from.result (omega arith))

pub put_number-requires : goal.put_number-requires
put_number-requires c =
    let p = c.put_bytes-first.ensures in
    let q = c.put_decimal-behind.ensures in
    omega (arith, p.reached, put_length p, q.reached, put_length q, decimal_length c.from.result (omega arith))

pub returns : goal.returns
returns c =
    rw (← c.number.ensures, ← c.from.ensures) (put_both (put_both c.put_bytes-first.ensures c.put_decimal-behind.ensures) c.put_number.ensures)
