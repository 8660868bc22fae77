-- `put_number` meets its contract.
use native.Mathlib.Omega.{arith}
use Rattle.fold.proofs.Puts.{put_both, put_length}
use Rattle.fold.proofs.Digits.{decimal_length}
use Rattle.fold.proofs.text.put_number.Goals as goal

pub put_decimal-end-requires : goal.put_decimal-end-requires
put_decimal-end-requires c =
    let p = c.put_bytes-number.ensures in
    omega (arith, p.reached, put_length p, decimal_length c.args.n (omega arith))

pub put_bytes-requires : goal.put_bytes-requires
put_bytes-requires c =
    let p = c.put_bytes-number.ensures in
    let q = c.put_decimal-end.ensures in
    omega (arith, p.reached, put_length p, q.reached, put_length q, decimal_length c.args.n (omega arith))

pub returns : goal.returns
returns c =
    put_both (put_both c.put_bytes-number.ensures c.put_decimal-end.ensures) c.put_bytes.ensures
