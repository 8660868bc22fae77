use mathlib.Core.Path.{ap}
use native.Mathlib.Omega.{arith}
use lib.ListN.{length}
use Rattle.fold.proofs.Puts.{put_length}
use Rattle.fold.proofs.Digits.{decimal_one, one_longer, put_only, put_last}
use Rattle.fold.proofs.text.+put_decimal.Goals as goal

pub bounds-out-at : goal.bounds-out-at
bounds-out-at t c = omega (arith, ap length (decimal_one c.args.n (omega arith)))

pub returns-then-n-lt10 : goal.returns-then-n-lt10
returns-then-n-lt10 t c =
    put_only _ _ _ _ (omega arith) c.digit_of.ensures
    (omega (arith, ap length (decimal_one c.args.n (omega arith))))

pub put_decimal-last-requires : goal.put_decimal-last-requires
put_decimal-last-requires t c = (omega arith, omega (arith, one_longer c.args.n (omega arith)))

pub bounds-out-last : goal.bounds-out-last
bounds-out-last t c =
    let p = c.put_decimal-last.ensures in
    omega (arith, p.reached, put_length p, one_longer c.args.n (omega arith))

pub returns : goal.returns
returns t c =
    let p = c.put_decimal-last.ensures in
    put_last _ _ (omega arith) c.digit_of-2.ensures p (omega (arith, p.reached, one_longer c.args.n (omega arith)))
