-- `fold::text::put_fold_text` meets its contract.
use mathlib.Core.Path.{sym}
use Prim.Native.Nat.{◌<◌}
use native.Mathlib.Omega.{arith}
use lib.ListN.{length}
use Rattle.fold.proofs.Puts.{put_one, put_same}
use Rattle.fold.proofs.Digits.{fold_text_none, fold_text_some}
use Rattle.fold.proofs.text.put_fold_text.Goals as goal

pub returns-then-fold-eq0 : goal.returns-then-fold-eq0
returns-then-fold-eq0 c = put_same (sym (fold_text_none _ c.if-fold-eq0.true)) (put_one _ _ 45 (omega arith))

pub returns : goal.returns
returns c =
    let some : 0 < length c.args.fold.now = omega arith in
    put_same (sym (fold_text_some _ some)) c.put_hexadecimal.ensures
