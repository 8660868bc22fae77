-- `fold::text::put_report` meets its contract: the three lines, one behind the other.
use native.Mathlib.Omega.{arith}
use Rattle.fold.specs.Text.{nodes_word, cost_word}
use Rattle.fold.proofs.Puts.{put_both, put_length}
use Rattle.fold.proofs.Digits.{line_reached, fold_text_length}
use Rattle.fold.proofs.text.put_report.Goals as goal

pub put_number-third-requires : goal.put_number-third-requires
put_number-third-requires c =
    let a = c.args in
    let p = c.put_number-second.ensures in
    omega (arith, line_reached nodes_word a.nodes (omega arith) p, put_length p)

pub put_bytes-bytes-requires : goal.put_bytes-bytes-requires
put_bytes-bytes-requires c =
    let a = c.args in
    let p = c.put_number-second.ensures in
    let q = c.put_number-third.ensures in
    omega (arith, line_reached nodes_word a.nodes (omega arith) p, put_length p, line_reached cost_word a.cost (omega arith) q, put_length q)

pub put_fold_text-end-requires : goal.put_fold_text-end-requires
put_fold_text-end-requires c =
    let a = c.args in
    let p = c.put_number-second.ensures in
    let q = c.put_number-third.ensures in
    let r = c.put_bytes-bytes.ensures in
    omega (arith, line_reached nodes_word a.nodes (omega arith) p, put_length p, line_reached cost_word a.cost (omega arith) q, put_length q, r.reached, put_length r)

pub put_bytes-requires : goal.put_bytes-requires
put_bytes-requires c =
    let a = c.args in
    let p = c.put_number-second.ensures in
    let q = c.put_number-third.ensures in
    let r = c.put_bytes-bytes.ensures in
    let s = c.put_fold_text-end.ensures in
    omega (arith, line_reached nodes_word a.nodes (omega arith) p, put_length p, line_reached cost_word a.cost (omega arith) q, put_length q, r.reached, put_length r, s.reached, put_length s, fold_text_length a.fold.now)

pub returns : goal.returns
returns c =
    let third = put_both (put_both c.put_bytes-bytes.ensures c.put_fold_text-end.ensures) c.put_bytes.ensures in
    put_both (put_both c.put_number-second.ensures c.put_number-third.ensures) third
