-- `build_index` meets its contract: a refusal leaves both slices as they were, and else they hold the index.
use Rattle.std.proofs.Common.{arith}
use Rattle.std.proofs.lemmas.Result.{err_from_is_err_and}
use Rattle.index.proofs.Answers.{index_refused, too_short_either, index_written}
use Rattle.index.proofs.build_index.Goals as goal

pub returns-in_err-read_alone : goal.returns-in_err-read_alone
returns-in_err-read_alone c =
    let a = c.args in
    let p = err_from_is_err_and c.from_residual.result c.from_residual.ensures.1 in
    let said = index_refused a.fold.now a.offsets.now a.before.now _ c.in_err-read_alone.ensures in
    record { answered = rw (p.1, p.2) said.0; offsets_written = said.1.0; before_written = said.1.1 }

pub returns-then-offsets-entries : goal.returns-then-offsets-entries
returns-then-offsets-entries c =
    let a = c.args in
    let said = too_short_either a.fold.now a.offsets.now a.before.now _ c.in_ok-read_alone.ensures (grind (arith, c.count_entries-entries.ensures, c.then-offsets-entries.either)) in
    record { answered = rw c.at.ensures said.0; offsets_written = said.1.0; before_written = said.1.1 }

pub returns : goal.returns
returns c =
    let a = c.args in
    let e = c.count_entries-entries.ensures in
    let said = index_written a.fold.now a.offsets.now a.before.now _ c.in_ok-read_alone.ensures (omega (arith, e)) (omega (arith, e)) c.write_entries.ensures.offsets_after c.write_entries.ensures.before_after in
    record { answered = rw e said.0; offsets_written = said.1.0; before_written = said.1.1 }
