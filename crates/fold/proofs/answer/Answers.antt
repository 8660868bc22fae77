-- `answer` meets its contract.
use Rattle.std.proofs.Common.{refl}
use Rattle.format.specs.Answers.{folded_said}
use Rattle.format.specs.Order.{Bytes}
use Rattle.format.proofs.Numbered.{numbered}
use Rattle.fold.proofs.Puts.{put_same}
use Rattle.fold.proofs.Answers.{prints_refusal, prints_fold}
use Rattle.fold.proofs.answer.Goals as goal

pub returns-in-Err : goal.returns-in-Err
returns-in-Err c =
    let small : Bytes c.args.run.now = λ i. (c.type_inv.run i).fits in
    put_same (prints_refusal _ small _ c.in-Err.ensures.answered (numbered _)) c.put_refusal.ensures

pub returns-in-Ok : goal.returns-in-Ok
returns-in-Ok c =
    let small : Bytes c.args.run.now = λ i. (c.type_inv.run i).fits in
    put_same (prints_fold _ small _ c.in-Ok.ensures.answered _ _ c.in-Ok.ensures.written refl refl) (rw c.nodes_of.ensures at c.put_report.ensures)
