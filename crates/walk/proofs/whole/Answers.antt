-- `whole` meets its contract.
use mathlib.Core.Path.{refl}
use Rattle.std.proofs.lemmas.Result.{err_from_is_err_and}
use Rattle.format.proofs.Numbered.{numbered}
use Rattle.walk.proofs.Wholes.{whole_refused, whole_read, stray_group_end, stray_repeat_end, repeat_end_in_run}
use Rattle.walk.proofs.whole.Goals as goal
use Rattle.walk.proofs.whole.Goals.{then-s-at-eq-GROUP_END-via-then-s-at-eq-GROUP_END, then-s-at-eq-GROUP_END-via-else-s-at-eq-GROUP_END+then-a}

pub returns-in_err-read : goal.returns-in_err-read
returns-in_err-read c =
    let p = err_from_is_err_and c.from_residual.result c.from_residual.ensures.1 in
    rw (p.1, p.2) (whole_refused c.args.a.now c.args.s.now _ (rw c.none.ensures at c.in_err-read.ensures) (numbered _))

pub returns-then-at-s : goal.returns-then-at-s
returns-then-at-s c =
    whole_read c.args.a.now c.args.s.now _ (rw c.none.ensures at c.in_ok-read.ensures) refl c.if-at-s.true

pub returns-then-s-at-eq-GROUP_END : goal.returns-then-s-at-eq-GROUP_END
returns-then-s-at-eq-GROUP_END c =
    let read = rw c.none.ensures at c.in_ok-read.ensures in
    rw c.at.ensures (elim c.then-s-at-eq-GROUP_END.branch [
      | then-s-at-eq-GROUP_END-via-then-s-at-eq-GROUP_END w ↦ stray_group_end c.args.a.now c.args.s.now _ read refl c.if-at-s.false w.if-s-at-eq-GROUP_END.true
      | then-s-at-eq-GROUP_END-via-else-s-at-eq-GROUP_END+then-a w ↦ stray_repeat_end c.args.a.now c.args.s.now _ read refl c.if-at-s.false w.if-s-at-eq-GROUP_END.false w.if-a.true
    ])

pub returns : goal.returns
returns c =
    rw c.at-2.ensures (repeat_end_in_run c.args.a.now c.args.s.now _ (rw c.none.ensures at c.in_ok-read.ensures) refl c.if-at-s.false c.if-s-at-eq-GROUP_END.false c.if-a.false)
