-- The functions of the walk meet their contracts: what the laws of reading on (Walking.antt) say of each of them.
use Rattle.std.proofs.Common.{refl, sym, ◌∙◌}
use Rattle.std.proofs.lemmas.Result.{err_from_is_err_and}
use Rattle.format.proofs.Numbered.{numbered}
use Rattle.walk.proofs.Walking.{along_none, room_grown, along_refused, along_more, inside_refused, through, group_deeper, repeat_deeper, closed_as, item_unknown}
use Rattle.walk.proofs.walk.+walk.Goals as goal

pub group-returns-in_err-held : goal.group-returns-in_err-held
group-returns-in_err-held t c =
    let p = err_from_is_err_and c.from_residual-in_err-held.result c.from_residual-in_err-held.ensures.1 in
    rw (p.1, p.2) (inside_refused _ _ _ _ _ _ _ (group_deeper c.args.d c.args.t) _ _ _ _ c.in_ok-entered.ensures refl _ c.in_err-held.ensures (numbered _))

pub group-returns : goal.group-returns
group-returns t c =
    through _ _ _ _ _ _ _ (group_deeper c.args.d c.args.t) _ _ _ _ c.in_ok-entered.ensures refl _ c.in_ok-held.ensures refl _ (c.leave_group.ensures c.args.d)

pub item-returns : goal.item-returns
item-returns t c =
    rw c.at.ensures (item_unknown _ _ _ _ _ c.requires.no_close c.requires.no_step c.if-c-eq-GROUP.false (sym c.opens_repeat.ensures ∙ c.if-opens_repeat.false))

pub repeat-returns-in_err-body : goal.repeat-returns-in_err-body
repeat-returns-in_err-body t c =
    let p = err_from_is_err_and c.from_residual-in_err-body.result c.from_residual-in_err-body.ensures.1 in
    rw (p.1, p.2) (inside_refused _ _ _ _ _ _ _ (repeat_deeper c.args.d _ _ c.args.t) _ _ _ _ c.in_ok-entered.ensures.opened refl _ c.in_err-body.ensures (numbered _))

pub repeat-returns : goal.repeat-returns
repeat-returns t c =
    through _ _ _ _ _ _ _ (repeat_deeper c.args.d _ _ c.args.t) _ _ _ _ c.in_ok-entered.ensures.opened refl _ c.in_ok-body.ensures refl _ (closed_as c.operands_at.ensures.count.0 c.operands_at.ensures.width.0 (c.leave_repeat.ensures c.args.d))

pub sequence-loop-now-init : goal.sequence-loop-now-init
sequence-loop-now-init t c = along_none _ _ _ _ _ c.requires.at_in_bounds c.requires.room.nodes

pub sequence-step-requires-clause-room_somewhere : goal.sequence-step-requires-clause-room_somewhere
sequence-step-requires-clause-room_somewhere t c = (c.args.d, room_grown _ _ _ _ c.requires.room c.loop-now.invariant.grown)

pub sequence-returns-in_err-now : goal.sequence-returns-in_err-now
sequence-returns-in_err-now t c =
    let p = err_from_is_err_and c.from_residual.result c.from_residual.ensures.1 in
    rw (p.1, p.2) (along_refused _ _ _ _ _ _ _ c.loop-now.invariant _ c.in_err-now.ensures (numbered _))

pub sequence-returns-in_err-now-2 : goal.sequence-returns-in_err-now-2
sequence-returns-in_err-now-2 t c =
    let p = err_from_is_err_and c.from_residual-in_err-now-2.result c.from_residual-in_err-now-2.ensures.1 in
    rw (p.1, p.2) (along_refused _ _ _ _ _ _ _ c.loop-now.invariant _ c.in_err-now-2.ensures (numbered _))

pub sequence-loop-now-preserved-in_ok-now : goal.sequence-loop-now-preserved-in_ok-now
sequence-loop-now-preserved-in_ok-now t c = along_more _ _ _ _ _ _ _ c.loop-now.invariant _ c.in_ok-now.ensures refl

pub sequence-loop-now-preserved : goal.sequence-loop-now-preserved
sequence-loop-now-preserved t c = along_more _ _ _ _ _ _ _ c.loop-now.invariant _ c.in_ok-now-2.ensures refl
