-- `leave_repeat` meets its contract.
use native.Mathlib.Omega.{arith}
use mathlib.Core.Path.{◌≡◌}
use Prim.Native.Nat.{ℕ, ◌≤◌}
use Rattle.format.specs.declared.tally.Tally.{Tally}
use Rattle.walk.proofs.Commands.{left_open, repeat_left, repeat_grown}
use Rattle.walk.proofs.command.leave_repeat.Goals as goal

within : {m : ℕ} {r u : Tally} → r ≡ u → r.nodes ≤ m → u.nodes ≤ m
within e h = rw (← e) h

pub returns-then-at-s : goal.returns-then-at-s
returns-then-at-s c =
    λ d. rw c.at.ensures (left_open c.args.a.now c.args.s.now d c.args.at c.args.t c.args.i c.requires.halted c.requires.nodes.1 c.if-at-s.true _ _)

pub returns : goal.returns
returns c =
    let a = c.args in
    let r = c.requires in
    let total = within c.after_repeat-passed.ensures c.if-most-total.false in
    let grown = repeat_grown a.a.now.limits a.o.count a.t a.i r.in_fold.1 r.nodes.0 (omega (arith, c.if-siblings-eq0.false)) r.size.0 r.size.1 r.cost r.steps.0 r.steps.1 total in
    λ d. rw c.after_repeat-passed.ensures (repeat_left a.a.now a.s.now d a.at a.t a.i r.halted r.nodes.1 c.if-at-s.false r.in_fold.0 a.o.count a.o.width (r.halted.close c.if-at-s.false c.if-s-at-eq-GROUP_END.false) c.if-siblings-eq0.false total c.if-siblings-width.false grown)
