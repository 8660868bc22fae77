-- `enter_repeat` meets its contract.
use native.Mathlib.Omega.{arith}
use mathlib.Core.Path.{sym, ap, ap₂, ◌∙◌}
use mathlib.Core.Bool.{◌&&◌}
use lib.Dec.{eqb}
use lib.ListN.{get_or}
use Prim.Native.Nat.{ℕ, ◌*◌, ◌+◌, ◌-◌}
use Rattle.format.specs.Limits.{in_one_byte}
use Rattle.walk.proofs.Commands.{repeat_on, bounded}
use Rattle.walk.proofs.command.enter_repeat.Goals as goal

pub returns-clause-opened : goal.returns-clause-opened
returns-clause-opened c =
    let a = c.args in
    let said = c.operands_at-said.ensures in
    let product = bounded a.a.now.costs.each (c.operands_at-said.result.count - 2) 65535 65533 (omega arith) (omega (arith, said.count.1)) in
    rw (c.inside_repeat.ensures, c.operand_bytes-size.ensures, c.from.ensures, c.from-2.ensures) (repeat_on a.a.now a.s.now a.d a.at a.t c.requires.opens_at c.requires.room c.if-not-a.false (omega (arith, c.requires.opens_at.below, c.operand_bytes-size.ensures, c.if-s-at.false)) (omega (arith, said.count.0, c.if-said-lt2.false)) (omega (arith, said.width.0, c.if-a-said.false)) (sym (c.has_shorter.ensures ∙ ap₂ (λ (h w : ℕ). eqb (get_or a.s.now a.at 0) 0x20 && (a.a.now.short && in_one_byte h w)) said.count.0 said.width.0) ∙ c.if-has_shorter.false) (omega (arith, c.if-a-d.false)) _ (ap (λ (k : ℕ). a.a.now.costs.first + a.a.now.costs.each * (k - 2)) said.count.0) (omega (arith, product)))
