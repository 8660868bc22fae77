-- `Source::skip` meets its contract: each turn goes one sibling on.
use mathlib.Core.Path.{◌≡◌, refl, ap, ◌∙◌}
use mathlib.Core.List.{List}
use Prim.Native.Nat.{ℕ, zero, suc, ◌+◌}
use native.Mathlib.Omega.{arith}
use lib.ListN.{get_or}
use Rattle.writer.specs.Writing.{follow}
use Rattle.writer.proofs.Source.skip.Goals as goal

follow_next : (nexts : List ℕ) (q i : ℕ) → get_or nexts (follow nexts q i) 0 ≡ follow nexts q (i + 1)
unfolding follow
follow_next nexts q zero = refl
follow_next nexts q (suc i) = let e : suc i + 1 ≡ suc (i + 1) = omega arith in rw e (follow_next nexts (get_or nexts q 0) i)

pub loop-init : goal.loop-init
unfolding follow
loop-init c = refl

pub loop-preserved : goal.loop-preserved
loop-preserved c = ap (λ q. get_or c.args.self.now.nodes.now.nexts q 0) c.loop.invariant ∙ follow_next _ _ _
