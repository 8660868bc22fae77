-- The tree of a byte form, as a function: what the bytes of a run or a fold spell.
use Rattle.std.specs.Prelude.{cond, List, [], ◌∷◌, ℕ, zero, suc, eqb}
use Rattle.format.specs.Forest.{Forest, end, step, group, repeat, join}
use Rattle.format.specs.Machine.{opens_repeat, label_operand, count_operand, width_operand, operands}

-- A group or a repeat that is being read, with what stands before it.
pub data Pending : Type 0 where
  a_group : (label : ℕ) (before : Forest) → Pending
  a_repeat : (count width : ℕ) (before : Forest) → Pending

-- The pending things after a command, and the sequence read so far at the innermost level.
pub record Partial : Type 0 where
  pub pending : List Pending
  pub sofar : Forest

unfoldable pub close : List Pending → Forest → Partial
unfolding join
close [] f = record { pending = []; sofar = f }
close (a_group l before ∷ ps) f = record { pending = ps; sofar = join before (group l f end) }
close (a_repeat h w before ∷ ps) f = record { pending = ps; sofar = join before (repeat h w f end) }

unfoldable pub take_in : (command : ℕ) → (rest : List ℕ) → Partial → Partial
unfolding close join
take_in c rest p =
    cond (eqb c 0x10) (record { pending = p.pending; sofar = join p.sofar (step (label_operand rest) end) })
    (cond (eqb c 0x11) (record { pending = a_group (label_operand rest) p.sofar ∷ p.pending; sofar = end })
    (cond (opens_repeat c)
    (record { pending = a_repeat (count_operand c rest) (width_operand c rest) p.sofar ∷ p.pending; sofar = end })
    (close p.pending p.sofar)))

-- The tree of the bytes, with `skip` operand bytes to pass over first.
unfoldable pub tree_from : List ℕ → (skip : ℕ) → Partial → Forest
unfolding take_in
tree_from [] k p = p.sofar
tree_from (c ∷ s) zero p = tree_from s (operands c) (take_in c s p)
tree_from (c ∷ s) (suc k) p = tree_from s k p

unfoldable pub tree_of : List ℕ → Forest
unfolding tree_from
tree_of s = tree_from s 0 (record { pending = []; sofar = end })
