-- The nodes that unrolling a fold writes, in the order of the run's bytes, each with the command of the fold that it comes from.
use Rattle.std.specs.Prelude.{◌≡◌, true, cond, List, [], ◌∷◌, ◌++◌, ℕ, zero, suc, ◌+◌, ◌<◌, length, get_or}
use Rattle.format.specs.Forest.{Forest, end, step, group, repeat, form_in, bytes}
use Rattle.format.specs.Machine.{times, is_node, operands, label_operand}
use Rattle.format.specs.Parts.{starts}
use Rattle.format.specs.Tree.{tree_of}

-- A step or a group: its command, `10` or `11`, and its label.
pub record Node : Type 0 where
  pub command : ℕ
  pub label : ℕ

-- A node that unrolling writes, and the offset in the fold of the command that writes it.
pub record Written : Type 0 where
  pub node : Node
  pub offset : ℕ

abbrev pub written : (command label offset : ℕ) → Written
written c l p = record { node = record { command = c; label = l }; offset = p }

-- What unrolling writes of a sequence whose byte form stands at offset p: a step or a group writes its own node, a group then
-- those that it holds, a repeat those of its body count times.
unfoldable pub writes : (p : ℕ) → Forest → List Written
unfolding times form_in
writes p end = []
writes p (step l f) = written 0x10 l p ∷ writes (p + 2) f
writes p (group l b f) = written 0x11 l p ∷ writes (p + 2) b ++ writes (p + 3 + length (bytes b)) f
writes p (repeat h w b f) = times h (writes (p + 5) b) ++ writes (p + 6 + length (bytes b)) f

-- What unrolling the fold s writes.
abbrev pub written_by : List ℕ → List Written
written_by s = writes 0 (tree_of s)

-- The same sequence with the offset of each node's command in place of its label: what unrolling makes of this shows which
-- command each node of the run comes from.
unfoldable pub marked : (p : ℕ) → Forest → Forest
unfolding form_in
marked p end = end
marked p (step l f) = step p (marked (p + 2) f)
marked p (group l b f) = group p (marked (p + 2) b) (marked (p + 3 + length (bytes b)) f)
marked p (repeat h w b f) = repeat h w (marked (p + 5) b) (marked (p + 6 + length (bytes b)) f)

-- In the fold s a command starts at the offset, it is that one, and its label stands behind it.
pub record StandsIn (s : List ℕ) (w : Written) : Type 0 where
  pub starts_there : starts w.offset 0 s ≡ true
  pub command_there : get_or s w.offset 0 ≡ w.node.command
  pub label_there : get_or s (suc w.offset) 0 ≡ w.node.label
  pub within : suc w.offset < length s

-- The nodes of a run, in the order of its bytes, after `skip` operand bytes: each `10` and each `11` with its label.
unfoldable pub nodes_from : (skip : ℕ) → List ℕ → List Node
nodes_from k [] = []
nodes_from zero (c ∷ s) =
    cond (is_node c) (record { command = c; label = label_operand s } ∷ nodes_from (operands c) s) (nodes_from (operands c) s)
nodes_from (suc k) (c ∷ s) = nodes_from k s

abbrev pub nodes_of : List ℕ → List Node
nodes_of run = nodes_from 0 run
