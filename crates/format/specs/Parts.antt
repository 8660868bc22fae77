-- The part of a node: the bytes of a whole subtree, a part of the caller's run.
use Rattle.std.specs.Prelude.{Bool, false, cond, List, [], ◌∷◌, ℕ, zero, suc, pred, ◌+◌, eqb, length, take, drop}
use Rattle.format.specs.Forest.{Forest, end, step, group, bytes}
use Rattle.format.specs.Machine.{is_node, operands}
use Rattle.format.specs.Readings.{run_reading_in, run_reading}

-- A node starts at offset p: the command there is a step or opens a group. `skip` operand bytes come first.
unfoldable pub starts : (p skip : ℕ) → List ℕ → Bool
starts p k [] = false
starts zero zero (c ∷ s) = is_node c
starts zero (suc k) (c ∷ s) = false
starts (suc p) zero (c ∷ s) = starts p (operands c) s
starts (suc p) (suc k) (c ∷ s) = starts p k s

-- How many groups are open after a command.
abbrev pub still_open : ℕ → (command : ℕ) → ℕ
still_open d c = cond (eqb c 0x11) (suc d) (cond (eqb c 0x12) (pred d) d)

-- The bytes up to the close of the outermost of d open groups, after `skip` operand bytes; with none open, those alone.
unfoldable pub closing : List ℕ → (d skip : ℕ) → ℕ
closing [] zero k = k
closing [] (suc d) k = 0
closing (c ∷ s) zero k = k
closing (c ∷ s) (suc d) zero = suc (closing s (still_open (suc d) c) (operands c))
closing (c ∷ s) (suc d) (suc k) = suc (closing s (suc d) k)

-- The bytes of the node that stands at the head.
unfoldable pub node_size : List ℕ → ℕ
unfolding closing
node_size [] = 0
node_size (c ∷ s) = suc (closing s (still_open 0 c) (operands c))

-- The node that stands at an offset, with all it holds.
unfoldable pub node_part : List ℕ → (offset : ℕ) → List ℕ
unfolding node_size
node_part s p = take (node_size (drop p s)) (drop p s)

-- The part of a run at an offset: the node that starts there, with all it holds; nothing where the run is refused or no node
-- starts there.
unfoldable pub part_of : List ℕ → (offset : ℕ) → List ℕ
unfolding starts node_part run_reading_in
part_of s p =
    cond (eqb (run_reading s).refusal 0) (cond (starts p 0 s) (node_part s p) []) []

-- The node n stands at offset p of the run f: among its own items, or inside one of its groups.
pub data Stands : Forest → ℕ → Forest → Type 0 where
  first_step : (l : ℕ) (f : Forest) → Stands (step l f) 0 (step l end)
  first_group : (l : ℕ) (b f : Forest) → Stands (group l b f) 0 (group l b end)
  behind_step : (l : ℕ) (f : Forest) (p : ℕ) (n : Forest) → Stands f p n → Stands (step l f) (suc (suc p)) n
  inside_group : (l : ℕ) (b f : Forest) (p : ℕ) (n : Forest) → Stands b p n → Stands (group l b f) (suc (suc p)) n
  behind_group : (l : ℕ) (b f : Forest) (p : ℕ) (n : Forest) → Stands f p n → Stands (group l b f) (suc (suc (length (bytes b) + suc p))) n
