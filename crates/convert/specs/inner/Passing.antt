-- One command of a fold, put into a family.
use Rattle.std.specs.Prelude.{Bool, List, [], ℕ, ◌+◌, get_or, drop}
use Rattle.format.specs.Family.{command_in}

-- The command at an offset with its operands, in a family.
abbrev pub command_at : (short : Bool) → List ℕ → (offset : ℕ) → List ℕ
command_at short s p = command_in short (get_or s p 0) (drop (p + 1) s) []
