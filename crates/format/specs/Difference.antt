-- How two folds of one run differ first: at a command, by its kind, then by its count, then by its width.
use Rattle.std.specs.Prelude.{◌≡◌, true, false, List, [], ◌∷◌, ◌++◌, ℕ, ◌<◌, length}
use Rattle.format.specs.Forest.{two_bytes}
use Rattle.format.specs.Machine.{is_node, is_known, operands}

-- A number of whole commands, each with its operands.
pub data Commands : List ℕ → Type 0 where
  none : Commands []
  command : (c : ℕ) (o s : List ℕ) → is_known false c ≡ true → length o ≡ operands c → Commands s → Commands (c ∷ o ++ s)

-- Of two commands with their operands the left one goes before: a plain node before a repeat, then the smaller count, then the
-- smaller width. What follows them, s and t, is ignored.
pub data Sooner : List ℕ → List ℕ → Type 0 where
  plain_first : (c : ℕ) (s t : List ℕ) → is_node c ≡ true → Sooner (c ∷ s) (0x20 ∷ t)
  fewer : (h i : ℕ) (s t : List ℕ) → h < i → Sooner (0x20 ∷ two_bytes h s) (0x20 ∷ two_bytes i t)
  narrower : (h v w : ℕ) (s t : List ℕ) → v < w → Sooner (0x20 ∷ two_bytes h (two_bytes v s)) (0x20 ∷ two_bytes h (two_bytes w t))

-- f and g differ first at a command, and f's goes before: up to it they are the same whole commands.
pub record DiffersFirst (f g : List ℕ) : Type 0 where
  pub common : List ℕ
  pub sooner : List ℕ
  pub later : List ℕ
  pub whole : Commands common
  pub left : f ≡ common ++ sooner
  pub right : g ≡ common ++ later
  pub decided : Sooner sooner later
