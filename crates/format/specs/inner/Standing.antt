-- Where the byte form of a tree stands: what a walk over a fold that was read before asks of a place.
use Rattle.std.specs.Prelude.{◌≡◌, List, [], ◌∷◌, ◌++◌, ◌⊎◌, ℕ, drop}
use Rattle.format.specs.Forest.{Forest, end, step, group, repeat, Allowed, Sound, bytes}

-- Where a sequence ends: at the end of the input, or at a close.
abbrev pub Ends : List ℕ → Type 0
Ends [] = Unit
Ends (c ∷ s) = (c ≡ 0x12) ⊎ (c ≡ 0x21)

-- One item and nothing behind it.
pub data One : Forest → Type 0 where
  one_step : (label : ℕ) → One (step label end)
  one_group : (label : ℕ) (body : Forest) → One (group label body end)
  one_repeat : (count width : ℕ) (body : Forest) → One (repeat count width body end)

-- At offset p stands the byte form of f, sound at some width limit, with `rest` behind it.
pub record FormAt (s : List ℕ) (p : ℕ) (f : Forest) (rest : List ℕ) : Type 0 where
  pub form : drop p s ≡ bytes f ++ rest
  pub allowed : Allowed
  pub sound : Sound allowed f

-- At offset p stands the sequence f, whole.
pub record SequenceAt (s : List ℕ) (p : ℕ) (f : Forest) : Type 0 where
  pub rest : List ℕ
  pub stands : FormAt s p f rest
  pub ends : Ends rest

-- At offset p stands the item f.
pub record ItemAt (s : List ℕ) (p : ℕ) (f : Forest) : Type 0 where
  pub rest : List ℕ
  pub stands : FormAt s p f rest
  pub one : One f
