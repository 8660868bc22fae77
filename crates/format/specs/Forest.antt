-- Sequences as trees. A run is an ordered forest of labelled nodes, a fold a forest that may hold repetition nodes as well
-- (the repetition representation tree of the report's section 3.1, without its root).
use Rattle.std.specs.Prelude.{◌≡◌, Bool, false, cond, ◌&&◌, ◌||◌, List, [], ◌∷◌, ◌++◌, ℕ, zero, suc, ◌+◌, ◌*◌, ◌/◌, ◌%◌, ◌≤◌, ◌<◌, max}
use Rattle.format.specs.Limits.{Prices, of_repeat, in_one_byte}
pub use Rattle.format.specs.Limits.{Allowed, at_most}

-- A sequence: nothing, or its first item and the rest.
pub data Forest : Type 0 where
  end : Forest
  step : (label : ℕ) → Forest → Forest
  group : (label : ℕ) → Forest → Forest → Forest
  repeat : (count width : ℕ) → Forest → Forest → Forest
  deriving Discrete as Forest-discrete

-- One sequence after another.
unfoldable pub join : Forest → Forest → Forest
join end g = g
join (step l f) g = step l (join f g)
join (group l b f) g = group l b (join f g)
join (repeat h w b f) g = repeat h w b (join f g)

-- h copies of a sequence, end to end.
unfoldable pub copies : ℕ → Forest → Forest
unfolding join
copies zero f = end
copies (suc h) f = join f (copies h f)

-- Unrolling writes a repeat's unrolled body count times and every other item as it stands.
unfoldable pub unroll : Forest → Forest
unfolding copies join
unroll end = end
unroll (step l f) = step l (unroll f)
unroll (group l b f) = group l (unroll b) (unroll f)
unroll (repeat h w b f) = join (copies h (unroll b)) (unroll f)

-- The siblings: the nodes of the sequence's own level after unrolling.
unfoldable pub siblings : Forest → ℕ
siblings end = 0
siblings (step l f) = 1 + siblings f
siblings (group l b f) = 1 + siblings f
siblings (repeat h w b f) = h * siblings b + siblings f

-- The nodes after unrolling, those inside groups among them.
unfoldable pub nodes : Forest → ℕ
nodes end = 0
nodes (step l f) = 1 + nodes f
nodes (group l b f) = 1 + nodes b + nodes f
nodes (repeat h w b f) = h * nodes b + nodes f

-- The steps after unrolling: the nodes that are no groups.
unfoldable pub steps : Forest → ℕ
steps end = 0
steps (step l f) = 1 + steps f
steps (group l b f) = steps b + steps f
steps (repeat h w b f) = h * steps b + steps f

-- The cost of a fold: the sum over its own commands, a body's cost not multiplied.
unfoldable pub cost : Prices → Forest → ℕ
cost P end = 0
cost P (step l f) = P.of_step l + cost P f
cost P (group l b f) = P.of_group l + cost P b + cost P f
cost P (repeat h w b f) = of_repeat P h + cost P b + cost P f

-- Two bytes, the high one first.
abbrev pub two_bytes : ℕ → List ℕ → List ℕ
two_bytes n s = n / 256 ∷ n % 256 ∷ s

-- The open of a repeat, with what follows it: a `20`, or in the short family a `22` where a byte each holds count and width.
abbrev pub opening : (short : Bool) → (count width : ℕ) → List ℕ → List ℕ
opening short h w s = cond (short && in_one_byte h w) (0x22 ∷ h ∷ w ∷ s) (0x20 ∷ two_bytes h (two_bytes w s))

-- Its bytes: three, or five.
abbrev pub opening_size : (short : Bool) → (count width : ℕ) → ℕ
opening_size short h w = cond (short && in_one_byte h w) 3 5

-- The byte form in a family, the short one or the long one.
unfoldable pub form_in : (short : Bool) → Forest → List ℕ
form_in short end = []
form_in short (step l f) = 0x10 ∷ l ∷ form_in short f
form_in short (group l b f) = 0x11 ∷ l ∷ form_in short b ++ 0x12 ∷ form_in short f
form_in short (repeat h w b f) = opening short h w (form_in short b ++ 0x21 ∷ form_in short f)

-- The byte form where no family is named: the long one.
abbrev pub bytes : Forest → List ℕ
bytes f = form_in false f

-- A run: no repeat anywhere.
abbrev pub Plain : Forest → Type 0
Plain end = Unit
Plain (step l f) = Plain f
Plain (group l b f) = Plain b × Plain f
Plain (repeat h w b f) = ⊥

-- Whether a marked label stands anywhere in a sequence, of a step or of a group.
unfoldable pub holds : (marked : ℕ → Bool) → Forest → Bool
holds m end = false
holds m (step l f) = m l || holds m f
holds m (group l b f) = m l || (holds m b || holds m f)
holds m (repeat h w b f) = holds m b || holds m f

-- A repeat of count h and width w over the body b is sound: at least two copies, the width operand is the number of
-- siblings of one pass, within the limit, the body is not empty, and it holds no marked label.
pub record Repeats (A : Allowed) (h w : ℕ) (b : Forest) : Type 0 where
  pub twice : 2 ≤ h
  pub true_width : siblings b ≡ w
  pub within : w ≤ A.widest
  pub some : 0 < siblings b
  pub unmarked : holds A.marked b ≡ false

-- A sound fold: each repeat is, and no group is empty.
abbrev pub Sound : Allowed → Forest → Type 0
Sound A end = Unit
Sound A (step l f) = Sound A f
Sound A (group l b f) = (0 < siblings b) × Sound A b × Sound A f
Sound A (repeat h w b f) = Repeats A h w b × Sound A b × Sound A f

-- Labels that are bytes and counts of two bytes: what the byte form can hold.
abbrev pub Coded : Forest → Type 0
Coded end = Unit
Coded (step l f) = (l < 256) × Coded f
Coded (group l b f) = (l < 256) × Coded b × Coded f
Coded (repeat h w b f) = (h < 65536) × (w < 65536) × Coded b × Coded f

-- The most groups, and the most repeats, that stand inside each other.
unfoldable pub group_depth : Forest → ℕ
group_depth end = 0
group_depth (step l f) = group_depth f
group_depth (group l b f) = max (suc (group_depth b)) (group_depth f)
group_depth (repeat h w b f) = max (group_depth b) (group_depth f)

unfoldable pub repeat_depth : Forest → ℕ
repeat_depth end = 0
repeat_depth (step l f) = repeat_depth f
repeat_depth (group l b f) = max (repeat_depth b) (repeat_depth f)
repeat_depth (repeat h w b f) = max (suc (repeat_depth b)) (repeat_depth f)

-- The widest width operand of a fold: it is within a limit when this is at most the limit.
unfoldable pub widest_of : Forest → ℕ
widest_of end = 0
widest_of (step l f) = widest_of f
widest_of (group l b f) = max (widest_of b) (widest_of f)
widest_of (repeat h w b f) = max w (max (widest_of b) (widest_of f))
