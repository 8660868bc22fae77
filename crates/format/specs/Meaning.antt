-- What accepted bytes mean in the report's words: demand 2, first sentence.
use Rattle.std.specs.Prelude.{◌≡◌, Bool, false, List, ℕ, length}
use Rattle.format.specs.Limits.{Limits, limits, Prices, of_repeat, Tariff, priced, Allowed, allowed}
use Rattle.format.specs.Forest.{Forest, end, step, group, repeat, bytes}
use Rattle.format.specs.Readings.{run_reading_in}
use Rattle.format.specs.Tree.{tree_of}
use Rattle.format.specs.Report.{RRT, empty, letter, repetition, Valid, Represents, Width, WidthAtMost, size}

-- The report's alphabet: a step and a group of one label are two letters.
pub data Letter : Type 0 where
  step_of : (label : ℕ) → Letter
  group_of : (label : ℕ) → Letter

-- The report's tree of a sequence, less its root. A step is a leaf.
unfoldable pub report : Forest → RRT Letter
report end = empty
report (step l f) = letter (step_of l) empty (report f)
report (group l b f) = letter (group_of l) (report b) (report f)
report (repeat h w b f) = repetition h (report b) (report f)

-- The report's tree of bytes.
abbrev pub report_of : List ℕ → RRT Letter
report_of s = report (tree_of s)

-- Every width operand is the report's width of its repetition.
abbrev pub TrueWidths : Forest → Type 0
TrueWidths end = Unit
TrueWidths (step l f) = TrueWidths f
TrueWidths (group l b f) = TrueWidths b × TrueWidths f
TrueWidths (repeat h w b f) = Width (report b) w × TrueWidths b × TrueWidths f

-- A letter is marked where its label is.
abbrev pub is_marked : (ℕ → Bool) → Letter → Bool
is_marked m (step_of l) = m l
is_marked m (group_of l) = m l

-- No letter of a tree of the report is marked.
abbrev pub NoneMarked : (ℕ → Bool) → RRT Letter → Type 0
NoneMarked m empty = Unit
NoneMarked m (letter a c r) = (is_marked m a ≡ false) × NoneMarked m c × NoneMarked m r
NoneMarked m (repetition h c r) = NoneMarked m c × NoneMarked m r

-- No marked letter lies anywhere below a repetition information node.
abbrev pub NoneRepeated : (ℕ → Bool) → RRT Letter → Type 0
NoneRepeated m empty = Unit
NoneRepeated m (letter a c r) = NoneRepeated m c × NoneRepeated m r
NoneRepeated m (repetition h c r) = NoneMarked m c × NoneRepeated m r

-- The bytes s, read within limits and with these repeats allowed, mean the run x: s is the byte form of its tree; that tree is one
-- of the report's, within the width limit, with true width operands and no marked letter repeated; x is a run within those limits,
-- and the tree of s represents the tree of x. Where no limits are named, here and below, the format's are meant.
pub record MeansIn (L : Limits) (A : Allowed) (s x : List ℕ) : Type 0 where
  pub form : bytes (tree_of s) ≡ s
  pub valid : Valid (report_of s)
  pub within : WidthAtMost A.widest (report_of s)
  pub widths : TrueWidths (tree_of s)
  pub marks : NoneRepeated A.marked (report_of s)
  pub run : (run_reading_in L x).refusal ≡ 0
  pub represented : Represents (report_of s) (report_of x)

abbrev pub Means : Allowed → (s x : List ℕ) → Type 0
Means A s x = MeansIn limits A s x

-- The weight of a letter: a step's price or a group's, by its label.
abbrev pub weight : Prices → Letter → ℕ
weight P (step_of l) = P.of_step l
weight P (group_of l) = P.of_group l

-- The report's size by prices as weights: each letter by its own, a number h by first + each × (h − 2).
unfoldable pub report_size : Prices → RRT Letter → ℕ
unfolding size
report_size P r = size (weight P) (of_repeat P) r

-- The bytes s, read at width limit k and these costs, mean a run of n bytes, and the cost is the report's length.
pub record MeansAtCostIn (L : Limits) (k : ℕ) (T : Tariff) (s : List ℕ) (n cost : ℕ) : Type 0 where
  pub text : List ℕ
  pub means : MeansIn L (allowed k T.marks) s text
  pub long : length text ≡ n
  pub weighed : cost ≡ report_size (priced T) (report_of s)

abbrev pub MeansAtCost : (k : ℕ) → Tariff → (s : List ℕ) → (n cost : ℕ) → Type 0
MeansAtCost k T s n c = MeansAtCostIn limits k T s n c
