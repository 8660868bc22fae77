-- Demands 2 and 3 about any bytes: what a fold of a run within a limit is, and which one is the cheapest.
use Rattle.std.specs.Prelude.{◌≡◌, List, ℕ, ◌<◌, ◌≤◌, length}
use Rattle.format.specs.Limits.{limits, Tariff, priced, allowed}
use Rattle.format.specs.declared.kind.Limits.{Limits}
use Rattle.format.specs.Order.{Bytes}
use Rattle.format.specs.Forest.{widest_of}
use Rattle.format.specs.Machine.{Rules}
use Rattle.format.specs.Readings.{WellFormed}
use Rattle.format.specs.Family.{short_form}
use Rattle.format.specs.Tree.{tree_of}
use Rattle.format.specs.Meaning.{Letter, NoneRepeated, MeansIn, report_of, report_size}
use Rattle.format.specs.Report.{RRT, Valid, WidthAtMost, Represents}
use Rattle.optimum.specs.Fewest.{ComesFirst}

-- The bytes g are a fold of the run within the limit, of this cost: they are well formed by the rules, marks among these, they
-- unroll to the run byte for byte, no width operand passes the limit, and the cost is the one that is read.
pub record FoldWithin (run : List ℕ) (limit : ℕ) (R : Rules) (g : List ℕ) (cost : ℕ) : Type 0 where
  pub formed : WellFormed R g
  pub unrolls : formed.text ≡ run
  pub within : widest_of (tree_of g) ≤ limit
  pub costs : formed.tally.cost ≡ cost

-- The bytes f are the cheapest fold of the run within the limit, at this cost: they are a fold of it (demand 2), every fold
-- of the run within the limit, whoever wrote it and however nested, costs at least as much, and every other one of exactly
-- that cost has more `20` commands, or as many and bytes that come later (demand 3).
pub record CheapestWithin (run : List ℕ) (limit : ℕ) (R : Rules) (f : List ℕ) (cost : ℕ) : Type 0 where
  pub fold : FoldWithin run limit R f cost
  pub no_cheaper : (g : List ℕ) (c : ℕ) → Bytes g → FoldWithin run limit R g c → cost ≤ c
  pub first : (g : List ℕ) (c : ℕ) → Bytes g → FoldWithin run limit R g c → c ≡ cost → (g ≡ f → ⊥) → ComesFirst f g

-- The cheapest fold of the run within the limit has no room: what refusal 14 says.
pub record CheapestOver (room : ℕ) (run : List ℕ) (limit : ℕ) (R : Rules) : Type 0 where
  pub fold : List ℕ
  pub cost : ℕ
  pub cheapest : CheapestWithin run limit R fold cost
  pub longer : room < length fold

-- Its short form has none: what 14 says in the short family.
pub record ShortOver (room : ℕ) (run : List ℕ) (limit : ℕ) (R : Rules) : Type 0 where
  pub fold : List ℕ
  pub cost : ℕ
  pub cheapest : CheapestWithin run limit R fold cost
  pub longer : room < length (short_form fold)

-- The report's own problem (minimum width-k repetition representation tree) under the marks: the tree of f is of width k, repeats
-- no marked letter and represents the tree of the run, and no such tree is smaller, the prices as weights. Where no limits are
-- named, the format's are meant.
pub record MinimumTreeIn (L : Limits) (run : List ℕ) (k : ℕ) (T : Tariff) (f : List ℕ) : Type 0 where
  pub means : MeansIn L (allowed k T.marks) f run
  pub smallest : (r : RRT Letter) → Valid r → WidthAtMost k r → NoneRepeated (allowed k T.marks).marked r
      → Represents r (report_of run) → report_size (priced T) (report_of f) ≤ report_size (priced T) r

abbrev pub MinimumTree : (run : List ℕ) → (k : ℕ) → Tariff → (f : List ℕ) → Type 0
MinimumTree run k T f = MinimumTreeIn limits run k T f
