-- What filling the table rests on, the prices and one sequence, and what is then entered.
use Rattle.std.specs.Prelude.{◌≡◌, List, ℕ, ◌+◌, ◌-◌, ◌*◌, ◌<◌, ◌≤◌, length, get_or}
use Rattle.format.specs.Limits.{Prices, cells, allowed}
use Rattle.format.specs.Forest.{Forest, end, step, group, repeat, Allowed, siblings, nodes}
use Rattle.format.specs.Tree.{tree_of}
use Rattle.optimum.specs.Cheapest.{node, best_cost}
use Rattle.optimum.specs.Fewest.{counting}
use Rattle.table.specs.Keys.{factor}
use Rattle.table.specs.Table.{Kept}
use Rattle.table.specs.Listing.{Spelled}
use Rattle.table.specs.Nodes.{SpanListed}
use Rattle.table.specs.Used.{UsedEntered}
use Rattle.solver.specs.Rows.{Priced}
use Rattle.filling.specs.declared.level.Level.{Level}

-- The prices that the two cost tables and a list of repeat prices give.
abbrev pub prices_of : (steps groups prices : List ℕ) → Prices
prices_of steps groups prices =
    record {
      of_step = λ l. get_or steps l 0;
      of_group = λ l. get_or groups l 0;
      first = get_or prices 2 0;
      each = get_or prices 3 0 - get_or prices 2 0;
    }

-- The same prices, counting repeats: folds are compared by these.
abbrev pub counted_of : (steps groups prices : List ℕ) → Prices
counted_of steps groups prices = counting factor (prices_of steps groups prices)

-- The list has the price of each count, and labels cost 16 bits at most.
pub record Prepared (steps groups prices : List ℕ) : Type 0 where
  pub priced : Priced (counted_of steps groups prices) prices
  pub low_steps : (l : ℕ) → get_or steps l 0 < 65536
  pub low_groups : (l : ℕ) → get_or groups l 0 < 65536

-- The sequences inside a sequence's groups are entered, as far as a fold can use them, and theirs. What follows a group follows its
-- children.
abbrev pub Below : Allowed → Prices → ℕ → Forest → (costs choices : List ℕ) → Type 0
Below A P b end cs ks = Unit
Below A P b (step l f) cs ks = Below A P b f cs ks
Below A P b (group l g f) cs ks = UsedEntered A P (b + nodes f) g cs ks × Below A P (b + nodes f) g cs ks × Below A P b f cs ks
Below A P b (repeat h w g f) cs ks = Unit

-- A whole tree is entered: its top sequence and all that lies below.
pub record Filled (A : Allowed) (P : Prices) (b : ℕ) (t : Forest) (costs choices : List ℕ) : Type 0 where
  pub top : UsedEntered A P b t costs choices
  pub below : Below A P b t costs choices

-- All that filling the stretches of one sequence rests on.
pub record LevelReady (s : List ℕ) (b limit : ℕ) (steps groups prices costs choices : List ℕ) : Type 0 where
  pub spelled : Spelled s
  pub total : b + nodes (tree_of s) ≤ 1024
  pub cost_room : cells (b + nodes (tree_of s)) ≤ length costs
  pub choice_room : cells (b + nodes (tree_of s)) ≤ length choices
  pub prepared : Prepared steps groups prices

-- The nodes of the run are listed, and among them the sequence, where the level says that it stands.
pub record LevelListed (places nexts s : List ℕ) (level : Level) : Type 0 where
  pub listed : SpanListed places nexts level.span (tree_of s)

-- Where what the group of number q holds stands, and the width limit: from the group's first node on, which the next lower number has.
pub record LevelInside (places : List ℕ) (q next limit : ℕ) (r : Level) : Type 0 where
  pub starts : r.span.start ≡ get_or places (q - 1) 0
  pub begins : r.span.first + 1 ≡ q
  pub ends : r.span.behind ≡ next
  pub limited : r.limit ≡ limit

-- The sequence is entered with all below it, and nothing outside its interval has changed.
abbrev pub LevelFilled : (s : List ℕ) (level : Level) (steps groups marks prices costs choices : List ℕ) → Type 0
LevelFilled s level steps groups marks prices costs choices =
    Filled (allowed level.limit marks) (counted_of steps groups prices) level.span.behind (tree_of s) costs choices

abbrev pub LevelKept : (s : List ℕ) (level : Level) (before after : List ℕ) → Type 0
LevelKept s level before after = Kept level.span.behind (nodes (tree_of s)) before after

-- Cost and repeats, combined, of sibling i by itself, where the sequences inside the groups are entered.
pub record Single (s steps groups costs choices numbers : List ℕ) (i r : ℕ) : Type 0 where
  pub costs_it : (A : Allowed) (P : Prices) → ((l : ℕ) → P.of_step l ≡ get_or steps l 0 * factor) → ((l : ℕ) → P.of_group l ≡ get_or groups l 0 * factor)
      → nodes (tree_of s) ≤ 1024 → Below A P (get_or numbers (siblings (tree_of s)) 0) (tree_of s) costs choices → r ≡ best_cost A P (node i (tree_of s))
