-- The stretches that a fold can use, and a table that has the entries of these at least.
use Rattle.std.specs.Prelude.{◌≡◌, Bool, List, ℕ, ◌+◌, ◌<◌, ◌≤◌, get_or}
use Rattle.format.specs.Limits.{Prices}
use Rattle.format.specs.Forest.{Forest, group, Allowed, siblings}
use Rattle.optimum.specs.Cheapest.{back, FreeCopy}
use Rattle.table.specs.Table.{Entry, cell, number, stretch}

-- A stretch of d siblings from sibling i on is used where it goes up to the end, as what follows an item of the sequence does, or
-- stands again d or more siblings further on and holds no marked label, as the body of a repeat does and what follows an item of that
-- body.
pub data Used (marked : ℕ → Bool) (t : Forest) (i d : ℕ) : Type 0 where
  to_end : i + d ≡ siblings t → Used marked t i d
  again : (w : ℕ) → d ≤ w → i + w + d ≤ siblings t → FreeCopy marked (stretch t i d) (stretch t (i + w) d) → Used marked t i d

-- The sequence g, behind which c nodes of the run follow, is t itself, behind which b follow, or what a group in it holds.
pub data Inside : (b : ℕ) (t : Forest) (c : ℕ) (g : Forest) → Type 0 where
  itself : {b : ℕ} {t : Forest} → Inside b t b t
  deeper : {b : ℕ} {t : Forest} {c : ℕ} {g : Forest} (i l : ℕ) (h f : Forest) → back i t ≡ group l h f
      → Inside (number b t (i + 1)) h c g → Inside b t c g

-- The used stretches of one sequence are entered, and those of a whole tree.
abbrev pub UsedEntered : Allowed → Prices → (b : ℕ) → Forest → (costs choices : List ℕ) → Type 0
UsedEntered A P b t costs choices =
    (i d : ℕ) → 0 < d → i + d ≤ siblings t → Used A.marked t i d
    → Entry A P (stretch t i d) (get_or costs (cell (number b t (i + d)) (number b t i)) 0) (get_or choices (cell (number b t (i + d)) (number b t i)) 0)

pub record UsedFilled (A : Allowed) (P : Prices) (b : ℕ) (t : Forest) (costs choices : List ℕ) : Type 0 where
  pub entry : (c : ℕ) (g : Forest) → Inside b t c g → UsedEntered A P c g costs choices
