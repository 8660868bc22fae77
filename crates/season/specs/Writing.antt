-- What the season's writer rests on and promises: the bytes of the cheapest fold and their length, by the pairs in the blocks.
use Rattle.std.specs.Prelude.{◌≡◌, Bool, true, false, cond, List, [], ◌∷◌, ◌++◌, ℕ, ◌+◌, ◌-◌, ◌*◌, ◌/◌, ◌%◌, ◌<◌, ◌≤◌, eqb, length, get_or}
use Rattle.format.specs.Limits.{Prices}
use Rattle.format.specs.Forest.{Forest, Allowed, siblings, bytes, opening}
use Rattle.optimum.specs.Cheapest.{front, back, cheapest}
use Rattle.put.specs.Bounds.{most_bytes}
use Rattle.put.specs.Written.{Written}
use Rattle.blocks.specs.Keys.{block, slot, tail_slot, pair_in}
use Rattle.blocks.specs.Solved.{SolvedFrom, Modest}

-- The slot of what is left of a tail, or of a stretch.
abbrev pub left_slot : (tail : Bool) → (left : ℕ) → ℕ
left_slot tail n = cond tail tail_slot n

-- Count and width of a pair, and the steps that its item covers.
abbrev pub count_of : ℕ → ℕ
count_of x = x / 64

abbrev pub width_of : ℕ → ℕ
width_of x = x % 64

abbrev pub covers : ℕ → ℕ
covers x = cond (eqb x 0) 1 (count_of x * width_of x)

-- All that the bytes of the cheapest fold of the steps from `from` up to `end` rest on: the run, its solved blocks, and that the
-- steps are a tail or a stretch within the limit.
pub record StepsReady (run work : List ℕ) (tail : Bool) (from end : ℕ) : Type 0 where
  pub allowed : Allowed
  pub prices : Prices
  pub tree : Forest
  pub modest : Modest allowed prices tree
  pub stands : run ≡ bytes tree
  pub solved : SolvedFrom allowed prices tree work 0
  pub room : block * (siblings tree + 1) ≤ length work
  pub ahead : from ≤ end
  pub within : end ≤ siblings tree
  pub ends : tail ≡ true → end ≡ siblings tree
  pub short : tail ≡ false → end ≤ from + allowed.widest

-- These steps, and the bytes of their cheapest fold.
abbrev pub steps_of : {run work : List ℕ} {tail : Bool} {from end : ℕ} → StepsReady run work tail from end → Forest
steps_of {from = from} {end} z = front (end - from) (back from z.tree)

abbrev pub fold_bytes : {run work : List ℕ} {tail : Bool} {from end : ℕ} → StepsReady run work tail from end → List ℕ
fold_bytes z = bytes (cheapest z.allowed z.prices (steps_of z))

-- The first item of some steps, by its pair.
pub record ItemReady (run work : List ℕ) (i pair : ℕ) : Type 0 where
  pub tail : Bool
  pub end : ℕ
  pub ready : StepsReady run work tail i end
  pub some : i < end
  pub is_pair : pair ≡ pair_in work (slot i (left_slot tail (end - i)))

abbrev pub item_bytes : {run work : List ℕ} {i pair : ℕ} → ItemReady run work i pair → List ℕ
item_bytes {run} {i = i} {pair} z =
    cond (eqb pair 0) (0x10 ∷ get_or run (2 * i + 1) 0 ∷ [])
    (opening false (count_of pair) (width_of pair)
    (bytes (cheapest z.ready.allowed z.ready.prices (front (width_of pair) (back i z.ready.tree))) ++ 0x21 ∷ []))

-- Steps, or an item, whose bytes end at such a place when they begin at `to`.
pub record StepsFit (run work : List ℕ) (tail : Bool) (from end to : ℕ) : Type 0 where
  pub ready : StepsReady run work tail from end
  pub fits : to + length (fold_bytes ready) ≤ most_bytes

pub record ItemFits (run work : List ℕ) (i pair to : ℕ) : Type 0 where
  pub ready : ItemReady run work i pair
  pub fits : to + length (item_bytes ready) ≤ most_bytes

-- They are written, as far as there is room, and nothing else; the answer is the place behind them.
abbrev pub StepsWritten : (run work : List ℕ) (tail : Bool) (from end to : ℕ) (before after : List ℕ) (r : ℕ) → Type 0
StepsWritten run work tail from end = Written (λ (z : StepsReady run work tail from end). fold_bytes z)

abbrev pub ItemWritten : (run work : List ℕ) (i pair to : ℕ) (before after : List ℕ) (r : ℕ) → Type 0
ItemWritten run work i pair = Written (λ (z : ItemReady run work i pair). item_bytes z)
