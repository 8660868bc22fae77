-- What solving the block of one step rests on, and what its functions promise: keys that are the least of those of the
-- candidates, and the block solved.
use Rattle.std.specs.Prelude.{◌≡◌, true, false, List, ℕ, ◌+◌, ◌-◌, ◌*◌, ◌<◌, ◌≤◌, length, get_or}
use Rattle.format.specs.Limits.{Prices, marked_in, allowed}
use Rattle.format.specs.Forest.{Forest, Allowed, siblings, bytes}
use Rattle.format.specs.Tree.{tree_of}
use Rattle.optimum.specs.Cheapest.{front, back, node, Power, best_cost}
use Rattle.optimum.specs.Matches.{Matched}
use Rattle.blocks.specs.declared.keys.Key.{Key}
use Rattle.blocks.specs.Keys.{factor, packed, pair_base, order, Lesser, block, slot, tail_slot, count_slot, both_in, pair_in, SameKey, Touched}
use Rattle.blocks.specs.Solved.{Flat, Best, BestCount, SolvedFrom, Solved, Modest}
use Rattle.tails.specs.declared.rates.Rates.{Rates}

-- The rates of two prices.
pub record RatesOf (first_price each_price : ℕ) (r : Rates) : Type 0 where
  pub first : r.first ≡ first_price * factor + 1
  pub each : r.each ≡ each_price * factor

-- The keys of what may stand first in the stretch of d steps from step i on: the plain step, and h copies of width w.
abbrev pub plain_key : List ℕ → (own i d : ℕ) → Key
plain_key W own i d = record { both = own + both_in W (slot (i + 1) (d - 1)); pair = 0 }

abbrev pub repeat_key : List ℕ → Rates → (i d w h : ℕ) → Key
repeat_key W R i d w h =
    record {
      both = R.first + R.each * (h - 2) + both_in W (slot i w) + both_in W (slot (i + h * w) (d - h * w));
      pair = packed h w;
    }

-- A count of which no more than `reach` steps are covered at width w.
pub record Within (reach w h : ℕ) : Type 0 where
  pub twice : 2 ≤ h
  pub fits : h * w ≤ reach

-- The key r is the least of `best` and of those of these counts.
pub data OfferCame (W : List ℕ) (R : Rates) (i d w reach : ℕ) (best r : Key) : Type 0 where
  kept : r ≡ best → OfferCame W R i d w reach best r
  taken : (h : ℕ) → Within reach w h → r ≡ repeat_key W R i d w h → OfferCame W R i d w reach best r

pub record Offered (W : List ℕ) (R : Rates) (i d w reach : ℕ) (best r : Key) : Type 0 where
  pub came : OfferCame W R i d w reach best r
  pub lower : order r ≤ order best
  pub each : (h : ℕ) → Within reach w h → order r ≤ order (repeat_key W R i d w h)
  pub small : r.pair < pair_base

-- A repeat of count h and width w fits into d steps and into the matches.
pub record Fits (M : List ℕ) (d h w : ℕ) : Type 0 where
  pub twice : 2 ≤ h
  pub some : 0 < w
  pub inside : h * w ≤ d
  pub near : h * w ≤ get_or M w 0 + w

-- The key r is the least of `best` and of those of the repeats of width w that fit.
pub data WidthCame (W M : List ℕ) (R : Rates) (i d w : ℕ) (best r : Key) : Type 0 where
  kept : r ≡ best → WidthCame W M R i d w best r
  taken : (h : ℕ) → Fits M d h w → r ≡ repeat_key W R i d w h → WidthCame W M R i d w best r

pub record WidthOffered (W M : List ℕ) (R : Rates) (i d w : ℕ) (best r : Key) : Type 0 where
  pub came : WidthCame W M R i d w best r
  pub lower : order r ≤ order best
  pub each : (h : ℕ) → Fits M d h w → order r ≤ order (repeat_key W R i d w h)
  pub small : r.pair < pair_base

-- The key r is the least of the plain step's and of those of all repeats of less width than v that fit.
pub data StretchCame (W M : List ℕ) (R : Rates) (own i d : ℕ) (r : Key) : Type 0 where
  by_plain : r ≡ plain_key W own i d → StretchCame W M R own i d r
  by_repeat : (h w : ℕ) → Fits M d h w → r ≡ repeat_key W R i d w h → StretchCame W M R own i d r

pub record Stretched (W M : List ℕ) (R : Rates) (own i d v : ℕ) (r : Key) : Type 0 where
  pub came : StretchCame W M R own i d r
  pub plainly : order r ≤ order (plain_key W own i d)
  pub repeats : (h w : ℕ) → w < v → Fits M d h w → order r ≤ order (repeat_key W R i d w h)
  pub small : r.pair < pair_base

-- The key of the best count at width w from step i on, where k steps match: two copies, or where there is a third, one more than
-- from one copy on, of both the earlier one.
abbrev pub two_key : List ℕ → (i w : ℕ) → Key
two_key W i w = record { both = both_in W (slot (i + 2 * w) tail_slot); pair = packed 2 w }

abbrev pub more_key : List ℕ → Rates → (i w : ℕ) → Key
more_key W R i w =
    record { both = both_in W (slot (i + w) (count_slot w)) + R.each; pair = pair_in W (slot (i + w) (count_slot w)) + 64 }

pub record Counted (W : List ℕ) (R : Rates) (i w k : ℕ) (r : Key) : Type 0 where
  pub only : k < 2 * w → r ≡ two_key W i w
  pub more : 2 * w ≤ k → Lesser (two_key W i w) (more_key W R i w) r

-- The keys of what may stand first in the tail from step i on.
abbrev pub plain_tail : List ℕ → (own i : ℕ) → Key
plain_tail W own i = record { both = own + both_in W (slot (i + 1) tail_slot); pair = 0 }

abbrev pub repeat_tail : List ℕ → Rates → (i w : ℕ) → Key
repeat_tail W R i w =
    record {
      both = R.first + both_in W (slot i w) + both_in W (slot i (count_slot w));
      pair = pair_in W (slot i (count_slot w));
    }

-- The widths of which there are two copies.
pub record Twice (M : List ℕ) (w : ℕ) : Type 0 where
  pub some : 0 < w
  pub copy : w ≤ get_or M w 0

-- The key r is the lesser of `best` and of that of width w.
pub record TailOffered (W M : List ℕ) (R : Rates) (i w : ℕ) (best r : Key) : Type 0 where
  pub none : (Twice M w → ⊥) → r ≡ best
  pub some : Twice M w → Lesser best (repeat_tail W R i w) r

-- The key r is the least of the plain step's and of those of all widths below v.
pub data TailCame (W M : List ℕ) (R : Rates) (own i limit : ℕ) (r : Key) : Type 0 where
  by_plain : r ≡ plain_tail W own i → TailCame W M R own i limit r
  by_width : (w : ℕ) → w ≤ limit → Twice M w → r ≡ repeat_tail W R i w → TailCame W M R own i limit r

pub record Tailed (W M : List ℕ) (R : Rates) (own i limit v : ℕ) (r : Key) : Type 0 where
  pub came : TailCame W M R own i limit r
  pub plainly : order r ≤ order (plain_tail W own i)
  pub widths : (w : ℕ) → w < v → Twice M w → order r ≤ order (repeat_tail W R i w)
  pub small : r.pair < pair_base

-- The matches at step i, for each width within the limit; none where no step is that far on.
pub record Matching (A : Allowed) (t : Forest) (M : List ℕ) (i : ℕ) : Type 0 where
  pub matched : (w : ℕ) → 0 < w → w ≤ A.widest → i + w ≤ siblings t → Matched A.marked (back i t) w (get_or M w 0)
  pub none : (w : ℕ) → 0 < w → w ≤ A.widest → siblings t < i + w → get_or M w 0 ≡ 0

-- All that solving the block of step i rests on: the run, the prices, the matches, and the blocks behind it.
pub record RowReady (W M : List ℕ) (R : Rates) (limit n i : ℕ) : Type 0 where
  pub allowed : Allowed
  pub prices : Prices
  pub tree : Forest
  pub modest : Modest allowed prices tree
  pub limited : allowed.widest ≡ limit
  pub all : siblings tree ≡ n
  pub here : i < n
  pub first : R.first ≡ prices.first
  pub each : R.each ≡ prices.each
  pub matching : Matching allowed tree M i
  pub solved : SolvedFrom allowed prices tree W (i + 1)
  pub room : block * (siblings tree + 1) ≤ length W

-- The cost of the step by itself.
abbrev pub OwnCost : {W M : List ℕ} {R : Rates} {limit n i : ℕ} → RowReady W M R limit n i → (own : ℕ) → Type 0
OwnCost {i = i} z own = own ≡ best_cost z.allowed z.prices (node i z.tree)

-- The stretches of step i that are shorter than m are solved, and the counts at the widths below v.
abbrev pub StretchesBelow : {W M : List ℕ} {R : Rates} {limit n i : ℕ} → RowReady W M R limit n i → List ℕ → (m : ℕ) → Type 0
StretchesBelow {i = i} z X m =
    (d : ℕ) → d < m → d ≤ z.allowed.widest → i + d ≤ siblings z.tree
    → Best z.allowed z.prices (front d (back i z.tree)) (both_in X (slot i d)) (pair_in X (slot i d))

abbrev pub CountsBelow : {W M : List ℕ} {R : Rates} {limit n i : ℕ} → RowReady W M R limit n i → List ℕ → (v : ℕ) → Type 0
CountsBelow {i = i} z X v =
    (w : ℕ) → w < v → Power z.allowed (back i z.tree) 2 w
    → BestCount z.allowed z.prices z.tree i w (both_in X (slot i (count_slot w))) (pair_in X (slot i (count_slot w)))

-- The stretches are put, those shorter than m.
pub record StretchesPut (W M : List ℕ) (R : Rates) (limit n own i m : ℕ) (X : List ℕ) : Type 0 where
  pub touched : Touched i W X
  pub stretches : (z : RowReady W M R limit n i) → OwnCost z own → StretchesBelow z X m

-- The best count at width w is put, where there are two copies; no other slot changes.
pub record CountPut (W M : List ℕ) (R : Rates) (limit n i w : ℕ) (X : List ℕ) : Type 0 where
  pub touched : Touched i W X
  pub kept : (s : ℕ) → (s ≡ count_slot w → ⊥) → SameKey W X (slot i s)
  pub count : (z : RowReady W M R limit n i) → Power z.allowed (back i z.tree) 2 w
      → BestCount z.allowed z.prices z.tree i w (both_in X (slot i (count_slot w))) (pair_in X (slot i (count_slot w)))

-- The best counts are put, those at widths below v; the stretches stay.
pub record CountsPut (W M : List ℕ) (R : Rates) (limit n i v : ℕ) (X : List ℕ) : Type 0 where
  pub touched : Touched i W X
  pub kept : (s : ℕ) → s ≤ tail_slot → SameKey W X (slot i s)
  pub counts : (z : RowReady W M R limit n i) → CountsBelow z X v

-- The block of step i is solved, and no other has changed.
pub record RowSolved (W M : List ℕ) (R : Rates) (limit n own i : ℕ) (X : List ℕ) : Type 0 where
  pub touched : Touched i W X
  pub solved : (z : RowReady W M R limit n i) → OwnCost z own → Solved z.allowed z.prices z.tree X i

-- The bytes are those of a flat run of n steps.
pub record FlatRun (run : List ℕ) (n : ℕ) : Type 0 where
  pub flat : Flat (tree_of run)
  pub stands : bytes (tree_of run) ≡ run
  pub all : siblings (tree_of run) ≡ n
  pub few : n < 65536

-- The matches r of step i at width w, by the k of the next step.
abbrev pub label_at : (run : List ℕ) (i : ℕ) → ℕ
label_at run i = get_or run (2 * i + 1) 0

pub data MatchAt (run marks : List ℕ) (n i w k r : ℕ) : Type 0 where
  ends : n ≤ i + w → r ≡ 0 → MatchAt run marks n i w k r
  differs : (label_at run (i + w) ≡ label_at run i → ⊥) → r ≡ 0 → MatchAt run marks n i w k r
  is_marked : marked_in marks (label_at run i) ≡ true → r ≡ 0 → MatchAt run marks n i w k r
  matches : i + w < n → label_at run (i + w) ≡ label_at run i → marked_in marks (label_at run i) ≡ false → r ≡ k + 1 → MatchAt run marks n i w k r

-- The block of the end is put: nothing, at no cost.
pub record EndPut (W : List ℕ) (n : ℕ) (X : List ℕ) : Type 0 where
  pub touched : Touched n W X
  pub none : (both_in X (slot n 0) ≡ 0) × (pair_in X (slot n 0) ≡ 0)
  pub tail : (both_in X (slot n tail_slot) ≡ 0) × (pair_in X (slot n tail_slot) ≡ 0)

-- What filling the blocks of a run of n steps rests on.
pub record FillReady (run steps : List ℕ) (R : Rates) (limit n : ℕ) (W : List ℕ) : Type 0 where
  pub flat : FlatRun run n
  pub narrow : limit ≤ 32
  pub low_steps : (l : ℕ) → get_or steps l 0 < 65536
  pub room : block * (n + 1) ≤ length W

-- Prices that count repeats: of steps by the table, and of repeats by the rates.
pub record PricesAre (steps : List ℕ) (R : Rates) (P : Prices) : Type 0 where
  pub first : R.first ≡ P.first
  pub each : R.each ≡ P.each
  pub of_step : (l : ℕ) → P.of_step l ≡ get_or steps l 0 * factor

-- The blocks of a run from step i on are solved at these prices, under the marks.
pub record FilledFrom (run steps marks : List ℕ) (R : Rates) (limit i : ℕ) (X : List ℕ) : Type 0 where
  pub solved : (P : Prices) → PricesAre steps R P → SolvedFrom (allowed limit marks) P (tree_of run) X i

-- No entry from e on has changed.
pub record KeptPast (e : ℕ) (before after : List ℕ) : Type 0 where
  pub same_length : length after ≡ length before
  pub past : (x : ℕ) → e ≤ x → get_or after x 0 ≡ get_or before x 0
