-- One row of the table: the stretches that begin at one sibling. Those of up to as many siblings as the row's extent are solved, and
-- the one up to the sequence's end. The prices count repeats, so that every cost is cost and repeats, combined.
use Rattle.std.specs.Prelude.{◌≡◌, Bool, cond, ◌⊎◌, List, ℕ, ◌+◌, ◌-◌, ◌*◌, ◌<◌, ◌≤◌, eqb, length, get_or, set}
use Rattle.format.specs.Limits.{Prices, of_repeat}
use Rattle.format.specs.Forest.{Forest, Allowed, siblings, nodes}
use Rattle.optimum.specs.Fewest.{combined}
use Rattle.optimum.specs.Cheapest.{Run, front, back, node, FreeCopy, rank, usual, price, Candidate, Power, Least, best_cost}
use Rattle.optimum.specs.Matches.{Matched}
use Rattle.table.specs.Keys.{factor, packed, key, combined_digits, covered, combined_base, stored_key, top_price, top_key}
use Rattle.table.specs.Table.{BestKey, Entry, cell, number, Falling, Stored, entry_at, key_at, rest_key, stretch}
use Rattle.table.specs.Listing.{Numbered, Classed}
use Rattle.solver.specs.declared.row.Row.{Row}
use Rattle.solver.specs.declared.matches.Source.{Source}

-- A row's numbers fit the lists: it has a stretch, and those whose keys it takes over end within the sequence, as its own do.
pub record RowFits (row : Row) : Type 0 where
  pub few : row.end ≤ 1024
  pub some : row.at < row.end
  pub low : row.own < combined_base
  pub taken : row.at + row.shift + row.span ≤ row.end
  pub under : row.span ≤ row.extent
  pub within : row.at + row.extent ≤ row.end

-- Both work slices have the entries of the sequence's stretches.
abbrev pub RowHeld : (costs choices numbers : List ℕ) (row : Row) → Type 0
RowHeld costs choices numbers row = Falling numbers row.end (length costs) × Falling numbers row.end (length choices)

-- What the row reads there is low, far below the 64 bits that two entries can hold: the rests of its stretches, and the keys that it takes
-- over.
pub record RowLow (costs choices numbers : List ℕ) (row : Row) : Type 0 where
  pub rests : (c d : ℕ) → 0 < c → c < d → d ≤ row.extent → key_at costs choices numbers (row.at + c) (row.at + d) < stored_key
  pub taken : (c : ℕ) → 0 < c → c ≤ row.span → key_at costs choices numbers (row.at + row.shift) (row.at + row.shift + c) < stored_key

abbrev pub RowRead : (costs choices numbers : List ℕ) (row : Row) → Type 0
RowRead costs choices numbers row =
    Falling numbers row.end (length costs) × Falling numbers row.end (length choices) × RowLow costs choices numbers row

-- The keys, the prices and what the tails add, as they may be worked on.
pub record KeysReady (keys : List ℕ) : Type 0 where
  pub long : length keys ≡ 1025
  pub low : (c : ℕ) → get_or keys c 0 ≤ top_key

pub record PricesReady (prices : List ℕ) : Type 0 where
  pub long : length prices ≡ 1025
  pub low : (h : ℕ) → get_or prices h 0 ≤ top_price

pub record TailsReady (tails : List ℕ) : Type 0 where
  pub long : length tails ≡ 1025
  pub low : (j : ℕ) → get_or tails j 0 ≤ stored_key

-- The price of each count, as a list; combined with the one repeat that it buys it is the price that counts repeats.
pub record Priced (P : Prices) (prices : List ℕ) : Type 0 where
  pub ready : PricesReady prices
  pub price_of : (h : ℕ) → 2 ≤ h → h ≤ 1024 → combined factor (get_or prices h 0) 1 ≡ of_repeat P h

-- The matches at every width.
pub record Matches (marked : ℕ → Bool) (T : Forest) (same : List ℕ) : Type 0 where
  pub matched : (w : ℕ) → 0 < w → w ≤ siblings T → Matched marked T w (get_or same w 0)

-- How far the rows from sibling i on are solved: what stands again d or more siblings further on and holds no marked label is, and
-- where a stretch is solved so are its ends.
pub record Extending (marked : ℕ → Bool) (t : Forest) (i : ℕ) (extents : List ℕ) : Type 0 where
  pub within : (j : ℕ) → i ≤ j → j ≤ siblings t → j + get_or extents j 0 ≤ siblings t
  pub closed : (j c : ℕ) → i ≤ j → j + c ≤ siblings t → get_or extents j 0 ≤ get_or extents (j + c) 0 + c
  pub used : (j d w : ℕ) → i ≤ j → 0 < w → d ≤ w → j + w + d ≤ siblings t → FreeCopy marked (stretch t j d) (stretch t (j + w) d) → d ≤ get_or extents j 0

-- The stretches of one sequence from sibling i on are entered, as far as the rows are solved.
pub record Entered (A : Allowed) (P : Prices) (b : ℕ) (t : Forest) (i : ℕ) (extents costs choices : List ℕ) : Type 0 where
  pub short : (j d : ℕ) → i ≤ j → 0 < d → j + d ≤ siblings t → d ≤ get_or extents j 0
      → Entry A P (stretch t j d) (get_or costs (cell (number b t (j + d)) (number b t j)) 0) (get_or choices (cell (number b t (j + d)) (number b t j)) 0)
  pub whole : (j d : ℕ) → i ≤ j → 0 < d → j + d ≡ siblings t
      → Entry A P (stretch t j d) (get_or costs (cell (number b t (j + d)) (number b t j)) 0) (get_or choices (cell (number b t (j + d)) (number b t j)) 0)

-- What follows an item up to the end, from sibling i on, as it adds to the item's key.
pub record Tailing (A : Allowed) (P : Prices) (t : Forest) (i : ℕ) (tails : List ℕ) : Type 0 where
  pub tail : (j : ℕ) → i ≤ j → j ≤ siblings t → get_or tails j 0 ≡ key (best_cost A P (back j t)) 0

-- Where the first item of any solved stretch ends, for the rows from sibling i on.
pub record Stopping (A : Allowed) (P : Prices) (t : Forest) (i : ℕ) (extents stops : List ℕ) : Type 0 where
  pub one : (j : ℕ) → i ≤ j → j < siblings t → j + 1 ≤ get_or stops j 0
  pub stop : (j d h w : ℕ) → i ≤ j → 0 < d → j + d ≤ siblings t → d ≤ get_or extents j 0 → Least A P usual (best_cost A P) (stretch t j d) h w
      → j + h * w ≤ get_or stops j 0

-- What a row is drawn from: a width at which its first siblings match a row that is solved as far, and how far it has to be solved.
pub record Drawn (extents : List ℕ) (i m : ℕ) (same : List ℕ) (g : Source) : Type 0 where
  pub some : 0 < g.shift
  pub near : i + g.shift ≤ m
  pub spans : g.span ≤ get_or same g.shift 0
  pub entered : g.span ≤ get_or extents (i + g.shift) 0
  pub under : g.span ≤ g.extent
  pub close : g.extent ≤ get_or extents (i + 1) 0 + 1
  pub far : (w d : ℕ) → 0 < w → i + w < m → d ≤ get_or same w 0 → d ≤ w → d ≤ get_or extents (i + 1) 0 + 1 → d ≤ g.extent

-- One width more is looked at: k siblings match there, and that row is solved for `further` siblings.
pub record Wider (w k further : ℕ) (g r : Source) : Type 0 where
  pub more : g.extent ≤ r.extent
  pub asked : (d : ℕ) → d ≤ k → d ≤ w → d ≤ r.extent
  pub source : ((r.shift ≡ g.shift) × (r.span ≡ g.span)) ⊎ ((r.shift ≡ w) × (r.span ≤ k) × (r.span ≤ further))

-- The key of a pair that may stand first in the stretch x: its rank at the least costs of the parts.
abbrev pub pair_key : Allowed → Prices → Forest → (h w : ℕ) → ℕ
pair_key A P x h w = rank usual (price P (best_cost A P) x h w) h w

-- A key that one of the candidates of the n siblings from sibling i on has, and that is at most those of the plain node, of the
-- repeats of width up to s that cover all, and of those that cover no more than s, are cheapest by themselves, leave something and are
-- first in the whole.
pub record Keyed (A : Allowed) (P : Prices) (t : Forest) (i s n k : ℕ) : Type 0 where
  pub count : ℕ
  pub width : ℕ
  pub candidate : Candidate A (stretch t i n) count width
  pub is_key : k ≡ pair_key A P (stretch t i n) count width
  pub plain : (j m : ℕ) → i + 1 ≡ j → 1 + m ≡ n → k ≤ rank usual (best_cost A P (node i t) + best_cost A P (front m (back j t))) 0 0
  pub whole : (h w : ℕ) → Power A (back i t) h w → h * w ≡ n → w ≤ s → k ≤ rank usual (of_repeat P h + best_cost A P (front w (back i t))) h w
  pub first : (j c m h w : ℕ) → i + c ≡ j → c + m ≡ n → 0 < c → 0 < m → h * w ≡ c → c ≤ s → Least A P usual (best_cost A P) (stretch t i c) h w
      → Least A P usual (best_cost A P) (stretch t i n) h w
      → k ≤ rank usual (best_cost A P (stretch t i c) + best_cost A P (front m (back j t))) h w

-- The key of the repeat of count h and width d, whose body costs `cost`, by itself.
abbrev pub offer_key : List ℕ → (cost d h : ℕ) → ℕ
offer_key prices cost d h = key (cost + combined factor (get_or prices h 0) 1) (packed h d)

-- A key at cover c that one of the counts from `from` on gave.
pub record Came (prices : List ℕ) (cost d span from c k : ℕ) : Type 0 where
  pub count : ℕ
  pub late : from ≤ count
  pub near : (count - 1) * d ≤ span
  pub covers : count * d ≡ c
  pub is_key : k ≡ offer_key prices cost d count

-- What offering the repeats of width d, from the count `from` on, does to the keys.
pub record Offering (prices : List ℕ) (cost d span from : ℕ) (before after : List ℕ) : Type 0 where
  pub same_length : length after ≡ length before
  pub lower : (c : ℕ) → get_or after c 0 ≤ get_or before c 0
  pub offered : (g : ℕ) → from ≤ g → (g - 1) * d ≤ span → get_or after (g * d) 0 ≤ offer_key prices cost d g
  pub came : (c : ℕ) → (get_or after c 0 ≡ get_or before c 0) ⊎ Came prices cost d span from c (get_or after c 0)

-- What the stretch from sibling i up to sibling j adds to the key of an item that it follows: up to the sequence's end what the tail adds,
-- so that no entry has to be read for it, else what the table has.
abbrev pub behind_key : (costs choices numbers tails : List ℕ) (end i j : ℕ) → ℕ
behind_key costs choices numbers tails end i j = cond (eqb j end) (get_or tails i 0) (rest_key costs choices numbers i j)

-- What a repeat that covers c siblings at the key k does to the keys of `from` and more siblings, what the rest adds added.
pub record Pushing (costs choices numbers tails : List ℕ) (row : Row) (c k from : ℕ) (before after : List ℕ) : Type 0 where
  pub same_length : length after ≡ length before
  pub lower : (d : ℕ) → get_or after d 0 ≤ get_or before d 0
  pub pushed : (d : ℕ) → from ≤ d → d ≤ row.extent → get_or after d 0 ≤ k + behind_key costs choices numbers tails row.end (row.at + c) (row.at + d)
  pub came : (d : ℕ) → (get_or after d 0 ≡ get_or before d 0)
      ⊎ ((from ≤ d) × (d ≤ row.extent) × (get_or after d 0 ≡ k + behind_key costs choices numbers tails row.end (row.at + c) (row.at + d)))

-- The keys of a row before any repeat is offered: those of the row `shift` further on as far as the two are the same, and those of the
-- plain node with the rest.
pub record Started (costs choices numbers : List ℕ) (row : Row) (keys : List ℕ) : Type 0 where
  pub ready : KeysReady keys
  pub one : get_or keys 1 0 ≡ key row.own 0
  pub copied : (c : ℕ) → 1 < c → c ≤ row.span
      → get_or keys c 0 ≡ key_at costs choices numbers (row.at + row.shift) (row.at + row.shift + c)
  pub plain : (c : ℕ) → 1 < c → row.span < c → c ≤ row.extent
      → get_or keys c 0 ≡ key row.own 0 + rest_key costs choices numbers (row.at + 1) (row.at + c)

-- The first n keys are those of another row.
pub record Copied (costs choices numbers : List ℕ) (j n : ℕ) (before after : List ℕ) : Type 0 where
  pub long : length after ≡ length before
  pub low : (c : ℕ) → get_or after c 0 ≤ top_key
  pub copied : (c : ℕ) → 0 < c → c ≤ n → get_or after c 0 ≡ key_at costs choices numbers j (j + c)

-- The keys of `from` and more siblings are those of the plain node with the rest, the ones before as they were.
pub record Plainly (costs choices numbers : List ℕ) (row : Row) (from : ℕ) (before after : List ℕ) : Type 0 where
  pub long : length after ≡ length before
  pub low : (c : ℕ) → get_or after c 0 ≤ top_key
  pub kept : (c : ℕ) → c < from → get_or after c 0 ≡ get_or before c 0
  pub plain : (c : ℕ) → from ≤ c → c ≤ row.extent
      → get_or after c 0 ≡ key row.own 0 + rest_key costs choices numbers (row.at + 1) (row.at + c)

-- No key of up to `span` siblings has a repeat first that covers d of them and leaves something.
abbrev pub NoneBehind : (row : Row) (d : ℕ) (keys : List ℕ) → Type 0
NoneBehind row d keys = (n : ℕ) → d < n → n ≤ row.span → covered (get_or keys n 0) ≡ d → ⊥

-- The covers that stand first in keys of up to `span` siblings and leave something are marked, where the row has many keys beyond.
pub record Marked (row : Row) (keys seen : List ℕ) : Type 0 where
  pub long : length seen ≡ 1025
  pub marks : row.span + 8 < row.extent → (d : ℕ) → (get_or seen d 0 ≡ row.at → ⊥) → NoneBehind row d keys

-- What a solved stretch of d siblings does to the keys of longer ones. It is followed by what is left where its key is that of a
-- repeat that covers it, unless every item that could follow it ends among the keys taken over, and none of these begins with it;
pub data Pushed (costs choices numbers tails : List ℕ) (row : Row) (stops : List ℕ) (d k : ℕ) (before after : List ℕ) : Type 0 where
  push : (from : ℕ) → d < from → row.span < from → ((c : ℕ) → d < c → row.span < c → from ≤ c) → covered k ≡ d
      → Pushing costs choices numbers tails row d k from before after → Pushed costs choices numbers tails row stops d k before after
  pass : (covered k ≡ d → ⊥) → after ≡ before → Pushed costs choices numbers tails row stops d k before after
  skip : d < row.span → get_or stops (row.at + d) 0 ≤ row.at + row.span → NoneBehind row d before → after ≡ before
      → Pushed costs choices numbers tails row stops d k before after

-- and repeated where that is allowed and siblings match.
pub data Widened (row : Row) (prices : List ℕ) (cost d match : ℕ) (before after : List ℕ) : Type 0 where
  offer : (from : ℕ) → 2 ≤ from → row.span < from * d → ((g : ℕ) → 2 ≤ g → g < from → g * d ≤ row.span) → d ≤ row.limit
      → Offering prices cost d match from before after → Widened row prices cost d match before after
  too_wide : row.limit < d → after ≡ before → Widened row prices cost d match before after
  unlike : match < d → after ≡ before → Widened row prices cost d match before after

-- The siblings that match for repeats within the row's extent.
pub record Room (row : Row) (d match room : ℕ) : Type 0 where
  pub less : room ≤ match
  pub inside : room + d ≤ row.extent
  pub most : (k : ℕ) → k ≤ match → k + d ≤ row.extent → k ≤ room

pub record Settled (costs choices numbers tails : List ℕ) (row : Row) (prices stops : List ℕ) (d match : ℕ) (before after : List ℕ) : Type 0 where
  pub between : List ℕ
  pub room : ℕ
  pub roomy : Room row d match room
  pub pushed : Pushed costs choices numbers tails row stops d (get_or before d 0) before between
  pub widened : Widened row prices (combined_digits (get_or before d 0)) d room between after

-- All that the search of a row rests on.
pub record RowReady (costs choices numbers : List ℕ) (row : Row) (prices same tails stops : List ℕ) : Type 0 where
  pub tree : Forest
  pub allowed : Allowed
  pub prices_are : Prices
  pub base : ℕ
  pub extents : List ℕ
  pub run : Run allowed tree
  pub all : siblings tree ≡ row.end
  pub total : nodes tree ≤ 1024
  pub some : row.at < row.end
  pub limited : allowed.widest ≡ row.limit
  pub priced : Priced prices_are prices
  pub step_low : (l : ℕ) → prices_are.of_step l ≤ 65535 * factor
  pub group_low : (l : ℕ) → prices_are.of_group l ≤ 65535 * factor
  pub numbers_are : Numbered base tree numbers
  pub extending : Extending allowed.marked tree (row.at + 1) extents
  pub rows_below : Entered allowed prices_are base tree (row.at + 1) extents costs choices
  pub tailing : Tailing allowed prices_are tree (row.at + 1) tails
  pub stopping : Stopping allowed prices_are tree (row.at + 1) extents stops
  pub own_cost : row.own ≡ best_cost allowed prices_are (node row.at tree)
  pub matches : Matches allowed.marked (back row.at tree) same
  pub drawn : Drawn extents row.at row.end same (record { extent = row.extent; shift = row.shift; span = row.span })

-- The keys of a row after the stretches of up to s siblings: those of up to `span` siblings are final.
pub record Rowed {costs choices numbers : List ℕ} {row : Row} {prices same tails stops : List ℕ}
    (z : RowReady costs choices numbers row prices same tails stops) (s : ℕ) (keys : List ℕ) : Type 0 where
  pub final : (n : ℕ) → 0 < n → n ≤ row.span → BestKey z.allowed z.prices_are (stretch z.tree row.at n) (get_or keys n 0)
  pub keyed : (n : ℕ) → 0 < n → n ≤ row.extent → Keyed z.allowed z.prices_are z.tree row.at s n (get_or keys n 0)

-- No item covers more: the product of the largest digits.
abbrev pub top_cover : ℕ
top_cover = 2047 * 1023

-- The stretches of up to s siblings have done their part, whatever tree and prices the row was asked for; the keys taken over stay, and
-- no solved stretch begins with an item that covers more than `longest`.
pub record Advanced (costs choices numbers : List ℕ) (row : Row) (prices same tails stops : List ℕ) (s : ℕ) (before after : List ℕ) (longest : ℕ) : Type 0 where
  pub ready : KeysReady after
  pub taken : (n : ℕ) → n ≤ row.span → get_or after n 0 ≡ get_or before n 0
  pub rowed : (z : RowReady costs choices numbers row prices same tails stops) → Rowed z 0 before → Rowed z s after
  pub some : 0 < longest
  pub low : longest ≤ top_cover
  pub covers : (z : RowReady costs choices numbers row prices same tails stops) → Rowed z 0 before → (n h w : ℕ) → 0 < n → n ≤ s
      → Least z.allowed z.prices_are usual (best_cost z.allowed z.prices_are) (stretch z.tree row.at n) h w → h * w ≤ longest

-- The row is entered: its solved stretches have their entries, whatever tree and prices it was asked for, and no other rows have changed;
-- what it adds as a tail and where its first items end is known.
pub record RowEntered (costs choices numbers : List ℕ) (row : Row) (prices same tails stops costs' choices' tails' stops' : List ℕ) : Type 0 where
  pub short : (z : RowReady costs choices numbers row prices same tails stops) → (d : ℕ) → 0 < d → d ≤ row.extent
      → Entry z.allowed z.prices_are (stretch z.tree row.at d) (entry_at costs' numbers row.at (row.at + d))
      (entry_at choices' numbers row.at (row.at + d))
  pub whole : (z : RowReady costs choices numbers row prices same tails stops) → (d : ℕ) → 0 < d → row.at + d ≡ row.end
      → Entry z.allowed z.prices_are (stretch z.tree row.at d) (entry_at costs' numbers row.at (row.at + d))
      (entry_at choices' numbers row.at (row.at + d))
  pub costs_kept : Stored numbers row.at (row.end - row.at) (λ d. entry_at costs' numbers row.at (row.at + d)) costs costs'
  pub choices_kept : Stored numbers row.at (row.end - row.at) (λ d. entry_at choices' numbers row.at (row.at + d)) choices choices'
  pub tail : ℕ
  pub tails_are : tails' ≡ set tails row.at tail
  pub tail_is : (z : RowReady costs choices numbers row prices same tails stops) → tail ≡ key (best_cost z.allowed z.prices_are (back row.at z.tree)) 0
  pub longest : ℕ
  pub stops_are : stops' ≡ set stops row.at (row.at + longest)
  pub some : 0 < longest
  pub covers : (z : RowReady costs choices numbers row prices same tails stops) → (n h w : ℕ) → 0 < n → n ≤ row.extent
      → Least z.allowed z.prices_are usual (best_cost z.allowed z.prices_are) (stretch z.tree row.at n) h w → h * w ≤ longest

-- What growing the matches from sibling i + 1 to sibling i does.
pub record Growing (kinds : List ℕ) (i m : ℕ) (before after : List ℕ) : Type 0 where
  pub long : length after ≡ 1025
  pub low : (w : ℕ) → 0 < w → i + w ≤ m → get_or after w 0 + i ≤ 1024
  pub matches : (A : Allowed) (t : Forest) → Run A t → siblings t ≡ m → Classed A.marked t m kinds
      → Matches A.marked (back (i + 1) t) before → Matches A.marked (back i t) after
