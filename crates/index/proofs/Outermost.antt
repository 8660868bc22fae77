-- The walks over the outermost items of a whole fold: how far one has come, what it has written of the index, and what it has
-- found of it in lent slices.
use mathlib.Core.Path.{◌≡◌, refl, sym, ap, ◌∙◌}
use mathlib.Core.Bool.{Bool, true, false, ◌&&◌}
use mathlib.Core.List.{List, [], ◌++◌}
use mathlib.Core.Logic.{◌≢◌}
use Prim.Native.Nat.{ℕ, suc, ◌+◌, ◌≤◌, ◌<◌}
use native.Mathlib.Nat.{zero-add}
use native.Mathlib.Decide.{dec_le, ℕ_discrete}
use native.Mathlib.Omega.{arith}
use lib.Dec.{eqb}
use lib.ListN.{length, length-append, get_or, take, drop, set}
use lib.Seq.{take_all, take-suc, drop-cons, set_at, append_snoc}
use borrow.Author.Tests.{eqb-true, eqb-false}
use Rattle.format.specs.Limits.{limits}
use Rattle.format.specs.Forest.{Forest, end, join, nodes, bytes}
use Rattle.format.specs.Tree.{tree_of}
use Rattle.format.specs.inner.Standing.{One, FormAt}
use Rattle.format.proofs.Forests.{bytes_join, nodes_join}
use Rattle.format.proofs.Short.{sound_short}
use Rattle.format.proofs.Standing.{Adds, bytes_adds, nodes_adds, whole_form, next, along_ended, more_before_end}
use Rattle.index.specs.Index.{sums, byte_length, same, index_of, is_index}
use Rattle.index.specs.inner.Passing.{WasRead, ItemFrom, PassedOver}
use Rattle.index.specs.declared.pass.Spot.{Spot}
use Rattle.index.proofs.Lists.{same_refl, same_apart}
use Rattle.index.proofs.Sums.{outermost, outermost_join, outermost_one, outermost_short, length_sums, sums_more, entry_there}
use Rattle.index.proofs.Passing.{Walked, walked_none, item, walked_item, walked_further, walked_more}

abbrev pub top : Spot
top = record { at = 0; nodes = 0 }

-- A walk over the outermost items of s has passed i of them.
pub record Outer (s : List ℕ) (p : Spot) (i : ℕ) : Type 0 where
  pub walked : Walked s top p (tree_of s) []
  pub number : i ≡ outermost walked.along.done

abbrev pub done : {s : List ℕ} {p : Spot} {i : ℕ} → Outer s p i → Forest
done o = o.walked.along.done

pub none_outermost : 0 ≡ outermost end
unfolding outermost
none_outermost = refl

pub whole_stands : {s : List ℕ} → WasRead s → FormAt s 0 (tree_of s) []
whole_stands z = whole_form z.allowed z.sound z.form

abbrev pub outer_none : {s : List ℕ} → WasRead s → Outer s top 0
outer_none {s} z =
    record { walked = walked_none (whole_stands z) (rw (zero-add (nodes (tree_of s))) z.few); number = none_outermost }

module _ {s : List ℕ} {p : Spot} {i : ℕ} (o : Outer s p i) (z : WasRead s) where
  split_size : length s ≡ p.at + length (bytes o.walked.along.left)
  split_size =
      let a = o.walked.along in
      ap length (sym z.form ∙ ap bytes (sym a.split) ∙ bytes_join a.done a.left)
      ∙ length-append (bytes a.done) (bytes a.left)
      ∙ omega (arith, a.passed)

  -- What the walk has come to is small.
  outer_within : p.at ≤ length s
  outer_within = omega (arith, split_size)

  pub outer_bytes : p.at ≤ 4096
  outer_bytes = omega (arith, outer_within, ap length z.form, sound_short z.allowed (tree_of s) z.sound, z.few)

  pub outer_nodes : p.nodes ≤ limits.nodes
  outer_nodes =
      let a = o.walked.along in
      omega (arith, o.walked.counted, o.walked.few, ap nodes (sym a.split), nodes_join a.done a.left)

  pub outer_number : i ≤ p.at
  outer_number = omega (arith, o.number, outermost_short o.walked.along.done, o.walked.along.passed)

  -- Where the walk is at the end, all items are passed.
  pub outer_all : length s ≤ p.at → done o ≡ tree_of s
  outer_all e = along_ended o.walked.along (λ there. absurd (omega (arith, e, there)))

  -- The spot is what the items passed measure.
  at_size : p.at ≡ byte_length (done o)
  at_size = o.walked.along.passed ∙ omega arith

  nodes_counted : p.nodes ≡ nodes (done o)
  nodes_counted = o.walked.counted ∙ omega arith

  module _ (there : p.at < length s) where
    pub some_left : o.walked.along.left ≢ end
    some_left = more_before_end o.walked.along refl there

    pub outer_item : ItemFrom s p (item o.walked some_left)
    outer_item = walked_item o.walked some_left

    module _ {r : Spot} (y : PassedOver p (item o.walked some_left) r) where
      pub outer_further : p.at < r.at
      outer_further = walked_further o.walked some_left y

      pub next_number : i + 1 ≡ outermost (join (done o) (item o.walked some_left))
      next_number =
          omega (arith, o.number, outermost_join (done o) (item o.walked some_left), outermost_one (next o.walked.along some_left).one)

      abbrev pub outer_more : Outer s r (i + 1)
      outer_more = record { walked = walked_more o.walked some_left y; number = next_number }

    -- The whole is the items passed, the next one and others.
    whole : join (done o) (join (item o.walked some_left) (next o.walked.along some_left).back) ≡ tree_of s
    whole = ap (join (done o)) (next o.walked.along some_left).split ∙ o.walked.along.split

    -- By a measure, what the items passed measure is the entry of the next one; and there is an entry for it.
    next_entry : (m : Forest → ℕ) → Adds m → get_or (sums m 0 (tree_of s)) i 0 ≡ m (done o)
    next_entry m a =
        rw whole at (entry_there m a (done o) (item o.walked some_left) (next o.walked.along some_left).back (next o.walked.along some_left).one i o.number)

    entry_left : i < outermost (tree_of s)
    entry_left =
        let c = next o.walked.along some_left in
        omega (arith, ap outermost (sym whole), outermost_join (done o) (join c.front c.back), outermost_join c.front c.back, outermost_one c.one, o.number)

  -- Where entries are left there are items, and where none is there are none.
  items_left : i < outermost (tree_of s) → p.at < length s
  items_left few = by_end (dec_le (length s) p.at)
    where
      by_end : Dec (length s ≤ p.at) → p.at < length s
      by_end (yes e) = absurd (omega (arith, o.number, ap outermost (outer_all e)))
      by_end (no e) = omega arith

  no_items_left : outermost (tree_of s) ≤ i → length s ≤ p.at
  no_items_left all = by_end (dec_le (length s) p.at)
    where
      by_end : Dec (length s ≤ p.at) → length s ≤ p.at
      by_end (yes e) = e
      by_end (no e) = absurd (omega (arith, entry_left (omega arith)))

-- A lent slice that the first entries are written into, by a measure.
abbrev pub Filled : (m : Forest → ℕ) → (passed : Forest) → (i : ℕ) → (before now : List ℕ) → Type 0
Filled m f i before now = now ≡ sums m 0 f ++ drop i before

filled_none : (m : Forest → ℕ) (before : List ℕ) → Filled m end 0 before before
unfolding sums
filled_none m before = refl

filled_more : (m : Forest → ℕ) (a : Adds m) (f g : Forest) (i v : ℕ) (before now : List ℕ) → One g → Filled m f i before now
    → i ≡ outermost f → v ≡ m f → i < length before → Filled m (join f g) (i + 1) before (set now i v)
filled_more m a f g i v before now one e number value fits =
    let n : i + 1 ≡ suc i = omega arith in
    rw (e, drop-cons before i 0 fits, n, value, sums_more m a f g one)
    (set_at (sums m 0 f) (get_or before i 0) (drop (suc i) before) (m f) i (length_sums m 0 f ∙ sym number)
    ∙ sym (append_snoc (sums m 0 f) (m f) (drop (suc i) before)))

-- The walk that writes both slices.
pub record Filling (s : List ℕ) (p : Spot) (i : ℕ) (offsets₀ before₀ offsets before : List ℕ) : Type 0 where
  pub outer : Outer s p i
  pub offsets_filled : Filled byte_length (done outer) i offsets₀ offsets
  pub before_filled : Filled nodes (done outer) i before₀ before

pub filling_none : {s : List ℕ} → WasRead s → (offsets before : List ℕ) → Filling s top 0 offsets before offsets before
filling_none z offsets before =
    record { outer = outer_none z; offsets_filled = filled_none byte_length offsets; before_filled = filled_none nodes before }

-- So many entries there are, and there is room for them.
pub record Roomy (s offsets before : List ℕ) (n : ℕ) : Type 0 where
  pub all : n ≡ length (index_of s).offsets
  pub for_offsets : n ≤ length offsets
  pub for_before : n ≤ length before

module _ {s : List ℕ} {p : Spot} {i n : ℕ} {offsets₀ before₀ offsets before : List ℕ} (w : Filling s p i offsets₀ before₀ offsets before)
    (z : WasRead s) (room : Roomy s offsets₀ before₀ n) where
  every : n ≡ outermost (tree_of s)
  every = room.all ∙ length_sums byte_length 0 (tree_of s)

  module _ (left : i < n) where
    pub item_there : p.at < length s
    item_there = items_left w.outer z (omega (arith, every))

    pub filling_more : {r : Spot} → PassedOver p (item w.outer.walked (some_left w.outer z item_there)) r
        → Filling s r (i + 1) offsets₀ before₀ (set offsets i p.at) (set before i p.nodes)
    filling_more y =
        let o = w.outer in
        let g = item o.walked (some_left o z item_there) in
        let one = (next o.walked.along (some_left o z item_there)).one in
        record {
          outer = outer_more o z item_there y;
          offsets_filled =
              filled_more byte_length bytes_adds (done o) g i p.at offsets₀ offsets one w.offsets_filled o.number (at_size o z)
              (omega (arith, room.for_offsets));
          before_filled =
              filled_more nodes nodes_adds (done o) g i p.nodes before₀ before one w.before_filled o.number (nodes_counted o z)
              (omega (arith, room.for_before));
        }

  pub filling_all : n ≤ i
      → (offsets ≡ (index_of s).offsets ++ drop (length (index_of s).offsets) offsets₀)
      × (before ≡ (index_of s).before ++ drop (length (index_of s).before) before₀)
  filling_all e =
      let o = w.outer in
      let all = outer_all o z (no_items_left o z (omega (arith, every))) in
      let number : i ≡ outermost (tree_of s) = o.number ∙ ap outermost all in
      (rw (length_sums byte_length 0 (tree_of s), ← number, ← all) w.offsets_filled, rw (length_sums nodes 0 (tree_of s), ← number, ← all) w.before_filled)

-- A lent slice whose first entries are those of the index, by a measure; and that it is or is not all of them.
abbrev pub Agrees : (m : Forest → ℕ) → (lent : List ℕ) → (passed : Forest) → (i : ℕ) → Type 0
Agrees m lent f i = (i ≤ length lent) × (take i lent ≡ sums m 0 f)

module _ (m : Forest → ℕ) (a : Adds m) (lent : List ℕ) where
  agrees_none : Agrees m lent end 0
  unfolding sums
  agrees_none = (omega arith, refl)

  agrees_more : (f g : Forest) (i : ℕ) → One g → Agrees m lent f i → i < length lent → get_or lent i 0 ≡ m f → Agrees m lent (join f g) (i + 1)
  agrees_more f g i one e there value =
      let n : i + 1 ≡ suc i = omega arith in
      (omega arith, rw (n, take-suc lent i 0 there, e.1, value) (sym (sums_more m a f g one)))

  module _ {s : List ℕ} {p : Spot} {i : ℕ} (o : Outer s p i) (z : WasRead s) where
    -- It ends before an entry that is left.
    ends_early : p.at < length s → i ≡ length lent → lent ≢ sums m 0 (tree_of s)
    ends_early there e same = omega (arith, entry_left o z there, ap length same, length_sums m 0 (tree_of s))

    -- It has another number for the next item.
    differs : (there : p.at < length s) → get_or lent i 0 ≢ m (done o) → lent ≢ sums m 0 (tree_of s)
    differs there e same = e (ap (λ (l : List ℕ). get_or l i 0) same ∙ next_entry o z there m a)

    -- All items are passed: it has entries left, or is the whole.
    goes_on : length s ≤ p.at → i ≢ length lent → lent ≢ sums m 0 (tree_of s)
    goes_on e long same =
        long (o.number ∙ ap outermost (outer_all o z e) ∙ sym (length_sums m 0 (tree_of s)) ∙ ap length (sym same))

    is_all : length s ≤ p.at → i ≡ length lent → Agrees m lent (done o) i → lent ≡ sums m 0 (tree_of s)
    is_all e long agrees =
        sym (take_all i lent (omega (arith, long))) ∙ agrees.1 ∙ ap (λ (f : Forest). sums m 0 f) (outer_all o z e)

-- Both slices are the index, or one of them is not.
not_left : (a b c d : List ℕ) → a ≢ b → (same a b && same c d) ≡ false
not_left a b c d e = rw (same_apart a b e)

not_right : (a b c d : List ℕ) → c ≢ d → (same a b && same c d) ≡ false
not_right a b c d e = rw (same_apart c d e) (go (same a b))
  where
    go : (x : Bool) → (x && false) ≡ false
    go true = refl
    go false = refl

pub both : (a b c d : List ℕ) → a ≡ b → c ≡ d → (same a b && same c d) ≡ true
both a b c d e f = rw (e, f, same_refl b, same_refl d)

-- The walk that compares both slices.
pub record Comparing (s : List ℕ) (p : Spot) (i : ℕ) (offsets before : List ℕ) : Type 0 where
  pub outer : Outer s p i
  pub offsets_agree : Agrees byte_length offsets (done outer) i
  pub before_agree : Agrees nodes before (done outer) i

pub comparing_none : {s : List ℕ} → WasRead s → (offsets before : List ℕ) → Comparing s top 0 offsets before
comparing_none z offsets before =
    record {
      outer = outer_none z;
      offsets_agree = agrees_none byte_length bytes_adds offsets;
      before_agree = agrees_none nodes nodes_adds before;
    }

module _ {s : List ℕ} {p : Spot} {i : ℕ} {offsets before : List ℕ} (w : Comparing s p i offsets before) (z : WasRead s) where
  abbrev verdict : Bool
  verdict = is_index (index_of s) offsets before

  abbrev X : List ℕ
  X = sums byte_length 0 (tree_of s)

  abbrev Y : List ℕ
  Y = sums nodes 0 (tree_of s)

  -- An entry is left that is of no item, or is not that of the next one.
  pub offsets_long : length s ≤ p.at → i < length offsets → verdict ≡ false
  offsets_long e f = not_left offsets X before Y (goes_on byte_length bytes_adds offsets w.outer z e (omega arith))

  pub still_there : p.at ≢ length s → p.at < length s
  still_there e = omega (arith, outer_within w.outer z)

  module _ (there : p.at < length s) where
    pub offsets_short : i ≡ length offsets → verdict ≡ false
    offsets_short e = not_left offsets X before Y (ends_early byte_length bytes_adds offsets w.outer z there e)

    pub offset_differs : get_or offsets i 0 ≢ p.at → verdict ≡ false
    offset_differs e = not_left offsets X before Y (differs byte_length bytes_adds offsets w.outer z there (λ same. e (same ∙ sym (at_size w.outer z))))

    pub nodes_differ : get_or before i 0 ≢ p.nodes → verdict ≡ false
    nodes_differ e = not_right offsets X before Y (differs nodes nodes_adds before w.outer z there (λ same. e (same ∙ sym (nodes_counted w.outer z))))

    pub comparing_more : {r : Spot} → PassedOver p (item w.outer.walked (some_left w.outer z there)) r
        → i < length offsets → i < length before → get_or offsets i 0 ≡ p.at → get_or before i 0 ≡ p.nodes → Comparing s r (i + 1) offsets before
    comparing_more y e f g h =
        let o = w.outer in
        let one = (next o.walked.along (some_left o z there)).one in
        record {
          outer = outer_more o z there y;
          offsets_agree =
              agrees_more byte_length bytes_adds offsets (done o) (item o.walked (some_left o z there)) i one w.offsets_agree e (g ∙ at_size o z);
          before_agree =
              agrees_more nodes nodes_adds before (done o) (item o.walked (some_left o z there)) i one w.before_agree f (h ∙ nodes_counted o z);
        }

  -- All entries are compared: the slices are the index where all items are passed.
  pub last_compared : i ≡ length offsets → i ≡ length before → eqb p.at (length s) ≡ verdict
  last_compared f g = go (eqb p.at (length s)) refl
    where
      all : length s ≤ p.at → verdict ≡ true
      all e =
          both offsets X before Y (is_all byte_length bytes_adds offsets w.outer z e f w.offsets_agree) (is_all nodes nodes_adds before w.outer z e g w.before_agree)

      go : (b : Bool) → eqb p.at (length s) ≡ b → b ≡ verdict
      go true e = sym (all (omega (arith, eqb-true _ _ e)))
      go false e =
          let there = still_there (eqb-false _ _ e) in
          sym (offsets_short there f)

-- Two slices of which one is longer are not the index.
pub uneven : (s offsets before : List ℕ) → length offsets ≢ length before → is_index (index_of s) offsets before ≡ false
uneven s offsets before e = go (ℕ_discrete (length offsets) (outermost (tree_of s)))
  where
    go : Dec (length offsets ≡ outermost (tree_of s)) → is_index (index_of s) offsets before ≡ false
    go (yes a) = not_right offsets _ before _ (λ same. e (a ∙ sym (ap length same ∙ length_sums nodes 0 (tree_of s))))
    go (no a) = not_left offsets _ before _ (λ same. a (ap length same ∙ length_sums byte_length 0 (tree_of s)))
