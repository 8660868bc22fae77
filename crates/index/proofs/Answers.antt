-- The answers of index builder and finder, as their contracts have them.
use mathlib.Core.Path.{◌≡◌, refl, sym, ap, ◌∙◌}
use mathlib.Core.Bool.{Bool, true, false, false≢true, cond, ◌&&◌}
use mathlib.Core.List.{List, [], ◌++◌}
use mathlib.Core.Logic.{◌⊎◌, inl, inr}
use mathlib.Core.Option.{Option, none, some, map, some-injective}
use Prim.Native.Nat.{ℕ, suc, ◌+◌, ◌-◌, ◌≤◌, ◌<◌}
use native.Mathlib.Omega.{arith}
use lib.ListN.{length, get_or, drop, get_elem?}
use borrow.Author.Tests.{lt-ltb, le-ltb}
use Rattle.format.specs.Limits.{limits, at_most}
use Rattle.format.specs.Forest.{Forest, end, step, group, repeat, join, nodes, bytes}
use Rattle.format.specs.Tree.{tree_of}
use Rattle.format.specs.Machine.{Outcome, refused, accepted}
use Rattle.format.specs.Order.{Bytes}
use Rattle.format.specs.Readings.{free, as_fold_reading, fold_alone}
use Rattle.format.specs.Numbers.{FoldReading}
use Rattle.format.specs.Answers.{fold_said}
use Rattle.format.specs.declared.answers.FoldCounts.{FoldCounts}
use Rattle.format.specs.declared.answers.Reason.TheVariants.{ShortOutput}
use Rattle.format.specs.declared.answers.Refusal.{Refusal}
use Rattle.format.proofs.Answered.{AnsweredAccepted, answered_refused, answered_accepted}
use Rattle.format.proofs.Numbered.{numbered}
use Rattle.std.specs.Prelude.{Ok, Err}
use Rattle.format.specs.inner.Standing.{FormAt}
use Rattle.format.specs.declared.tally.Tally.{Tally}
use Rattle.format.proofs.Alone.{alone_well_formed, alone_some}
use Rattle.format.proofs.Forests.{nodes_join}
use Rattle.format.proofs.Report.{accepted_means}
use Rattle.format.proofs.Standing.{front_stands, back_stands}
use Rattle.index.specs.Nodes.{Written, StandsIn, writes, written_by}
use Rattle.index.specs.Index.{sums, byte_length, same, Index, index_of, is_index, too_short, index_answer, index_output}
use Rattle.index.specs.Finding.{not_found, finding, find_answer, AtPosition}
use Rattle.index.specs.Answers.{indexed_said, node_said, found_said}
use Rattle.index.specs.declared.read.ReadFold.{ReadFold}
use Rattle.index.specs.inner.Passing.{WasRead, NodeIn, LastUpTo}
use Rattle.index.specs.Numbers.{Indexed, Found}
use Rattle.index.proofs.Lists.{nth_front, nth_back, nth_there, nth_past, nth_map, same_equal}
use Rattle.index.proofs.Nodes.{length_writes, writes_join}
use Rattle.index.proofs.Sums.{length_sums, Split, ItemOf, last_holds}
use Rattle.index.proofs.Outermost.{whole_stands}
use Rattle.index.proofs.Accepted.{accepted_fold, written_run, written_stands, written_total}
use Rattle.index.proofs.Descending.{offsets_in}

-- Both lists of the index have as many entries.
pub same_number : (s : List ℕ) → length (index_of s).before ≡ length (index_of s).offsets
same_number s = length_sums nodes 0 (tree_of s) ∙ sym (length_sums byte_length 0 (tree_of s))

-- A fold that was read by itself and not refused.
read_as : (s : List ℕ) (m : FoldCounts) → fold_said (Ok m) ≡ as_fold_reading (fold_alone s) → AnsweredAccepted (fold_alone s) (fold_said (Ok m))
read_as s m reads = answered_accepted (fold_alone s) (fold_said (Ok m)) reads (alone_some false s) refl

pub was_read : (f : ReadFold) → WasRead f.bytes.now
was_read f = let y = read_as f.bytes.now f.counts f.counted in (accepted_fold f.bytes.now f.small y.tally y.text y.reading).was_read

-- Where a test holds, the first of two lists is left.
kept_where : (b : Bool) (x y : List ℕ) → b ≡ true → x ≡ cond b x y
kept_where b x y e = rw e

-- The builder's promise, for what it answers and leaves in both slices.
module _ (s offsets before : List ℕ) where
  abbrev pub Promised : Indexed → (offsets' before' : List ℕ) → Type 0
  Promised r offsets' before' =
      (r ≡ index_answer (fold_alone s) (index_of s) (length offsets) (length before))
      × ((offsets' ≡ index_output (fold_alone s) (index_of s) (length offsets) (length before) (index_of s).offsets offsets)
      × (before' ≡ index_output (fold_alone s) (index_of s) (length offsets) (length before) (index_of s).before before))

  pub index_refused : (e : Refusal) → fold_said (Err e) ≡ as_fold_reading (fold_alone s) → Promised (indexed_said (Err e)) offsets before
  index_refused e reads = let q = answered_refused (fold_alone s) (fold_said (Err e)) reads (numbered e.reason) in (rw q, (rw q, rw q))

  module _ (m : FoldCounts) (reads : fold_said (Ok m) ≡ as_fold_reading (fold_alone s)) where
    e : fold_alone s ≡ accepted (read_as s m reads).tally (read_as s m reads).text
    e = (read_as s m reads).reading

    fourteen : too_short (index_of s) (length offsets) (length before) ≡ true → Promised (indexed_said (Err (record { reason = ShortOutput; place = 0 }))) offsets before
    fourteen short =
        let test = too_short (index_of s) (length offsets) (length before) in
        let kept : (entries lent : List ℕ) → lent ≡ cond test lent (entries ++ drop (length entries) lent) =
        λ entries lent. kept_where test lent (entries ++ drop (length entries) lent) short in
        (rw (e, short), (rw e (kept (index_of s).offsets offsets), rw e (kept (index_of s).before before)))

    pub too_short_either : (length offsets < length (index_of s).offsets)
        ⊎ ((length (index_of s).offsets ≤ length offsets) × (length before < length (index_of s).offsets))
        → Promised (indexed_said (Err (record { reason = ShortOutput; place = 0 }))) offsets before
    too_short_either (inl f) = fourteen (rw (lt-ltb (length offsets) (length (index_of s).offsets) f))
    too_short_either (inr p) =
        fourteen (rw (le-ltb (length offsets) (length (index_of s).offsets) p.0) (lt-ltb (length before) (length (index_of s).before) (omega (arith, p.1, same_number s))))

    pub index_written : {offsets' before' : List ℕ} → length (index_of s).offsets ≤ length offsets → length (index_of s).offsets ≤ length before
        → offsets' ≡ (index_of s).offsets ++ drop (length (index_of s).offsets) offsets
        → before' ≡ (index_of s).before ++ drop (length (index_of s).before) before
        → Promised (indexed_said (Ok (length (index_of s).offsets))) offsets' before'
    index_written f g o b =
        let long : too_short (index_of s) (length offsets) (length before) ≡ false =
        rw (le-ltb (length offsets) (length (index_of s).offsets) f) (le-ltb (length before) (length (index_of s).before) (omega (arith, g, same_number s))) in
        (rw (e, long), (o ∙ rw (e, long), b ∙ rw (e, long)))

-- Slices that are the index are equal to it.
pub index_equal : (i : Index) (offsets before : List ℕ) → is_index i offsets before ≡ true → (offsets ≡ i.offsets) × (before ≡ i.before)
index_equal i offsets before f = go (same offsets i.offsets) refl f
  where
    go : (b : Bool) → same offsets i.offsets ≡ b → (b && same before i.before) ≡ true → (offsets ≡ i.offsets) × (before ≡ i.before)
    go true g h = (same_equal _ _ g, same_equal _ _ h)
    go false g h = absurd (false≢true h)

-- The item of an entry has no more nodes than the whole.
item_few : {f : Forest} {i : ℕ} (k : Split f i) → nodes k.item ≤ nodes f
item_few k =
    omega (arith, ap nodes (sym k.whole), nodes_join k.done (join k.item k.back), nodes_join k.item k.back)

-- Of a run that has nodes the index has entries, and the first one is 0.
first_entry : (n : ℕ) (f : Forest) → n < nodes f → (0 < length (sums nodes 0 f)) × (get_or (sums nodes 0 f) 0 0 ≤ n)
unfolding sums nodes
first_entry n end e = absurd (omega arith)
first_entry n (step l f) e = (omega arith, omega arith)
first_entry n (group l b f) e = (omega arith, omega arith)
first_entry n (repeat h w b f) e = (omega arith, omega arith)

-- The finder's promise: the second half follows from the first.
module _ (s : List ℕ) (small : Bytes s) (offsets before : List ℕ) (n : ℕ) where
  pub answer_right : (r : Found) → r ≡ find_answer s offsets before n → r.refusal ≡ 0 → AtPosition s n r
  answer_right r e success = by_outcome (fold_alone s) refl (is_index (index_of s) offsets before) (get_elem? (written_by s) n) refl e
    where
      by_outcome : (o : Outcome) → fold_alone s ≡ o → (b : Bool) (w : Option Written) → get_elem? (written_by s) n ≡ w → r ≡ finding o b w → AtPosition s n r
      by_outcome (refused k p) q b w v f = absurd (alone_some false s k p q (sym (ap (λ (u : Found). u.refusal) f) ∙ success))
      by_outcome (accepted t x) q false w v f = absurd (omega (arith, ap (λ (u : Found). u.refusal) f, success))
      by_outcome (accepted t x) q true none v f = absurd (omega (arith, ap (λ (u : Found). u.refusal) f, success))
      by_outcome (accepted t x) q true (some w) v f =
          rw f
          (record {
            run = x;
            means = accepted_means limits (at_most limits.width) free s small t x ((alone_well_formed false s small t x).0 q);
            node = rw (← written_run s small t x q) (nth_map (λ (w : Written). w.node) (written_by s) n ∙ rw v);
            stands = written_stands s small t x q n w v;
          })

  pub find_refused : (e : Refusal) → fold_said (Err e) ≡ as_fold_reading (fold_alone s) → found_said (Err e) ≡ find_answer s offsets before n
  find_refused e reads = let q = answered_refused (fold_alone s) (fold_said (Err e)) reads (numbered e.reason) in rw q

  module _ (m : FoldCounts) (reads : fold_said (Ok m) ≡ as_fold_reading (fold_alone s)) where
    abbrev t₀ : Tally
    t₀ = (read_as s m reads).tally

    abbrev x₀ : List ℕ
    x₀ = (read_as s m reads).text

    e₀ : fold_alone s ≡ accepted t₀ x₀
    e₀ = (read_as s m reads).reading

    its_nodes : m.nodes ≡ t₀.nodes
    its_nodes = ap (λ (r : FoldReading). r.nodes) (read_as s m reads).answer

    pub other_index : is_index (index_of s) offsets before ≡ false → not_found 17 0 ≡ find_answer s offsets before n
    other_index f = rw (e₀, f) refl

    module _ (f : is_index (index_of s) offsets before ≡ true) where
      pub past_the_total : m.nodes ≤ n → not_found 16 0 ≡ find_answer s offsets before n
      past_the_total g =
          rw (e₀, f, nth_past (written_by s) n (omega (arith, g, its_nodes, written_total s small t₀ x₀ e₀))) refl

      both_are : (offsets ≡ (index_of s).offsets) × (before ≡ (index_of s).before)
      both_are = index_equal (index_of s) offsets before f

      module _ (below : n < m.nodes) where
        abbrev f₀ : Forest
        f₀ = tree_of s

        in_run : n < nodes f₀
        in_run = omega (arith, below, its_nodes, (accepted_fold s small t₀ x₀ e₀).total)

        -- The index has an entry, and the first one is 0.
        pub some_entry : (0 < length before) × (get_or before 0 0 ≤ n)
        some_entry = rw both_are.1 (first_entry n f₀ in_run)

        module _ {i : ℕ} (last : LastUpTo before n i) where
          pub entry_offset : i < length offsets
          entry_offset = rw both_are.0 (omega (arith, rw both_are.1 at last.there, same_number s))

          pub holds : ItemOf f₀ n i
          holds = last_holds f₀ n i in_run (rw both_are.1 at last)

          before_is : get_or before i 0 ≡ nodes holds.split.done
          before_is = ap (λ (l : List ℕ). get_or l i 0) both_are.1 ∙ holds.before

          offset_is : get_or offsets i 0 ≡ length (bytes holds.split.done)
          offset_is = ap (λ (l : List ℕ). get_or l i 0) both_are.0 ∙ holds.offset

          -- The item of the entry, from whose offset the way goes down.
          pub node_in : NodeIn s (get_or offsets i 0) (n - get_or before i 0) holds.split.item
          node_in =
              let k = holds.split in
              let whole : FormAt s 0 (join k.done (join k.item k.back)) [] = rw k.whole (whole_stands (accepted_fold s small t₀ x₀ e₀).was_read) in
              let here : FormAt s (get_or offsets i 0) (join k.item k.back) [] =
              back_stands k.done (join k.item k.back) whole (get_or offsets i 0) (offset_is ∙ omega arith) in
              record {
                stands = record { rest = _; stands = front_stands k.item k.back here; one = k.one };
                below = omega (arith, holds.reached, holds.below, before_is);
                few = omega (arith, (accepted_fold s small t₀ x₀ e₀).was_read.few, item_few k);
              }

          -- What unrolling writes at the position is what it writes of that item, so many nodes further on.
          at_item : get_elem? (written_by s) n ≡ get_elem? (writes (get_or offsets i 0) holds.split.item) (n - get_or before i 0)
          at_item =
              let k = holds.split in
              let q = get_or offsets i 0 in
              let m = n - get_or before i 0 in
              let parts : writes 0 f₀ ≡ writes 0 k.done ++ (writes q k.item ++ writes (q + length (bytes k.item)) k.back) =
              ap (writes 0) (sym k.whole)
              ∙ writes_join 0 k.done (join k.item k.back) q (offset_is ∙ omega arith)
              ∙ ap (λ (ws : List Written). writes 0 k.done ++ ws) (writes_join q k.item k.back (q + length (bytes k.item)) refl) in
              ap (λ (ws : List Written). get_elem? ws n) parts
              ∙ nth_back (writes 0 k.done) (writes q k.item ++ writes (q + length (bytes k.item)) k.back) m n
              (omega (arith, length_writes 0 k.done, before_is, holds.reached))
              ∙ nth_front (writes q k.item) (writes (q + length (bytes k.item)) k.back) m
              (omega (arith, length_writes q k.item, before_is, holds.reached, holds.below))

          module _ {r : ℕ} (down : (f : Forest) → NodeIn s (get_or offsets i 0) (n - get_or before i 0) f → get_elem? (offsets_in (get_or offsets i 0) f) (n - get_or before i 0) ≡ some r) where
            -- The node that unrolling writes there.
            there : (w : Written) × (get_elem? (written_by s) n ≡ some w) × (w.offset ≡ r)
            there =
                let ws = writes (get_or offsets i 0) holds.split.item in
                let m = n - get_or before i 0 in
                let v = nth_there ws m (omega (arith, length_writes (get_or offsets i 0) holds.split.item, before_is, holds.reached, holds.below)) in
                let from : map (λ (w : Written). w.offset) (some v.0) ≡ some r =
                ap (map (λ (w : Written). w.offset)) (sym v.1) ∙ sym (nth_map (λ (w : Written). w.offset) ws m) ∙ down holds.split.item node_in in
                (v.0, at_item ∙ v.1, some-injective v.0.offset r from)

            stands : StandsIn s there.0
            stands = written_stands s small t₀ x₀ e₀ n there.0 there.1

            pub label_within : suc r < length s
            label_within = omega (arith, stands.within, there.2)

            pub node_found : node_said (record { label = get_or s (r + 1) 0; command = get_or s r 0; offset = r }) ≡ find_answer s offsets before n
            node_found =
                let w = there.0 in
                let command : get_or s r 0 ≡ w.node.command = ap (λ (q : ℕ). get_or s q 0) (sym there.2) ∙ stands.command_there in
                let behind : r + 1 ≡ suc w.offset = omega (arith, there.2) in
                let label : get_or s (r + 1) 0 ≡ w.node.label = ap (λ (q : ℕ). get_or s q 0) behind ∙ stands.label_there in
                rw (e₀, f, there.1) (cc (label, command, there.2))
