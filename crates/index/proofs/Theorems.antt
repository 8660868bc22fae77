-- The theorems about the index of a fold that is accepted, how many entries it has and how great they are, and about what the finder
-- refuses.
use mathlib.Core.Path.{◌≡◌, refl, ap}
use mathlib.Core.Bool.{Bool, true, false}
use mathlib.Core.List.{List}
use mathlib.Core.Logic.{◌↔◌}
use mathlib.Core.Option.{Option, none, some}
use Prim.Native.Nat.{ℕ, ◌≤◌, ◌<◌}
use native.Mathlib.Decide.{dec_le}
use native.Mathlib.Omega.{arith}
use lib.ListN.{length, get_or, get_elem?}
use Rattle.format.specs.Forest.{Forest, join, nodes, Allowed, Sound}
use Rattle.format.specs.Tree.{tree_of}
use Rattle.format.specs.Machine.{accepted}
use Rattle.format.specs.Order.{Bytes}
use Rattle.format.specs.Readings.{fold_alone}
use Rattle.format.specs.inner.Standing.{One}
use Rattle.format.specs.declared.tally.Tally.{Tally}
use Rattle.format.proofs.Forests.{sound_parts}
use Rattle.format.proofs.Standing.{bytes_adds, nodes_adds, one_some}
use Rattle.index.specs.Nodes.{Written, written_by}
use Rattle.index.specs.Index.{byte_length, index_of, is_index}
use Rattle.index.specs.Finding.{finding, find_answer}
use Rattle.index.proofs.Lists.{nth_there, nth_past}
use Rattle.index.proofs.Sums.{outermost, outermost_one, outermost_nodes, length_sums, entry_small}
use Rattle.index.proofs.Outermost.{both}
use Rattle.index.proofs.Accepted.{accepted_fold, written_total}
use Rattle.index.proofs.Answers.{same_number, index_equal}

-- An item of a sound sequence unrolls to a node at least.
item_some : (A : Allowed) (done item back : Forest) → One item → Sound A (join done (join item back)) → 0 < nodes item
item_some A done item back one z =
    let sound = (sound_parts A item back (sound_parts A done (join item back) z).1).0 in
    omega (arith, outermost_nodes A item sound, outermost_one one)

module _ (s : List ℕ) (small : Bytes s) (t : Tally) (x : List ℕ) (e : fold_alone s ≡ accepted t x) where
  -- The index has no more entries than the run has nodes, so 1,024 are always enough; both lists have as many.
  pub index_few : (length (index_of s).offsets ≤ t.nodes) × (length (index_of s).before ≡ length (index_of s).offsets)
  index_few =
      let z = accepted_fold s small t x e in
      let r = z.was_read in
      (omega (arith, length_sums byte_length 0 (tree_of s), outermost_nodes r.allowed (tree_of s) r.sound, z.total), same_number s)

  -- Its numbers are small: an offset is below the fold's size, and the nodes before an item are below the node total.
  pub index_small : (i : ℕ) → i < length (index_of s).offsets
      → (get_or (index_of s).offsets i 0 < length s) × (get_or (index_of s).before i 0 < t.nodes)
  index_small i there =
      let z = accepted_fold s small t x e in
      let r = z.was_read in
      let few : i < outermost (tree_of s) = omega (arith, there, length_sums byte_length 0 (tree_of s)) in
      let offset = entry_small byte_length bytes_adds (tree_of s) (λ d g k one whole. one_some one) i few in
      let before = entry_small nodes nodes_adds (tree_of s) (λ d g k one whole. item_some r.allowed d g k one (rw whole r.sound)) i few in
      (omega (arith, offset, ap length r.form), omega (arith, before, z.total))

  module _ (offsets before : List ℕ) (n : ℕ) where
    -- The refusal's number, for what is asked of the slices and what is written at the position.
    refusal_of : (b : Bool) → is_index (index_of s) offsets before ≡ b → (w : Option Written) → get_elem? (written_by s) n ≡ w
        → (find_answer s offsets before n).refusal ≡ (finding (accepted t x) b w).refusal
    refusal_of b f w g = rw (e, f, g)

    -- 17 exactly where the slices are not the index that the builder writes.
    pub false_index_exactly : ((find_answer s offsets before n).refusal ≡ 17) ↔ ((offsets ≡ (index_of s).offsets) × (before ≡ (index_of s).before) → ⊥)
    false_index_exactly = (λ f g. is_it (get_elem? (written_by s) n) refl f g, is_not (is_index (index_of s) offsets before) refl)
      where
        is_it : (w : Option Written) → get_elem? (written_by s) n ≡ w → (find_answer s offsets before n).refusal ≡ 17
            → (offsets ≡ (index_of s).offsets) × (before ≡ (index_of s).before) → ⊥
        is_it none v f g = omega (arith, f, refusal_of true (both _ _ _ _ g.0 g.1) none v)
        is_it (some w) v f g = omega (arith, f, refusal_of true (both _ _ _ _ g.0 g.1) (some w) v)

        is_not : (b : Bool) → is_index (index_of s) offsets before ≡ b → ((offsets ≡ (index_of s).offsets) × (before ≡ (index_of s).before) → ⊥)
            → (find_answer s offsets before n).refusal ≡ 17
        is_not true f g = absurd (g (index_equal (index_of s) offsets before f))
        is_not false f g = refusal_of false f (get_elem? (written_by s) n) refl

    -- 16 exactly where they are, and the position is not below the node total.
    pub past_end_exactly : (offsets ≡ (index_of s).offsets) → (before ≡ (index_of s).before)
        → ((find_answer s offsets before n).refusal ≡ 16) ↔ (t.nodes ≤ n)
    past_end_exactly f g = (λ h. below h (dec_le t.nodes n), past)
      where
        its : is_index (index_of s) offsets before ≡ true
        its = both _ _ _ _ f g

        past : t.nodes ≤ n → (find_answer s offsets before n).refusal ≡ 16
        past h = refusal_of true its none (nth_past (written_by s) n (omega (arith, h, written_total s small t x e)))

        below : (find_answer s offsets before n).refusal ≡ 16 → Dec (t.nodes ≤ n) → t.nodes ≤ n
        below h (yes k) = k
        below h (no k) =
            let w = nth_there (written_by s) n (omega (arith, k, written_total s small t x e)) in
            absurd (omega (arith, h, refusal_of true its (some w.0) w.1))
