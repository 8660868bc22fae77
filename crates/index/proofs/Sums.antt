-- The entries of the index: how many there are, what stands where in the two lists, and which item the last entry up to a position
-- belongs to.
use mathlib.Core.Path.{◌≡◌, refl, sym, ap, ◌∙◌}
use mathlib.Core.List.{List, [], ◌∷◌, ◌++◌}
use mathlib.Core.Logic.{◌≢◌}
use Prim.Native.Nat.{ℕ, zero, suc, ◌+◌, ◌*◌, ◌≤◌, ◌<◌}
use native.Mathlib.Nat.{zero-add, mul-le-mul}
use native.Mathlib.Decide.{ℕ_discrete}
use native.Mathlib.Omega.{arith}
use lib.ListN.{length, length-append, get_or}
use lib.Seq.{get_or_at}
use Rattle.format.specs.Forest.{Forest, end, step, group, repeat, Forest-discrete, join, nodes, form_in, bytes, Allowed, Sound}
use Rattle.format.specs.inner.Standing.{One, one_step, one_group, one_repeat}
use Rattle.format.proofs.Forests.{join_end, join_assoc, nodes_join}
use Rattle.format.proofs.Depth.{siblings_nodes}
use Rattle.format.proofs.Standing.{Adds, bytes_adds, nodes_adds, cut}
use Rattle.index.specs.Index.{sums, byte_length}
use Rattle.index.specs.inner.Passing.{LastUpTo}

-- How many outermost items there are.
unfoldable pub outermost : Forest → ℕ
outermost end = 0
outermost (step l f) = suc (outermost f)
outermost (group l b f) = suc (outermost f)
outermost (repeat h w b f) = suc (outermost f)

pub outermost_join : (f g : Forest) → outermost (join f g) ≡ outermost f + outermost g
unfolding outermost join
outermost_join end g = omega arith
outermost_join (step l f) g = omega (arith, outermost_join f g)
outermost_join (group l b f) g = omega (arith, outermost_join f g)
outermost_join (repeat h w b f) g = omega (arith, outermost_join f g)

pub outermost_one : {i : Forest} → One i → outermost i ≡ 1
unfolding outermost
outermost_one (one_step l) = refl
outermost_one (one_group l b) = refl
outermost_one (one_repeat h w b) = refl

-- An item has a byte at least.
pub outermost_short : (f : Forest) → outermost f ≤ length (bytes f)
unfolding outermost form_in
outermost_short end = omega arith
outermost_short (step l f) = omega (arith, outermost_short f)
outermost_short (group l b f) = omega (arith, length-append (bytes b) (0x12 ∷ bytes f), outermost_short f)
outermost_short (repeat h w b f) = omega (arith, length-append (bytes b) (0x21 ∷ bytes f), outermost_short f)

-- An item unrolls to a node at least.
pub outermost_nodes : (A : Allowed) (f : Forest) → Sound A f → outermost f ≤ nodes f
unfolding outermost nodes
outermost_nodes A end z = omega arith
outermost_nodes A (step l f) z = omega (arith, outermost_nodes A f z)
outermost_nodes A (group l b f) z = omega (arith, outermost_nodes A f z.2)
outermost_nodes A (repeat h w b f) z =
    let two : 2 * nodes b ≤ h * nodes b = mul-le-mul z.0.twice (omega arith) in
    omega (arith, siblings_nodes b, z.0.some, outermost_nodes A f z.2)

-- Both lists have one entry for each.
pub length_sums : (m : Forest → ℕ) (n : ℕ) (f : Forest) → length (sums m n f) ≡ outermost f
unfolding sums outermost
length_sums m n end = refl
length_sums m n (step l f) = ap suc (length_sums m (n + m (step l end)) f)
length_sums m n (group l b f) = ap suc (length_sums m (n + m (group l b end)) f)
length_sums m n (repeat h w b f) = ap suc (length_sums m (n + m (repeat h w b end)) f)

module _ (m : Forest → ℕ) (a : Adds m) where
  sums_join : (n : ℕ) (f g : Forest) → sums m n (join f g) ≡ sums m n f ++ sums m (n + m f) g
  unfolding sums join
  sums_join n end g = let e : n + m end ≡ n = omega (arith, a.none) in rw e
  sums_join n (step l f) g =
      let e : n + m (step l end) + m f ≡ n + m (step l f) = omega (arith, a.joined (step l end) f) in
      rw (sums_join (n + m (step l end)) f g, e)
  sums_join n (group l b f) g =
      let e : n + m (group l b end) + m f ≡ n + m (group l b f) = omega (arith, a.joined (group l b end) f) in
      rw (sums_join (n + m (group l b end)) f g, e)
  sums_join n (repeat h w b f) g =
      let e : n + m (repeat h w b end) + m f ≡ n + m (repeat h w b f) = omega (arith, a.joined (repeat h w b end) f) in
      rw (sums_join (n + m (repeat h w b end)) f g, e)

  sums_item : (n : ℕ) (i : Forest) (g : Forest) → One i → sums m n (join i g) ≡ n ∷ sums m (n + m i) g
  unfolding sums join
  sums_item n i g (one_step l) = refl
  sums_item n i g (one_group l b) = refl
  sums_item n i g (one_repeat h w b) = refl

  -- Items done, then one item, then others: the item's entry is what those before it measure.
  sums_split : (done item back : Forest) → One item
      → sums m 0 (join done (join item back)) ≡ sums m 0 done ++ m done ∷ sums m (m done + m item) back
  sums_split done item back one =
      sums_join 0 done (join item back)
      ∙ rw (zero-add (m done)) (ap (λ (l : List ℕ). sums m 0 done ++ l) (sums_item (m done) item back one))

  pub sums_more : (done item : Forest) → One item → sums m 0 (join done item) ≡ sums m 0 done ++ m done ∷ []
  unfolding sums
  sums_more done item one =
      ap (λ (i : Forest). sums m 0 (join done i)) (sym (join_end item)) ∙ sums_split done item end one

  pub entry_there : (done item back : Forest) → One item → (i : ℕ) → i ≡ outermost done
      → get_or (sums m 0 (join done (join item back))) i 0 ≡ m done
  entry_there done item back one i e =
      rw (sums_split done item back one) (get_or_at (sums m 0 done) (m done) (sums m (m done + m item) back) 0 i (length_sums m 0 done ∙ sym e))

  -- The entry behind it, where there is one.
  entry_behind : (done item back : Forest) → One item → back ≢ end → (i : ℕ) → i ≡ outermost done
      → get_or (sums m 0 (join done (join item back))) (suc i) 0 ≡ m done + m item
  entry_behind done item back one some i e =
      let c = cut back some in
      let whole : join done (join item back) ≡ join (join done item) (join c.front c.back) =
      sym (join_assoc done item back) ∙ ap (join (join done item)) (sym c.split) in
      let count : suc i ≡ outermost (join done item) = omega (arith, e, outermost_join done item, outermost_one one) in
      rw whole (entry_there (join done item) c.front c.back c.one (suc i) count ∙ a.joined done item)

-- A sequence has an item for each entry.
pub record Split (f : Forest) (i : ℕ) : Type 0 where
  pub done : Forest
  pub item : Forest
  pub back : Forest
  pub one : One item
  pub whole : join done (join item back) ≡ f
  pub number : i ≡ outermost done

split_at : (f : Forest) (i : ℕ) → i < outermost f → Split f i
unfolding outermost join
split_at end i e = absurd (omega arith)
split_at (step l f) zero e = record { done = end; item = step l end; back = f; one = one_step l; whole = refl; number = refl }
split_at (group l b f) zero e = record { done = end; item = group l b end; back = f; one = one_group l b; whole = refl; number = refl }
split_at (repeat h w b f) zero e = record { done = end; item = repeat h w b end; back = f; one = one_repeat h w b; whole = refl; number = refl }
split_at (step l f) (suc i) e =
    let p = split_at f i (omega arith) in
    record { done = step l p.done; item = p.item; back = p.back; one = p.one; whole = ap (step l) p.whole; number = ap suc p.number }
split_at (group l b f) (suc i) e =
    let p = split_at f i (omega arith) in
    record { done = group l b p.done; item = p.item; back = p.back; one = p.one; whole = ap (group l b) p.whole; number = ap suc p.number }
split_at (repeat h w b f) (suc i) e =
    let p = split_at f i (omega arith) in
    record { done = repeat h w b p.done; item = p.item; back = p.back; one = p.one; whole = ap (repeat h w b) p.whole; number = ap suc p.number }

-- An entry is less than what the whole measures, where an item measures something.
pub entry_small : (m : Forest → ℕ) → Adds m → (f : Forest) → ((done item back : Forest) → One item → join done (join item back) ≡ f → 0 < m item)
    → (i : ℕ) → i < outermost f → get_or (sums m 0 f) i 0 < m f
entry_small m a f some i e =
    let p = split_at f i e in
    let here : get_or (sums m 0 f) i 0 ≡ m p.done = rw p.whole at (entry_there m a p.done p.item p.back p.one i p.number) in
    omega (arith, here, some p.done p.item p.back p.one p.whole, ap m (sym p.whole), a.joined p.done (join p.item p.back), a.joined p.item p.back)

-- The item of an entry, and the position in its run of a position of the whole run.
pub record ItemOf (f : Forest) (n i : ℕ) : Type 0 where
  pub split : Split f i
  pub offset : get_or (sums byte_length 0 f) i 0 ≡ length (bytes split.done)
  pub before : get_or (sums nodes 0 f) i 0 ≡ nodes split.done
  pub reached : nodes split.done ≤ n
  pub below : n < nodes split.done + nodes split.item

-- The last entry that is not above a position belongs to the item that the position is in.
pub last_holds : (f : Forest) (n i : ℕ) → n < nodes f → LastUpTo (sums nodes 0 f) n i → ItemOf f n i
unfolding nodes outermost
last_holds f n i below last = go (Forest-discrete ℕ_discrete p.back end)
  where
    p : Split f i
    p = split_at f i (omega (arith, last.there, length_sums nodes 0 f))

    here : (m : Forest → ℕ) → Adds m → get_or (sums m 0 f) i 0 ≡ m p.done
    here m a = rw p.whole at (entry_there m a p.done p.item p.back p.one i p.number)

    of_item : n < nodes p.done + nodes p.item → ItemOf f n i
    of_item e =
        record {
          split = p;
          offset = here byte_length bytes_adds;
          before = here nodes nodes_adds;
          reached = omega (arith, last.reached, here nodes nodes_adds);
          below = e;
        }

    total : nodes f ≡ nodes p.done + (nodes p.item + nodes p.back)
    total = ap nodes (sym p.whole) ∙ rw (nodes_join p.done (join p.item p.back), nodes_join p.item p.back)

    go : Dec (p.back ≡ end) → ItemOf f n i
    go (yes last_one) = of_item (omega (arith, below, total, ap nodes last_one))
    go (no some) =
        let next : get_or (sums nodes 0 f) (suc i) 0 ≡ nodes p.done + nodes p.item =
        rw p.whole at (entry_behind nodes nodes_adds p.done p.item p.back p.one some i p.number) in
        let c = cut p.back some in
        of_item (omega (arith, last.next_above (omega (arith, length_sums nodes 0 f, ap outermost (sym p.whole), outermost_join p.done (join p.item p.back), outermost_join p.item p.back, outermost_one p.one, p.number, ap outermost (sym c.split), outermost_join c.front c.back, outermost_one c.one)), next))
