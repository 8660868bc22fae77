-- A stretch of a sequence that a fold can use is a sequence of its own: the table has the stretches of it that a fold can use, and
-- all else that the writer rests on holds for it too.
use mathlib.Core.Path.{◌≡◌, refl, sym, ap, ◌∙◌}
use mathlib.Core.Bool.{Bool}
use mathlib.Core.List.{List, ◌++◌, append_assoc}
use Prim.Native.Nat.{ℕ, zero, suc, ◌+◌, ◌-◌, ◌<◌, ◌≤◌}
use native.Mathlib.Decide.{dec_lt}
use native.Mathlib.Omega.{arith}
use lib.ListN.{length, get_or, drop}
use lib.Seq.{drop_at, drop-drop}
use Rattle.format.specs.Limits.{Prices}
use Rattle.format.specs.Forest.{Forest, end, group, join, siblings, nodes, form_in, bytes, Allowed}
use Rattle.optimum.specs.Cheapest.{front, back, cheapest}
use Rattle.optimum.proofs.Cut.{join_cut, front_front, front_whole, back_front, back_back, back_piece, siblings_back, siblings_piece, nodes_cut, run_front, run_back}
use Rattle.table.specs.Table.{Entry, cell, number, stretch}
use Rattle.table.specs.Used.{Used, to_end, again, Inside, itself, deeper, UsedFilled}
use Rattle.table.proofs.ByNumber.{listed_back}
use Rattle.table.proofs.Cells.{cells_mono}
use Rattle.table.proofs.Listings.{bytes_cut}
use Rattle.table.proofs.Tables.{number_last, number_within}
use Rattle.table.proofs.Uses.{used_from}
use Rattle.writer.specs.declared.Source.{Source}
use Rattle.writer.specs.Writing.{WriteReady, fold_bytes}
use Rattle.writer.proofs.Laws.{listed_front}

-- Stretches of a stretch, and the numbers of its siblings.
back_end : (n : ℕ) → back n end ≡ end
unfolding back
back_end zero = refl
back_end (suc n) = refl

back_past : (m n : ℕ) (t : Forest) → n ≤ m → back m (front n t) ≡ end
unfolding front
back_past m n t h =
    sym (back_back n (m - n) m (front n t) (omega arith)) ∙ ap (back (m - n)) (back_front n 0 n t (omega arith)) ∙ back_end (m - n)

group_not_end : (l : ℕ) (g f : Forest) → group l g f ≡ end → ⊥
group_not_end l g f e = let z : ◌≡◌ {A = ℕ} 0 1 = cc in omega arith

module _ (t : Forest) (i d : ℕ) where
  stretch_part : (k n : ℕ) → k + n ≤ d → stretch (stretch t i d) k n ≡ stretch t (i + k) n
  stretch_part k n h =
      ap (front n) (back_piece i (i + k) k (d - k) d t refl (omega arith)) ∙ front_front n (d - k - n) (d - k) (back (i + k) t) (omega arith)

  number_part : (b k : ℕ) → k ≤ d → number (number b t (i + d)) (stretch t i d) k ≡ number b t (i + k)
  number_part b k h =
      omega (
        arith,
        ap nodes (back_piece i (i + k) k (d - k) d t refl (omega arith)),
        nodes_cut (d - k) (back (i + k) t),
        ap nodes (back_back (i + k) (d - k) (i + d) t (omega arith)),
      )

  group_part : (k l : ℕ) (g f : Forest) → k ≤ d → back k (stretch t i d) ≡ group l g f → back (i + k) t ≡ group l g (join f (back (d - k) (back (i + k) t)))
  unfolding join
  group_part k l g f h e =
      let u = back (i + k) t in
      sym (join_cut (d - k) u) ∙ rw (← back_piece i (i + k) k (d - k) d t refl (omega arith), e)

  deeper_part : (b c : ℕ) (g : Forest) (k l : ℕ) (h f : Forest) → back k (stretch t i d) ≡ group l h f
      → Inside (number (number b t (i + d)) (stretch t i d) (k + 1)) h c g → Inside b t c g
  deeper_part b c g k l h f e x = by_place (dec_lt k d)
    where
      by_place : Dec (k < d) → Inside b t c g
      by_place (yes z) =
          let further : i + (k + 1) ≡ i + k + 1 = omega arith in
          deeper (i + k) l h (join f (back (d - k) (back (i + k) t))) (group_part k l h f (omega arith) e)
          (rw (number_part b (k + 1) (omega arith), further) at x)
      by_place (no z) = absurd (group_not_end l h f (sym e ∙ back_past k d (back i t) (omega arith)))

  -- What is used in a used stretch is used, and the table has it.
  module _ (size : siblings (stretch t i d) ≡ d) (fits : i + d ≤ siblings t) (m : ℕ → Bool) (u : Used m t i d) where
    used_part : (k n : ℕ) → k + n ≤ d → Used m (stretch t i d) k n → Used m t (i + k) n
    used_part k n h (to_end e) =
        let whole : i + d - i ≡ d = omega arith in
        let left : i + d - (i + k) ≡ n = omega arith in
        rw left at (used_from m t i (i + d) (i + k) (omega arith) (omega arith) (rw whole u))
    used_part k n h (again w l q e) =
        let further : i + (k + w) ≡ i + k + w = omega arith in
        again w l (omega arith) (rw (stretch_part k n h, stretch_part (k + w) n (omega arith), further) at e)

  module _ {A : Allowed} {P : Prices} {b : ℕ} {costs choices : List ℕ} (size : siblings (stretch t i d) ≡ d) (fits : i + d ≤ siblings t)
      (u : Used A.marked t i d) (filled : UsedFilled A P b t costs choices) where
    pub filled_part : UsedFilled A P (number b t (i + d)) (stretch t i d) costs choices
    filled_part = record { entry = entry }
      where
        entry : (c : ℕ) (g : Forest) → Inside (number b t (i + d)) (stretch t i d) c g → (k n : ℕ) → 0 < n → k + n ≤ siblings g → Used A.marked g k n
            → Entry A P (stretch g k n) (get_or costs (cell (number c g (k + n)) (number c g k)) 0) (get_or choices (cell (number c g (k + n)) (number c g k)) 0)
        entry c g itself k n p h w =
            let further : i + (k + n) ≡ i + k + n = omega arith in
            rw (stretch_part k n (omega arith), number_part b (k + n) (omega arith), number_part b k (omega arith), further)
            (filled.entry b t itself (i + k) n p (omega arith) (used_part size fits A.marked u k n (omega arith) w))
        entry c g (deeper k l h f e x) m n p q w = filled.entry c g (deeper_part b c g k l h f e x) m n p q w

-- Its bytes stand in the run.
stands_part : (run rest : List ℕ) (place i d : ℕ) (t : Forest) → drop place run ≡ bytes t ++ rest
    → drop (place + length (bytes (front i t))) run ≡ bytes (stretch t i d) ++ (bytes (back d (back i t)) ++ rest)
stands_part run rest place i d t e =
    let x = bytes (front i t) in
    let y = bytes (stretch t i d) ++ (bytes (back d (back i t)) ++ rest) in
    let cut : bytes t ++ rest ≡ x ++ y = rw (bytes_cut i t, bytes_cut d (back i t)) (simp append_assoc) in
    sym (drop-drop (length x) place run) ∙ ap (drop (length x)) (e ∙ cut) ∙ drop_at x y (length x) refl

-- The sequence u, a stretch of that of z, by its numbers.
pub record Part {source : Source} {first behind : ℕ} (z : WriteReady source first behind) (u : Forest) (from to : ℕ) : Type 0 where
  pub ready : WriteReady source from to
  pub same : fold_bytes ready ≡ form_in source.short (cheapest z.allowed z.prices_are u)

module _ {source : Source} {first behind : ℕ} (z : WriteReady source first behind) where
  module _ (i d from to : ℕ) (fits : i + d ≤ siblings z.tree) (u : Used z.allowed.marked z.tree i d)
      (e : from ≡ number behind z.tree i) (e' : to ≡ number behind z.tree (i + d)) where
    part_ready : WriteReady source from to
    part_ready =
        let t = z.tree in
        let r = z.is_run z.allowed in
        let before = number_within behind i t in
        let to_part : to ≡ number behind (back i t) d = e' ∙ rw (back_back i d (i + d) t refl) in
        record {
          tree = stretch t i d;
          is_run = λ A. run_front d (run_back i (z.is_run A));
          place = z.place + length (bytes (front i t));
          rest = bytes (back d (back i t)) ++ z.rest;
          stands = stands_part source.run.now z.rest z.place i d t z.stands;
          listed =
              rw to_part
              (listed_front source.nodes.now.places source.nodes.now.nexts z.allowed (z.place + length (bytes (front i t))) behind (back i t) (run_back i r)
              (listed_back source.nodes.now.places source.nodes.now.nexts z.allowed z.place behind t r z.listed i) d);
          counted = omega (arith, nodes_cut d (back i t));
          total = omega (arith, z.total, z.counted);
          room = omega (arith, z.room, cells_mono from first (omega (arith, z.counted)));
          allowed = z.allowed;
          prices_are = z.prices_are;
          costs = z.costs;
          filled = rw e' (filled_part t i d (siblings_piece i d r fits) fits u z.filled);
        }

    part : Part z (stretch z.tree i d) from to
    unfolding part_ready
    part = record { ready = part_ready; same = refl }

  -- The first w siblings, and what follows the first k.
  pub body_part : (w to : ℕ) → w ≤ siblings z.tree → Used z.allowed.marked z.tree 0 w → to ≡ number behind z.tree w → Part z (front w z.tree) first to
  unfolding back
  body_part w to h u e = let zero_w : 0 + w ≡ w = omega arith in part 0 w first to (omega arith) u z.counted (rw zero_w e)

  pub rest_part : (k from : ℕ) → k ≤ siblings z.tree → from ≡ number behind z.tree k → Part z (back k z.tree) from behind
  rest_part k from h e =
      let t = z.tree in
      let p = (z.is_run z.allowed).plain in
      let d = siblings t - k in
      let all : k + d ≡ siblings t = omega arith in
      rw (front_whole d (back k t) (run_back k (z.is_run z.allowed)).plain (omega (arith, siblings_back k t p h)))
      at (part k d from behind (omega arith) (to_end all) e (rw all (sym (number_last behind t p))))
