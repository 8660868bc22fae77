-- The siblings of a sequence in its bytes: where their parts stand, and which of them are equal.
use mathlib.Core.Path.{◌≡◌, refl, sym, ap, ◌∙◌}
use mathlib.Core.Bool.{Bool, true, false, true≢false, ◌||◌, or-false, or_assoc}
use mathlib.Core.List.{List, [], ◌∷◌, ◌++◌, map, append_assoc, append-nil}
use Prim.Native.Nat.{ℕ, ◌+◌, ◌-◌, ◌<◌, ◌≤◌}
use native.Mathlib.Decide.{dec_lt, ℕ_discrete}
use native.Mathlib.Omega.{arith}
use lib.ListN.{length, get_or, set, take, drop, length-append}
use lib.Seq.{take_at, drop_at, get_or-drop, get_or-set_same, get_or-set_other}
use Rattle.format.specs.Forest.{at_most, Forest, end, step, group, repeat, Plain, siblings, form_in, bytes, holds}
use Rattle.format.specs.Tree.{tree_of}
use Rattle.format.proofs.Forests.{bytes_join}
use Rattle.format.proofs.Marks.{one}
use Rattle.format.proofs.Tree.{bytes_injective}
use Rattle.optimum.specs.Cheapest.{Run, front, back, node, FreeCopy}
use Rattle.optimum.proofs.Cut.{join_cut, front_add, back_back, siblings_back, run_back}
use Rattle.table.specs.Listing.{Spelled, FirstEqual, marked_from, ClassOf, free, alone}

-- A list filled from the front: what holds of the first m entries, and of the one put next, holds of the first m + 1.
pub entry_more : (P : ℕ → ℕ → Type 0) (xs : List ℕ) (m v : ℕ) → m < length xs → ((i : ℕ) → i < m → P i (get_or xs i 0)) → P m v
    → (i : ℕ) → i < m + 1 → P i (get_or (set xs m v) i 0)
entry_more P xs m v h f p i l = by_place (dec_lt i m)
  where
    by_place : Dec (i < m) → P i (get_or (set xs m v) i 0)
    by_place (yes k) = rw (get_or-set_other xs m i v 0 (λ e. omega arith)) (f i k)
    by_place (no k) = let e : i ≡ m = omega arith in rw (e, get_or-set_same xs m v 0 h) p

-- And what holds of all entries stays so where it holds of the one put in.
pub entry_all : (P : ℕ → Type 0) (xs : List ℕ) (m v : ℕ) → m < length xs → ((i : ℕ) → P (get_or xs i 0)) → P v → (i : ℕ) → P (get_or (set xs m v) i 0)
entry_all P xs m v h f p i = by_place (ℕ_discrete i m)
  where
    by_place : Dec (i ≡ m) → P (get_or (set xs m v) i 0)
    by_place (yes e) = rw (e, get_or-set_same xs m v 0 h) p
    by_place (no n) = rw (get_or-set_other xs m i v 0 n) (f i)

-- The bytes of a sequence, cut before sibling i and behind it.
pub bytes_cut : (i : ℕ) (t : Forest) → bytes t ≡ bytes (front i t) ++ bytes (back i t)
bytes_cut i t = sym (ap bytes (join_cut i t)) ∙ bytes_join (front i t) (back i t)

bytes_first : (i : ℕ) (t : Forest) → bytes (back i t) ≡ bytes (node i t) ++ bytes (back (i + 1) t)
bytes_first i t = bytes_cut 1 (back i t) ∙ rw (back_back i 1 (i + 1) t refl)

-- Where sibling i starts.
abbrev pub place : ℕ → Forest → ℕ
place i t = length (bytes (front i t))

pub place_next : (i : ℕ) (t : Forest) → place (i + 1) t ≡ place i t + length (bytes (node i t))
place_next i t =
    ap (λ (f : Forest). length (bytes f)) (front_add i 1 (i + 1) t refl)
    ∙ rw bytes_join (length-append (bytes (front i t)) (bytes (node i t)))

-- Each sibling of a run has two bytes at least.
first_long : (t : Forest) → Plain t → 0 < siblings t → 2 ≤ length (bytes (front 1 t))
unfolding front siblings form_in
first_long end p h = absurd (omega arith)
first_long (step l f) p h = omega arith
first_long (group l b f) p h = omega arith
first_long (repeat n w b f) p h = absurd p

-- What sibling i is, by its first byte c and its label l.
pub data Sibling (t : Forest) (i c l : ℕ) : Type 0 where
  is_step : (f : Forest) → back i t ≡ step l f → c ≡ 0x10 → Sibling t i c l
  is_group : (g f : Forest) → back i t ≡ group l g f → c ≡ 0x11 → Sibling t i c l

module _ (s : List ℕ) (z : Spelled s) where
  run_any : Run (at_most 0) (tree_of s)
  run_any = z.run (at_most 0)

  place_rest : (i at : ℕ) → at ≡ place i (tree_of s) → drop at s ≡ bytes (back i (tree_of s))
  place_rest i at e =
      ap (drop at) (sym z.form ∙ bytes_cut i (tree_of s))
      ∙ drop_at (bytes (front i (tree_of s))) (bytes (back i (tree_of s))) at (sym e)

  pub place_most : (i : ℕ) → place i (tree_of s) ≤ length s
  place_most i = omega (arith, ap length z.form, rw length-append at (ap length (bytes_cut i (tree_of s))))

  -- Sibling i's part, by where it starts and where the next one does.
  pub place_part : (i a e : ℕ) → a ≡ place i (tree_of s) → e ≡ place (i + 1) (tree_of s)
      → take (e - a) (drop a s) ≡ bytes (node i (tree_of s))
  place_part i a e p q =
      rw (place_rest i a p, bytes_first i (tree_of s))
      (take_at (bytes (node i (tree_of s))) (bytes (back (i + 1) (tree_of s))) (e - a) (omega (arith, place_next i (tree_of s))))

  module _ (i : ℕ) (h : i < siblings (tree_of s)) where
    -- The bounds of its part are in order, and within the bytes.
    pub part_bounds : (a e : ℕ) → a ≡ place i (tree_of s) → e ≡ place (i + 1) (tree_of s) → (a ≤ e) × (e ≤ length s)
    part_bounds a e p q = (omega (arith, place_next i (tree_of s)), omega (arith, place_most (i + 1)))

    pub sibling_long : place i (tree_of s) + 2 ≤ place (i + 1) (tree_of s)
    sibling_long =
        let left : 0 < siblings (back i (tree_of s)) = omega (arith, siblings_back i (tree_of s) run_any.plain (omega arith)) in
        omega (arith, place_next i (tree_of s), first_long (back i (tree_of s)) (run_back i run_any).plain left)

    pub sibling_first : (at : ℕ) → at ≡ place i (tree_of s) → Sibling (tree_of s) i (get_or s at 0) (get_or s (at + 1) 0)
    unfolding siblings form_in
    sibling_first at e = by_form (back i (tree_of s)) refl
      where
        byte : (f : Forest) → back i (tree_of s) ≡ f → (k j : ℕ) → at + k ≡ j → get_or s j 0 ≡ get_or (bytes f) k 0
        byte f q k j p = rw (← p, ← get_or-drop at s k 0, place_rest i at e, q)

        by_form : (f : Forest) → back i (tree_of s) ≡ f → Sibling (tree_of s) i (get_or s at 0) (get_or s (at + 1) 0)
        by_form end q =
            absurd (omega (arith, ap siblings q, siblings_back i (tree_of s) run_any.plain (omega arith)))
        by_form (step l f) q = is_step f (rw (byte (step l f) q 1 (at + 1) refl) q) (byte (step l f) q 0 at (omega arith))
        by_form (group l g f) q = is_group g f (rw (byte (group l g f) q 1 (at + 1) refl) q) (byte (group l g f) q 0 at (omega arith))
        by_form (repeat h w g f) q = absurd (rw q at (run_back i run_any).plain)

-- Which of these runs have a marked label, 01 being marked: the step, one beside it, a group of that label, one that holds it, one two
-- deep; and a group without it, and a label that looks like a close.
pub marked_hold : map (marked_from one false)
    ((0x10 ∷ 0x01 ∷ [])
    ∷ (0x10 ∷ 0x02 ∷ 0x10 ∷ 0x01 ∷ [])
    ∷ (0x11 ∷ 0x01 ∷ 0x10 ∷ 0x02 ∷ 0x12 ∷ [])
    ∷ (0x11 ∷ 0x02 ∷ 0x10 ∷ 0x01 ∷ 0x12 ∷ [])
    ∷ (0x11 ∷ 0x02 ∷ 0x11 ∷ 0x03 ∷ 0x10 ∷ 0x01 ∷ 0x12 ∷ 0x12 ∷ [])
    ∷ (0x11 ∷ 0x02 ∷ 0x10 ∷ 0x03 ∷ 0x12 ∷ [])
    ∷ (0x10 ∷ 0x12 ∷ 0x10 ∷ 0x02 ∷ [])
    ∷ [])
    ≡ true ∷ true ∷ true ∷ true ∷ true ∷ false ∷ false ∷ []
unfolding marked_from
marked_hold = refl

-- The marked labels of a run in its bytes.
pub marked_bytes : (m : ℕ → Bool) (t : Forest) (s : List ℕ) → Plain t → marked_from m false (bytes t ++ s) ≡ (holds m t || marked_from m false s)
unfolding form_in holds marked_from
marked_bytes m end s p = refl
marked_bytes m (step l f) s p = rw (marked_bytes m f s p, or_assoc)
marked_bytes m (group l b f) s p =
    let cut : bytes (group l b f) ++ s ≡ 0x11 ∷ l ∷ (bytes b ++ 0x12 ∷ (bytes f ++ s)) =
    ap (λ (x : List ℕ). 0x11 ∷ l ∷ x) (append_assoc (bytes b) (0x12 ∷ bytes f) s) in
    ap (marked_from m false) cut ∙ rw (marked_bytes m b (0x12 ∷ (bytes f ++ s)) p.0, marked_bytes m f s p.1, or_assoc, or_assoc)
marked_bytes m (repeat h w b f) s p = absurd p

pub marked_part : (m : ℕ → Bool) (t : Forest) (s : List ℕ) → Plain t → s ≡ bytes t → marked_from m false s ≡ holds m t
unfolding marked_from
marked_part m t s p e = rw (e, ← append-nil (bytes t)) (marked_bytes m t [] p ∙ or-false (holds m t))

-- The first sibling that equals sibling i: none before j does.
abbrev pub None : Forest → (i j : ℕ) → Type 0
None t i j = (k : ℕ) → k < j → node k t ≡ node i t → ⊥

pub first_found : (t : Forest) (i j : ℕ) (x y : List ℕ) → j < i → x ≡ bytes (node j t) → y ≡ bytes (node i t) → x ≡ y → None t i j
    → FirstEqual t i j
first_found t i j x y h p q e none =
    record { early = omega arith; equal = bytes_injective (node j t) (node i t) (sym p ∙ e ∙ q); first = none }

-- Two siblings have one class exactly where they are equal and free.
module _ (m : ℕ → Bool) (t : Forest) (i j p q : ℕ) where
  pub equal_kinds : (i ≡ j → ⊥) → ClassOf m t i p → ClassOf m t j q → p ≡ q → FreeCopy m (node i t) (node j t)
  equal_kinds apart (free u f) (free v g) e = record { same = sym f.equal ∙ rw e g.equal; unmarked = u }
  equal_kinds apart (free u f) (alone v g) e =
      let same : node j t ≡ node i t = rw (e, g) at f.equal in
      absurd (true≢false (sym v ∙ rw same u))
  equal_kinds apart (alone u f) (free v g) e =
      let same : node i t ≡ node j t = rw (← e, f) at g.equal in
      absurd (true≢false (sym u ∙ rw same v))
  equal_kinds apart (alone u f) (alone v g) e = absurd (apart (omega arith))

  first_order : FirstEqual t i p → FirstEqual t j q → node i t ≡ node j t → p ≡ q
  first_order f g e = by_order (dec_lt p q) (dec_lt q p)
    where
      by_order : Dec (p < q) → Dec (q < p) → p ≡ q
      by_order (yes l) d = absurd (g.first p l (f.equal ∙ e))
      by_order (no l) (yes k) = absurd (f.first q k (g.equal ∙ sym e))
      by_order (no l) (no k) = omega arith

  pub kinds_equal : ClassOf m t i p → ClassOf m t j q → FreeCopy m (node i t) (node j t) → p ≡ q
  kinds_equal (free u f) (free v g) e = first_order f g e.same
  kinds_equal (free u f) (alone v g) e = absurd (true≢false (sym v ∙ rw (← e.same) e.unmarked))
  kinds_equal (alone u f) c e = absurd (true≢false (sym u ∙ e.unmarked))
