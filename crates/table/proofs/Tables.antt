-- The numbers of siblings fall, so every stretch has an entry of its own; and a row is stored entry by entry.
use mathlib.Core.Path.{◌≡◌, refl, sym, ap, ◌∙◌}
use mathlib.Core.List.{List}
use Prim.Native.Nat.{ℕ, ◌+◌, ◌-◌, ◌<◌, ◌≤◌}
use native.Mathlib.Decide.{dec_lt}
use native.Mathlib.Omega.{arith}
use lib.ListN.{length, get_or, set, length-set}
use lib.Seq.{get_or-set_same, get_or-set_other}
use Rattle.format.specs.Limits.{cells}
use Rattle.format.specs.Forest.{Forest, group, Plain, Allowed, siblings, nodes}
use Rattle.optimum.specs.Cheapest.{Run, front, back}
use Rattle.optimum.proofs.Cut.{back_whole, back_back, siblings_piece, siblings_le_nodes, nodes_cut, run_front, run_back}
use Rattle.table.specs.Table.{cell, number, Falling, Stored}
use Rattle.table.proofs.Cells.{cell_in, cell_same}

-- Numbers that fall.
module _ (numbers : List ℕ) (m room : ℕ) (r : Falling numbers m room) where
  pub falling_from : (j : ℕ) → j ≤ m → get_or numbers j 0 ≤ get_or numbers 0 0
  falling_from j h = by_place (dec_lt 0 j)
    where
      by_place : Dec (0 < j) → get_or numbers j 0 ≤ get_or numbers 0 0
      by_place (yes l) = omega (arith, r.fall 0 j l h)
      by_place (no n) = let e : j ≡ 0 = omega arith in rw e (omega arith)

  pub falling_most : (j : ℕ) → j ≤ m → get_or numbers j 0 ≤ 1024
  falling_most j h = omega (arith, r.first, falling_from j h)

  -- The table has the entry of every stretch.
  pub falling_cell : (i j : ℕ) → i < j → j ≤ m → cell (get_or numbers j 0) (get_or numbers i 0) < room
  falling_cell i j l h =
      omega (
        arith,
        cell_in (get_or numbers j 0) (get_or numbers i 0) (get_or numbers 0 0) (r.fall i j l h) (falling_from i (omega arith)),
        r.fits,
      )

-- So that entry may be read.
pub falling_read : {numbers : List ℕ} {m room : ℕ} (i j : ℕ) → i < j → j ≤ m → Falling numbers m room
    → (j < length numbers) × (get_or numbers j 0 < get_or numbers i 0) × (get_or numbers i 0 ≤ 1024) × (cell (get_or numbers j 0) (get_or numbers i 0) < room)
falling_read i j l h r = (omega (arith, r.short), r.fall i j l h, falling_most _ _ _ r i (omega arith), falling_cell _ _ _ r i j l h)

-- The first of numbers that fall.
pub falling_less : {numbers : List ℕ} {m room : ℕ} (k : ℕ) → k ≤ m → Falling numbers m room → Falling numbers k room
falling_less k h r =
    record { short = omega (arith, r.short); fall = λ i j l n. r.fall i j l (omega arith); first = r.first; fits = r.fits }

pub stored_more : (numbers : List ℕ) (i m d : ℕ) (row : ℕ → ℕ) (before after : List ℕ) (k : ℕ) → m + 1 ≡ d → i + d ≤ k
    → Falling numbers k (length before) → Stored numbers i m row before after
    → Stored numbers i d row before (set after (cell (get_or numbers (i + d) 0) (get_or numbers i 0)) (row d))
stored_more numbers i m d row before after k e l r s =
    record { same_length = simp length-set s.same_length; entered = entered; others = others }
  where
    at : ℕ → ℕ
    at c = cell (get_or numbers (i + c) 0) (get_or numbers i 0)

    entered : (c : ℕ) → 0 < c → c ≤ d → get_or (set after (at d) (row d)) (at c) 0 ≡ row c
    entered c p q = by_place (dec_lt c d)
      where
        by_place : Dec (c < d) → get_or (set after (at d) (row d)) (at c) 0 ≡ row c
        by_place (yes h) =
            let short = r.fall i (i + c) (omega arith) (omega arith) in
            let long = r.fall i (i + d) (omega arith) l in
            get_or-set_other after (at d) (at c) (row d) 0
            (λ z. omega (arith, r.fall (i + c) (i + d) (omega arith) l, (cell_same _ _ _ _ short long z).0))
            ∙ s.entered c p (omega arith)
        by_place (no n) =
            let z : c ≡ d = omega arith in
            let room = falling_cell numbers k (length before) r i (i + d) (omega arith) l in
            rw z (get_or-set_same after (at d) (row d) 0 (omega (arith, s.same_length)))

    others : (x : ℕ) → ((c : ℕ) → 0 < c → c ≤ d → x ≡ at c → ⊥) → get_or (set after (at d) (row d)) x 0 ≡ get_or before x 0
    others x f =
        get_or-set_other after (at d) x (row d) 0 (f d (omega arith) (omega arith))
        ∙ s.others x (λ c p q z. f c p (omega arith) z)

-- The numbers of a sequence's siblings: they fall, and stay within the interval of all its nodes.
pub number_within : (b i : ℕ) (t : Forest) → number b t i ≤ b + nodes t
number_within b i t = omega (arith, nodes_cut i t)

pub number_first : (b : ℕ) (t : Forest) → number b t 0 ≡ b + nodes t
unfolding back
number_first b t = refl

pub number_last : (b : ℕ) (t : Forest) → Plain t → number b t (siblings t) ≡ b
unfolding nodes
number_last b t p = rw (back_whole (siblings t) t p refl) (omega arith)

nodes_add : (i j : ℕ) (t : Forest) → i ≤ j → nodes (back i t) ≡ nodes (front (j - i) (back i t)) + nodes (back j t)
nodes_add i j t h =
    sym (nodes_cut (j - i) (back i t)) ∙ rw (back_back i (j - i) j t (omega arith))

pub number_mono : (b i j : ℕ) (t : Forest) → i ≤ j → number b t j ≤ number b t i
number_mono b i j t h = omega (arith, nodes_add i j t h)

pub number_fall : (A : Allowed) (b i j : ℕ) (t : Forest) → Run A t → i < j → j ≤ siblings t → number b t j < number b t i
number_fall A b i j t r l h =
    let some = siblings_le_nodes (front (j - i) (back i t)) (run_front (j - i) (run_back i r)).plain in
    omega (arith, nodes_add i j t (omega arith), siblings_piece i (j - i) r (omega arith))

-- So the list of them is one that falls.
pub falling_numbered : (A : Allowed) (b : ℕ) (t : Forest) (numbers : List ℕ) (room m : ℕ)
    → ((j : ℕ) → j ≤ siblings t → get_or numbers j 0 ≡ number b t j) → Run A t → b + nodes t ≤ 1024 → cells (b + nodes t) ≤ room
    → length numbers ≡ 1025 → siblings t ≤ 1024 → m ≤ siblings t → Falling numbers m room
falling_numbered A b t numbers room m numbered r few fits long narrow h =
    let first : get_or numbers 0 0 ≡ b + nodes t = numbered 0 (omega arith) ∙ number_first b t in
    record {
      short = omega arith;
      fall = λ i j l k. rw (numbered i (omega arith), numbered j (omega arith)) (number_fall A b i j t r l (omega arith));
      first = omega arith;
      fits = rw first fits;
    }

-- A group's number by the one after it.
pub back_next : (i : ℕ) (t f : Forest) → back i t ≡ f → back (i + 1) t ≡ back 1 f
back_next i t f e = sym (back_back i 1 (i + 1) t refl) ∙ ap (back 1) e

pub number_after_group : (b i : ℕ) (t : Forest) (l : ℕ) (g f : Forest) → back i t ≡ group l g f
    → number b t i ≡ number b t (i + 1) + 1 + nodes g
unfolding back nodes
number_after_group b i t l g f e =
    omega (arith, ap nodes e, ap nodes (back_next i t (group l g f) e))
