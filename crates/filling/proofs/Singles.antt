-- One sibling by itself, cost and repeats combined: a step by its label, a group by its label and the top entry of what it holds.
use mathlib.Core.Path.{◌≡◌, refl, sym, ◌∙◌}
use mathlib.Core.List.{List}
use Prim.Native.Nat.{ℕ, ◌+◌, ◌-◌, ◌*◌, ◌<◌, ◌≤◌}
use native.Mathlib.Nat.{zero-add}
use native.Mathlib.Omega.{arith}
use lib.ListN.{get_or}
use Rattle.format.specs.Forest.{at_most, siblings}
use Rattle.format.specs.Tree.{tree_of}
use Rattle.optimum.specs.Cheapest.{front, back}
use Rattle.optimum.proofs.Cut.{front_whole, siblings_le_nodes, run_back, run_body}
use Rattle.optimum.proofs.Powers.{spans_usual}
use Rattle.optimum.proofs.Cheapest.{best_cost_step, best_cost_group}
use Rattle.table.specs.Listing.{Spelled, Numbered}
use Rattle.table.specs.Keys.{factor, combined_digits}
use Rattle.table.specs.Table.{cell, number, key_from, Falling}
use Rattle.table.specs.Used.{to_end}
use Rattle.filling.specs.Filling.{Single}
use Rattle.table.proofs.Digits.{combined_is}
use Rattle.table.proofs.Cells.{cell_in}
use Rattle.filling.proofs.Entries.{below_at}
use Rattle.table.proofs.Tables.{number_first, number_last, number_within, falling_from, number_after_group}
use Rattle.table.proofs.Listings.{Sibling, is_step, is_group}

-- Sibling i by itself, by its first byte c and its label l.
module _ (s : List ℕ) (i c l : ℕ) (x : Sibling (tree_of s) i c l) where
  pub own_step : (steps groups costs choices numbers : List ℕ) → c ≡ 0x10 → (r : ℕ) → r ≡ get_or steps l 0 * factor
      → Single s steps groups costs choices numbers i r
  unfolding front
  own_step steps groups costs choices numbers e r q = by_form x
    where
      by_form : Sibling (tree_of s) i c l → Single s steps groups costs choices numbers i r
      by_form (is_step f p d) =
          record { costs_it = λ A P st gr few w. q ∙ sym (st l) ∙ sym (best_cost_step A P l) ∙ rw p }
      by_form (is_group g f p d) = absurd (omega arith)

  module _ (numbers : List ℕ) (z : Spelled s) (h : i < siblings (tree_of s)) (numbered : Numbered (get_or numbers (siblings (tree_of s)) 0) (tree_of s) numbers)
      (other : c ≡ 0x10 → ⊥) where
    -- The interval of what a group holds is not empty.
    pub own_inside : get_or numbers (i + 1) 0 < get_or numbers i 0 - 1
    own_inside = by_form x
      where
        by_form : Sibling (tree_of s) i c l → get_or numbers (i + 1) 0 < get_or numbers i 0 - 1
        by_form (is_step f p d) = absurd (other d)
        by_form (is_group g f p d) =
            let r = rw p at (run_back i (z.run (at_most 0))) in
            omega (
              arith,
              numbered.numbered i (omega arith),
              numbered.numbered (i + 1) (omega arith),
              number_after_group (get_or numbers (siblings (tree_of s)) 0) i (tree_of s) l g f p,
              r.sound.0,
              siblings_le_nodes g (run_body r).plain,
            )

    -- And the table has its entry.
    pub own_cell : (room : ℕ) → Falling numbers (siblings (tree_of s)) room → cell (get_or numbers (i + 1) 0) (get_or numbers i 0 - 1) < room
    own_cell room r =
        let within = falling_from numbers (siblings (tree_of s)) room r i (omega arith) in
        omega (arith, cell_in _ _ (get_or numbers 0 0) own_inside (omega arith), r.fits)

    -- The top entry of what the group holds has cost and repeats of all of it.
    pub own_group : (steps groups costs choices : List ℕ) (r : ℕ)
        → r ≡ get_or groups l 0 * factor + combined_digits (key_from costs choices numbers (get_or numbers i 0 - 1) (i + 1))
        → Single s steps groups costs choices numbers i r
    unfolding front back
    own_group steps groups costs choices r q = by_form x
      where
        by_form : Sibling (tree_of s) i c l → Single s steps groups costs choices numbers i r
        by_form (is_step f p d) = absurd (other d)
        by_form (is_group g f p d) =
            record {
              costs_it = λ A P st gr few w.
                  let u = rw p at (run_back i (z.run A)) in
                  let b = number (get_or numbers (siblings (tree_of s)) 0) (tree_of s) (i + 1) in
                  let v = below_at A P costs choices (get_or numbers (siblings (tree_of s)) 0) (tree_of s) i l g f (z.run A) p w in
                  let top = v.top 0 (siblings g) u.sound.0 (omega arith) (to_end (omega arith)) in
                  let last : number b g (0 + siblings g) ≡ get_or numbers (i + 1) 0 =
                  rw zero-add (omega (arith, number_last b g (run_body u).plain, numbered.numbered (i + 1) (omega arith))) in
                  let first : number b g 0 ≡ get_or numbers i 0 - 1 =
                  omega (
                    arith,
                    number_first b g,
                    numbered.numbered i (omega arith),
                    number_after_group (get_or numbers (siblings (tree_of s)) 0) i (tree_of s) l g f p,
                  ) in
                  let whole = rw (first, last, front_whole (siblings g) g (run_body u).plain refl) at top in
                  let narrow : siblings g ≤ 1024 =
                  omega (
                    arith,
                    siblings_le_nodes g (run_body u).plain,
                    number_after_group b i (tree_of s) l g f p,
                    number_within b i (tree_of s),
                  ) in
                  rw p (omega (arith, q, gr l, best_cost_group A P l g (run_body u) u.sound.0, combined_is whole.best (spans_usual A g narrow)));
            }
