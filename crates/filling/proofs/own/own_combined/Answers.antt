-- `filling::own::own_combined` meets its contract. The first byte tells a step from a group, and what a group holds has its entries.
use Prim.Native.Nat.{ℕ, ◌+◌, ◌-◌, ◌<◌, ◌≤◌}
use mathlib.Core.Path.{◌≡◌}
use mathlib.Core.List.{List}
use native.Mathlib.Omega.{arith}
use lib.ListN.{get_or, length}
use Rattle.format.specs.Forest.{siblings}
use Rattle.format.specs.Tree.{tree_of}
use Rattle.table.specs.Listing.{Spelled, Placed, Numbered}
use Rattle.table.specs.Table.{Held, Falling}
use Rattle.table.proofs.Tables.{falling_most}
use Rattle.table.proofs.Listings.{Sibling, sibling_first, sibling_long, place_most}
use Rattle.filling.proofs.Singles.{own_step, own_inside, own_cell, own_group}
use Rattle.filling.proofs.own.own_combined.Goals as goal

-- The sibling has a first byte and a label, and what it is by them.
module _ (s offsets : List ℕ) (i : ℕ) (z : Spelled s) (o : Placed s offsets) (some : i < siblings (tree_of s)) where
  long : get_or offsets i 0 + 2 ≤ length s
  long = omega (arith, o.offset i (omega arith), sibling_long _ z i some, place_most _ z (i + 1))

  first : Sibling (tree_of s) i (get_or s (get_or offsets i 0) 0) (get_or s (get_or offsets i 0 + 1) 0)
  first = sibling_first _ z i some _ (o.offset i (omega arith))

-- The interval of what a group holds is not empty, and both tables have its entry.
module _ (s numbers : List ℕ) (i at label : ℕ) (z : Spelled s) (some : i < siblings (tree_of s)) (x : Sibling (tree_of s) i at label)
    (n : Numbered (get_or numbers (siblings (tree_of s)) 0) (tree_of s) numbers) (other : at ≡ 0x10 → ⊥) where
  further : get_or numbers (i + 1) 0 < get_or numbers i 0 - 1
  further = own_inside _ _ _ _ x _ z some n other

  held : (room : ℕ) → Falling numbers (siblings (tree_of s)) room → Held numbers (get_or numbers i 0 - 1) (i + 1) room
  held room f =
      let most = falling_most _ _ _ f i (omega arith) in
      (omega (arith, f.short), further, omega arith, own_cell _ _ _ _ x _ z some n other room f)

pub overflow_add-label : goal.overflow_add-label
overflow_add-label c = let r = c.requires in omega (arith, long _ _ c.args.i r.spelled r.placed r.there.0)

pub bounds-s-at : goal.bounds-s-at
bounds-s-at c = let r = c.requires in omega (arith, long _ _ c.args.i r.spelled r.placed r.there.0)

pub bounds-s-at-2 : goal.bounds-s-at-2
bounds-s-at-2 c = let r = c.requires in omega (arith, long _ _ c.args.i r.spelled r.placed r.there.0)

pub returns-then-s-at-eq-STEP : goal.returns-then-s-at-eq-STEP
returns-then-s-at-eq-STEP c =
    let r = c.requires in
    own_step _ _ _ _ (first _ _ c.args.i r.spelled r.placed r.there.0) _ _ _ _ _ c.if-s-at-eq-STEP.true _
    (omega (arith, c.combined_of.ensures, c.price.ensures))

pub key_at-inside-requires-clause-held : goal.key_at-inside-requires-clause-held
key_at-inside-requires-clause-held c =
    let r = c.requires in
    let x = first _ _ c.args.i r.spelled r.placed r.there.0 in
    held _ _ c.args.i _ _ r.spelled r.there.0 x r.numbered c.if-s-at-eq-STEP.false _ r.falling.0

pub key_at-inside-requires-clause-held_2 : goal.key_at-inside-requires-clause-held_2
key_at-inside-requires-clause-held_2 c =
    let r = c.requires in
    let x = first _ _ c.args.i r.spelled r.placed r.there.0 in
    held _ _ c.args.i _ _ r.spelled r.there.0 x r.numbered c.if-s-at-eq-STEP.false _ r.falling.1

pub returns : goal.returns
returns c =
    let r = c.requires in
    own_group _ _ _ _ (first _ _ c.args.i r.spelled r.placed r.there.0) _ r.spelled r.there.0 r.numbered c.if-s-at-eq-STEP.false _ _ _ _ _
    (omega (arith, c.combined_digits.ensures, c.key_at-inside.ensures, c.combined_of-2.ensures, c.price-2.ensures))
