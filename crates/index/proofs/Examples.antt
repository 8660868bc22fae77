-- Examples of the index and of what is found by it, checked by computation: every position of nested folds, the refusals of the
-- builder and of the finder, and their order. Each list of cases has one statement: every case holds.
use mathlib.Core.Path.{◌≡◌, refl}
use mathlib.Core.List.{List, [], ◌∷◌, map}
use Prim.Native.Nat.{ℕ}
use Rattle.format.specs.Forest.{nodes, form_in}
use Rattle.format.specs.Readings.{alone_in, fold_alone}
use Rattle.format.specs.Tree.{tree_of}
use Rattle.index.specs.Nodes.{written, writes, written_by}
use Rattle.index.specs.Index.{sums, same, index_of, indexed, index_answer, index_output}
use Rattle.index.specs.Finding.{not_found, find_answer}
use Rattle.index.specs.Numbers.{Indexed, Found}

-- A step 09; twice a group 05 that holds three steps 01, and a step 02; a group 06 that holds a step 03. Three outermost items.
abbrev pub mixed : List ℕ
mixed =
    0x10 ∷ 0x09
    ∷ 0x20 ∷ 0x00 ∷ 0x02 ∷ 0x00 ∷ 0x02
    ∷ 0x11 ∷ 0x05 ∷ 0x20 ∷ 0x00 ∷ 0x03 ∷ 0x00 ∷ 0x01 ∷ 0x10 ∷ 0x01 ∷ 0x21 ∷ 0x12
    ∷ 0x10 ∷ 0x02
    ∷ 0x21
    ∷ 0x11 ∷ 0x06 ∷ 0x10 ∷ 0x03 ∷ 0x12
    ∷ []

-- Two groups 05 that hold three steps 01 each, as a repeat.
abbrev pub twice : List ℕ
twice =
    0x20 ∷ 0x00 ∷ 0x02 ∷ 0x00 ∷ 0x01
    ∷ 0x11 ∷ 0x05 ∷ 0x20 ∷ 0x00 ∷ 0x03 ∷ 0x00 ∷ 0x01 ∷ 0x10 ∷ 0x01 ∷ 0x21 ∷ 0x12
    ∷ 0x21
    ∷ []

-- What unrolling writes, position by position: command, label, and offset in the fold.
pub mixed_written : written_by mixed
    ≡ written 0x10 0x09 0
    ∷ written 0x11 0x05 7 ∷ written 0x10 0x01 14 ∷ written 0x10 0x01 14 ∷ written 0x10 0x01 14 ∷ written 0x10 0x02 18
    ∷ written 0x11 0x05 7 ∷ written 0x10 0x01 14 ∷ written 0x10 0x01 14 ∷ written 0x10 0x01 14 ∷ written 0x10 0x02 18
    ∷ written 0x11 0x06 21 ∷ written 0x10 0x03 23
    ∷ []
unfolding writes tree_of
mixed_written = refl

pub twice_written : written_by twice
    ≡ written 0x11 0x05 5 ∷ written 0x10 0x01 12 ∷ written 0x10 0x01 12 ∷ written 0x10 0x01 12
    ∷ written 0x11 0x05 5 ∷ written 0x10 0x01 12 ∷ written 0x10 0x01 12 ∷ written 0x10 0x01 12
    ∷ []
unfolding writes tree_of
twice_written = refl

-- The whole index of each, and of the empty fold.
pub indexes : map index_of (mixed ∷ twice ∷ [] ∷ [])
    ≡ record { offsets = 0 ∷ 2 ∷ 21 ∷ []; before = 0 ∷ 1 ∷ 11 ∷ [] }
    ∷ record { offsets = 0 ∷ []; before = 0 ∷ [] }
    ∷ record { offsets = []; before = [] }
    ∷ []
unfolding sums tree_of nodes form_in
indexes = refl

-- What the builder answers for slices of so many entries.
pub data Built : Type 0 where
  build : (fold : List ℕ) (offsets before : ℕ) → Indexed → Built

unfoldable pub built : Built → Indexed
unfolding alone_in sums tree_of nodes form_in
built (build s a b r) = index_answer (fold_alone s) (index_of s) a b

abbrev pub expected_built : Built → Indexed
expected_built (build s a b r) = r

unfoldable pub builds : List Built
builds =
    build mixed 3 3 (indexed 0 0 3)
    ∷ build mixed 7 3 (indexed 0 0 3)
    ∷ build mixed 2 3 (indexed 14 0 0)
    ∷ build mixed 3 2 (indexed 14 0 0)
    ∷ build [] 0 0 (indexed 0 0 0)
    ∷ build (0x13 ∷ []) 0 0 (indexed 1 0 0)
    ∷ build (0x10 ∷ 0x07 ∷ 0x11 ∷ 0x05 ∷ []) 0 0 (indexed 3 4 0)
    -- Refusal 7 is skipped: a width of 1,025 is not the true one.
    ∷ build (0x20 ∷ 0x00 ∷ 0x02 ∷ 0x04 ∷ 0x01 ∷ 0x10 ∷ 0x07 ∷ 0x21 ∷ []) 1 1 (indexed 9 7 0)
    ∷ []

pub builds_hold : map built builds ≡ map expected_built builds
unfolding built builds
builds_hold = refl

-- What the finder answers, with the slices and the position.
pub data Sought : Type 0 where
  seek : (fold offsets before : List ℕ) (position : ℕ) → Found → Sought

unfoldable pub sought : Sought → Found
unfolding alone_in sums tree_of same writes nodes form_in
sought (seek s offsets before n r) = find_answer s offsets before n

abbrev pub expected_sought : Sought → Found
expected_sought (seek s offsets before n r) = r

-- A node: its command, its label and its offset.
abbrev pub a_node : (command label offset : ℕ) → Found
a_node c l p = record { refusal = 0; place = 0; label = l; command = c; offset = p }

-- In the mixed fold with its index.
abbrev pub in_mixed : (position : ℕ) → Found → Sought
in_mixed n r = seek mixed (0 ∷ 2 ∷ 21 ∷ []) (0 ∷ 1 ∷ 11 ∷ []) n r

-- Every position, the node total, and positions past it.
unfoldable pub positions : List Sought
positions =
    in_mixed 0 (a_node 0x10 0x09 0)
    ∷ in_mixed 1 (a_node 0x11 0x05 7)
    ∷ in_mixed 2 (a_node 0x10 0x01 14)
    ∷ in_mixed 3 (a_node 0x10 0x01 14)
    ∷ in_mixed 4 (a_node 0x10 0x01 14)
    ∷ in_mixed 5 (a_node 0x10 0x02 18)
    ∷ in_mixed 6 (a_node 0x11 0x05 7)
    ∷ in_mixed 7 (a_node 0x10 0x01 14)
    ∷ in_mixed 8 (a_node 0x10 0x01 14)
    ∷ in_mixed 9 (a_node 0x10 0x01 14)
    ∷ in_mixed 10 (a_node 0x10 0x02 18)
    ∷ in_mixed 11 (a_node 0x11 0x06 21)
    ∷ in_mixed 12 (a_node 0x10 0x03 23)
    ∷ in_mixed 13 (not_found 16 0)
    ∷ in_mixed 18446744073709551615 (not_found 16 0)
    ∷ seek [] [] [] 0 (not_found 16 0)
    ∷ []

pub positions_hold : map sought positions ≡ map expected_sought positions
unfolding sought positions
positions_hold = refl

-- Slices that are not the index: one entry short, one long, one number off, those of another fold. 17 comes before 16, and the
-- fold's own refusal before both.
unfoldable pub false_indexes : List Sought
false_indexes =
    seek mixed (0 ∷ 2 ∷ []) (0 ∷ 1 ∷ 11 ∷ []) 0 (not_found 17 0)
    ∷ seek mixed (0 ∷ 2 ∷ 21 ∷ []) (0 ∷ 1 ∷ []) 0 (not_found 17 0)
    ∷ seek mixed (0 ∷ 2 ∷ 21 ∷ 26 ∷ []) (0 ∷ 1 ∷ 11 ∷ []) 0 (not_found 17 0)
    ∷ seek mixed (0 ∷ 2 ∷ 21 ∷ []) (0 ∷ 1 ∷ 11 ∷ 13 ∷ []) 0 (not_found 17 0)
    ∷ seek mixed (0 ∷ 2 ∷ 22 ∷ []) (0 ∷ 1 ∷ 11 ∷ []) 0 (not_found 17 0)
    ∷ seek mixed (0 ∷ 2 ∷ 21 ∷ []) (0 ∷ 1 ∷ 10 ∷ []) 0 (not_found 17 0)
    ∷ seek mixed (0 ∷ []) (0 ∷ []) 0 (not_found 17 0)
    ∷ seek mixed [] [] 0 (not_found 17 0)
    ∷ seek mixed (0 ∷ 2 ∷ []) (0 ∷ 1 ∷ []) 13 (not_found 17 0)
    ∷ seek [] (0 ∷ []) (0 ∷ []) 0 (not_found 17 0)
    ∷ seek (0x13 ∷ []) (0 ∷ []) [] 5 (not_found 1 0)
    ∷ seek (0x20 ∷ 0x00 ∷ 0x02 ∷ 0x04 ∷ 0x01 ∷ 0x10 ∷ 0x07 ∷ 0x21 ∷ []) (0 ∷ []) (0 ∷ []) 0 (not_found 9 7)
    ∷ []

pub false_indexes_hold : map sought false_indexes ≡ map expected_sought false_indexes
unfolding sought false_indexes
false_indexes_hold = refl

-- What the builder leaves in offsets of 5 entries: the index in front and the rest as it was; after 14, since the other slice has
-- only 2 entries, all as it was.
pub slices_hold : map (λ (b : ℕ). index_output (fold_alone mixed) (index_of mixed) 5 b (index_of mixed).offsets (7 ∷ 7 ∷ 7 ∷ 7 ∷ 7 ∷ [])) (3 ∷ 2 ∷ [])
    ≡ (0 ∷ 2 ∷ 21 ∷ 7 ∷ 7 ∷ []) ∷ (7 ∷ 7 ∷ 7 ∷ 7 ∷ 7 ∷ []) ∷ []
unfolding alone_in sums tree_of nodes form_in
slices_hold = refl
