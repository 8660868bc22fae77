-- What the finder answers, and what its answer says of the run and of the fold.
use Rattle.std.specs.Prelude.{◌≡◌, Bool, true, false, List, ℕ}
use Rattle.std.proofs.Math.Option.{Option, none, some}
use Rattle.std.proofs.Math.ListN.{get_elem?}
use Rattle.format.specs.Limits.{limits, at_most}
use Rattle.format.specs.Machine.{Outcome, refused, accepted}
use Rattle.format.specs.Readings.{fold_alone}
use Rattle.format.specs.Meaning.{Means}
use Rattle.index.specs.Nodes.{Written, written, StandsIn, nodes_of, written_by}
use Rattle.index.specs.Index.{index_of, is_index}
use Rattle.index.specs.Numbers.{Found}

-- A refusal, all values 0.
abbrev pub not_found : (refusal place : ℕ) → Found
not_found n p = record { refusal = n; place = p; label = 0; command = 0; offset = 0 }

-- The answer, for what the fold reads as, whether the lent slices are its index, and what unrolling writes at the position: the
-- fold's own refusal; 17 for another index; 16 where nothing is written there; or the node.
abbrev pub finding : Outcome → (indexed : Bool) → Option Written → Found
finding (refused n p) i w = not_found n p
finding (accepted t x) false w = not_found 17 0
finding (accepted t x) true none = not_found 16 0
finding (accepted t x) true (some w) =
    record { refusal = 0; place = 0; label = w.node.label; command = w.node.command; offset = w.offset }

abbrev pub find_answer : (fold offsets before : List ℕ) → (position : ℕ) → Found
find_answer s offsets before n = finding (fold_alone s) (is_index (index_of s) offsets before) (get_elem? (written_by s) n)

-- The answer is right by the run and by the fold: the fold means a run, in which a node of that command and that label stands
-- at the position, in the order of its bytes; and in the fold that command starts at the offset, with that label.
pub record AtPosition (s : List ℕ) (position : ℕ) (r : Found) : Type 0 where
  pub run : List ℕ
  pub means : Means (at_most limits.width) s run
  pub node : get_elem? (nodes_of run) position ≡ some (record { command = r.command; label = r.label })
  pub stands : StandsIn s (written r.command r.label r.offset)
