-- The fold program prints what it printed before labels could be marked.
use mathlib.Core.Path.{◌≡◌, ap}
use mathlib.Core.List.{List}
use Prim.Native.Nat.{ℕ}
use lib.ListN.{replicate}
use Rattle.format.specs.Limits.{limits}
use Rattle.folder.specs.FreeMarks.{unmarked_folding}
use Rattle.folder.proofs.Marks.{free_folding}
use Rattle.fold.specs.Printed.{lines_of, printed}

pub printed_unmarked : (run : List ℕ) → printed run ≡ lines_of (unmarked_folding run limits.width (replicate 256 1) (replicate 256 1) 1 0)
unfolding printed
printed_unmarked run = ap lines_of (free_folding run limits.width (replicate 256 1) (replicate 256 1) 1 0)
