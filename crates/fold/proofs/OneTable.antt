-- The fold program prints what one table for the labels of steps and groups alike gives.
use mathlib.Core.Path.{◌≡◌, ap}
use mathlib.Core.List.{List}
use Prim.Native.Nat.{ℕ}
use lib.ListN.{replicate}
use Rattle.format.specs.Limits.{limits}
use Rattle.format.specs.Marks.{free_marks}
use Rattle.folder.specs.OneTable.{one_table_folding}
use Rattle.folder.proofs.OneTable.{equal_tables_folding}
use Rattle.fold.specs.Printed.{lines_of, printed}

pub printed_by_one_table : (run : List ℕ) → printed run ≡ lines_of (one_table_folding run limits.width (replicate 256 1) free_marks 1 0)
unfolding printed
printed_by_one_table run = ap lines_of (equal_tables_folding run limits.width (replicate 256 1) free_marks 1 0)
