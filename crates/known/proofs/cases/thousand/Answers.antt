-- The lengths of the work slices are cited, since to count them takes long.
use Rattle.std.proofs.Common.{ℕ, sym}
use Rattle.std.proofs.Math.ListN.{length-replicate}
use Rattle.known.proofs.cases.thousand.Goals as goal

pub slice_bounds-thousand_in-end : goal.slice_bounds-thousand_in-end
slice_bounds-thousand_in-end g c = sym (length-replicate {A = ℕ} 524810 0)

pub slice_bounds-thousand_in-end-2 : goal.slice_bounds-thousand_in-end-2
slice_bounds-thousand_in-end-2 g c = sym (length-replicate {A = ℕ} 524810 0)
