-- The lengths of run and work are cited, since to count them takes long.
use Rattle.std.proofs.Common.{ℕ, sym}
use Rattle.std.proofs.Math.ListN.{length-replicate}
use Rattle.seasons.proofs.folded.thousand.Goals as goal

pub slice_bounds-thousand_in-end : goal.slice_bounds-thousand_in-end
slice_bounds-thousand_in-end g c = sym (length-replicate {A = ℕ} 2050 16)

pub slice_bounds-thousand_in-end-2 : goal.slice_bounds-thousand_in-end-2
slice_bounds-thousand_in-end-2 g c = sym (length-replicate {A = ℕ} 262660 0)
