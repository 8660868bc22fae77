-- The lengths of the runs and of the output are cited, since to count them takes long.
use Rattle.std.proofs.Common.{ℕ, sym}
use Rattle.std.proofs.Math.ListN.{length-replicate}
use Rattle.seasons.proofs.most_steps.Goals as goal

pub slice_bounds-most_steps-end : goal.slice_bounds-most_steps-end
slice_bounds-most_steps-end g c = sym (length-replicate {A = ℕ} 131070 16)

pub slice_bounds-most_steps-end-2 : goal.slice_bounds-most_steps-end-2
slice_bounds-most_steps-end-2 g c = sym (length-replicate {A = ℕ} 131072 16)

pub slice_bounds-most_steps-end-3 : goal.slice_bounds-most_steps-end-3
slice_bounds-most_steps-end-3 g c = sym (length-replicate {A = ℕ} 131072 0)

pub slice_bounds-refuse_run-end : goal.slice_bounds-refuse_run-end
slice_bounds-refuse_run-end g c = sym (length-replicate {A = ℕ} 131072 16)
