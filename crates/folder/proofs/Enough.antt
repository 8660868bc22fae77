-- What is always enough to lend: the work that a run needs, and four bytes of output for each of its nodes.
use mathlib.Core.Path.{◌≡◌, refl}
use mathlib.Core.Bool.{Bool, true, false}
use mathlib.Core.List.{List}
use Prim.Native.Nat.{ℕ, ◌*◌, ◌≤◌}
use native.Mathlib.Omega.{arith}
use lib.ListN.{length}
use borrow.Author.Tests.{le-ltb}
use Rattle.format.specs.Limits.{limits, Tariff, priced, allowed, cells}
use Rattle.format.specs.Order.{Bytes}
use Rattle.format.specs.Forest.{form_in}
use Rattle.format.specs.Head.{full_head}
use Rattle.format.specs.Readings.{as_run_reading, run_outcome}
use Rattle.format.specs.Tree.{tree_of}
use Rattle.format.specs.Numbers.{RunReading}
use Rattle.optimum.specs.Fewest.{preferred}
use Rattle.optimum.proofs.Demands.{cheapest_room}
use Rattle.folder.specs.Folding.{folding_in, folding, shortened, fold_answer}
use Rattle.optimum.proofs.Verdicts.{accepted_run, accepts, verdict_folds}
use Rattle.folder.proofs.Verdicts.{short_folding}

-- What the folder's call makes of the run before it looks at work and output.
abbrev pub admission : (s : List ℕ) (k : ℕ) (T : Tariff) → RunReading
admission s k T = as_run_reading (run_outcome (full_head T k) s)

-- A run that is admitted is then folded, in either family, for neither 13 nor 14 is left.
pub enough_in : (short : Bool) (s : List ℕ) → Bytes s → (k : ℕ) (T : Tariff) → (admission s k T).refusal ≡ 0
    → (costs choices room : ℕ) → cells (admission s k T).nodes ≤ costs → cells (admission s k T).nodes ≤ choices
    → 4 * (admission s k T).nodes ≤ room
    → (fold_answer (folding_in short s k T) costs choices room).refusal ≡ 0
enough_in short s small k T z costs choices room x y o =
    let r = admission s k T in
    let a = accepted_run limits s k T r refl z in
    let n = r.nodes in
    let f = form_in short (preferred (allowed k T.marks) (priced T) (tree_of s)) in
    let few : length f ≤ room =
    omega (arith, cheapest_room limits s small a.tally a.text (accepts limits s k T r refl a) short (allowed k T.marks) (priced T), a.all) in
    rw (verdict_folds limits s k T r refl a short, le-ltb costs (cells n) x, le-ltb choices (cells n) y, le-ltb room (length f) few)

module _ (s : List ℕ) (small : Bytes s) (k : ℕ) (T : Tariff) (z : (admission s k T).refusal ≡ 0) (costs choices room : ℕ)
    (x : cells (admission s k T).nodes ≤ costs) (y : cells (admission s k T).nodes ≤ choices) (o : 4 * (admission s k T).nodes ≤ room) where
  pub lent_enough : (fold_answer (folding s k T) costs choices room).refusal ≡ 0
  lent_enough = enough_in false s small k T z costs choices room x y o

  pub short_lent_enough : (fold_answer (shortened (folding s k T)) costs choices room).refusal ≡ 0
  short_lent_enough = rw (← short_folding s k T) (enough_in true s small k T z costs choices room x y o)
