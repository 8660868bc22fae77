-- UP TO 1,024 STEPS THE SEASON FOLDER IS THE FOLDER: at the same limit and costs it folds the same runs to the same bytes at the
-- same cost. And what is always enough to lend to it.
use mathlib.Core.Path.{◌≡◌, refl, sym, ap, ◌∙◌}
use mathlib.Core.Bool.{false}
use mathlib.Core.List.{List}
use Prim.Native.Nat.{ℕ, ◌*◌, ◌≤◌}
use native.Mathlib.Omega.{arith}
use lib.ListN.{length}
use borrow.Author.Tests.{le-ltb}
use Rattle.format.specs.Limits.{limits, season, Tariff, priced, allowed}
use Rattle.format.specs.Order.{Bytes}
use Rattle.format.specs.Forest.{bytes}
use Rattle.format.specs.Machine.{Outcome, refused, accepted, read}
use Rattle.format.specs.Head.{full_head}
use Rattle.format.specs.Readings.{run_rules_in, as_run_reading, run_outcome_in}
use Rattle.format.specs.Tree.{tree_of}
use Rattle.format.specs.declared.kind.Limits.{Limits}
use Rattle.format.specs.declared.tally.Tally.{Tally}
use Rattle.format.specs.Numbers.{RunReading}
use Rattle.format.proofs.Heads.{headed_accepted, headed_narrow, headed_under}
use Rattle.format.proofs.SeasonRuns.{season_run_is_run, run_is_season_run}
use Rattle.optimum.specs.Fewest.{preferred}
use Rattle.optimum.specs.Verdict.{Verdict, refuses, folds, verdict, folding_by}
use Rattle.optimum.proofs.Demands.{run_form, run_shape, run_nodes, run_few, cheapest_room}
use Rattle.optimum.proofs.Verdicts.{accepted_run, accepts, verdict_folds}
use Rattle.blocks.proofs.Flats.{flat_nodes, flat_size}
use Rattle.season.specs.Folding.{season_folding, work_entries, season_answer}
use Rattle.season.proofs.Verdicts.{flat_of}

-- A verdict that folds is that of an accepted run.
nodes_of : Verdict → ℕ
nodes_of (refuses n p) = 0
nodes_of (folds n f c) = n

is_folds : Verdict → ℕ
is_folds (refuses n p) = 0
is_folds (folds n f c) = 1

module _ (s : List ℕ) (small : Bytes s) (k : ℕ) (T : Tariff) (n : ℕ) (f : List ℕ) (c : ℕ) where
  -- Within other limits that accept the run with the same counts, and its limit.
  same_verdict : (L M : Limits) → L.labels ≡ M.labels
      → ((t : Tally) (x : List ℕ) → read (run_rules_in L) s ≡ accepted t x → k ≤ L.width → n ≡ t.nodes → (k ≤ M.width) × (read (run_rules_in M) s ≡ accepted t x))
      → folding_by L false s k T ≡ folds n f c → folding_by M false s k T ≡ folds n f c
  unfolding folding_by run_outcome_in nodes_of is_folds
  same_verdict L M labels again e = by_outcome (run_outcome_in L (full_head T k) s) refl
    where
      by_outcome : (o : Outcome) → run_outcome_in L (full_head T k) s ≡ o → folding_by M false s k T ≡ folds n f c
      by_outcome (refused m p) q =
          let z : refuses m p ≡ folds n f c = sym (ap (verdict (allowed k T.marks) (priced T) s) q) ∙ e in
          absurd (omega (arith, ap is_folds z))
      by_outcome (accepted t x) q =
          let r = headed_accepted L (full_head T k) (read (run_rules_in L) s) t x q in
          let z : verdict (allowed k T.marks) (priced T) s (accepted t x) ≡ folds n f c = sym (ap (verdict (allowed k T.marks) (priced T) s) q) ∙ e in
          let a = again t x r (headed_narrow L (full_head T k) (read (run_rules_in L) s) t x q) (sym (ap nodes_of z)) in
          let m = headed_under L M (full_head T k) (read (run_rules_in L) s) (read (run_rules_in M) s) t x labels a.0 q a.1 in
          ap (verdict (allowed k T.marks) (priced T) s) m ∙ z

  pub season_as_folder : n ≤ limits.nodes → season_folding s k T ≡ folds n f c → folding_by limits false s k T ≡ folds n f c
  season_as_folder few =
      same_verdict season limits refl (λ t x e narrow m. (omega arith, season_run_is_run s small t x e (omega arith)))

  -- And back, for a run without groups at a limit of at most 32.
  pub folder_as_season : k ≤ season.width → ((t : Tally) (x : List ℕ) → read (run_rules_in limits) s ≡ accepted t x → t.depth ≡ 0)
      → folding_by limits false s k T ≡ folds n f c → season_folding s k T ≡ folds n f c
  folder_as_season narrow flat = same_verdict limits season refl (λ t x e wide m. (narrow, run_is_season_run s small t x e (flat t x e)))

-- An accepted season run has two bytes for each step, so at most 131,070.
pub season_size : (s : List ℕ) → Bytes s → (t : Tally) (x : List ℕ) → read (run_rules_in season) s ≡ accepted t x
    → (length s ≡ 2 * t.nodes) × (length s ≤ 131070)
season_size s small t x e =
    let h = run_shape season s small t x e in
    let z = flat_of (tree_of s) (h.plain refl) h.groups in
    let all : length s ≡ 2 * t.nodes =
    omega (
      arith,
      ap length (run_form season s small t x e),
      flat_size (tree_of s) z,
      flat_nodes (tree_of s) z,
      run_nodes season s small t x e,
    ) in
    (all, omega (arith, run_few season s small t x e))

-- What the season folder's call makes of the run before it looks at work and output.
abbrev pub admission : (s : List ℕ) (k : ℕ) (T : Tariff) → RunReading
admission s k T = as_run_reading (run_outcome_in season (full_head T k) s)

-- A run that is admitted is then folded, for neither 13 nor 14 is left: 256 entries for each step and the end, four bytes for
-- each step.
pub season_lent_enough : (s : List ℕ) → Bytes s → (k : ℕ) (T : Tariff) → (admission s k T).refusal ≡ 0 → (work room : ℕ)
    → work_entries (admission s k T).nodes ≤ work → 4 * (admission s k T).nodes ≤ room
    → (season_answer (season_folding s k T) work room).refusal ≡ 0
season_lent_enough s small k T z work room x o =
    let r = admission s k T in
    let a = accepted_run season s k T r refl z in
    let f = bytes (preferred (allowed k T.marks) (priced T) (tree_of s)) in
    let few : length f ≤ room =
    omega (arith, cheapest_room season s small a.tally a.text (accepts season s k T r refl a) false (allowed k T.marks) (priced T), a.all) in
    rw (verdict_folds season s k T r refl a false, le-ltb work (work_entries r.nodes) x, le-ltb room (length f) few)
