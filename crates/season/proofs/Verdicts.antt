-- The season folder's answer as a whole: what fold_run rests on, what the slices then hold, and demand 3 of what is written.
use mathlib.Core.Path.{◌≡◌, refl, sym, ap, ◌∙◌}
use mathlib.Core.Bool.{false}
use mathlib.Core.List.{List}
use Prim.Native.Nat.{ℕ, ◌<◌, ◌≤◌}
use native.Mathlib.Omega.{arith}
use lib.ListN.{length, get_or, take}
use borrow.Author.Tests.{lt-ltb, le-ltb}
use Rattle.format.specs.Limits.{season, Tariff, priced, allowed}
use Rattle.format.specs.Order.{Bytes}
use Rattle.format.specs.Forest.{Forest, end, step, group, repeat, cost, bytes, group_depth, Plain}
use Rattle.format.specs.Head.{full_head}
use Rattle.format.specs.Readings.{season_rules, as_run_reading, run_outcome_in}
use Rattle.format.specs.Tree.{tree_of}
use Rattle.std.specs.Prelude.{Result, Ok, Err, IfOk, IfErr}
use Rattle.format.specs.Answers.{number, folded_said}
use Rattle.format.specs.declared.answers.PricedFold.{PricedFold}
use Rattle.format.specs.declared.answers.Refusal.{Refusal}
use Rattle.format.specs.declared.answers.Reason.TheVariants.{ShortOutput}
use Rattle.format.specs.Numbers.{RunReading}
use Rattle.format.specs.Numbers.{Folded}
use Rattle.optimum.specs.Fewest.{counting, preferred}
use Rattle.optimum.specs.Verdict.{Verdict, refuses, folds}
use Rattle.optimum.specs.Demands.{CheapestWithin, CheapestOver, MinimumTreeIn}
use Rattle.optimum.proofs.Demands.{season_bars_none, run_form, run_shape}
use Rattle.optimum.proofs.Verdicts.{Accepted, accepts, narrow, node_count_is, few, refused_as, Told, other, wrote, over, told}
use Rattle.blocks.specs.Keys.{factor}
use Rattle.blocks.specs.Solved.{Flat}
use Rattle.blocks.proofs.Flats.{flat_nodes}
use Rattle.tails.specs.declared.rates.Rates.{Rates}
use Rattle.tails.specs.Solving.{RatesOf, FlatRun, FillReady, PricesAre}
use Rattle.season.specs.Folding.{season_folding, work_entries, too_short, season_answer, season_output, season_work}
use Rattle.season.specs.inner.Run.{RunFolded}

-- A run without groups is flat.
pub flat_of : (t : Forest) → Plain t → group_depth t ≤ 0 → Flat t
unfolding group_depth
flat_of end p g = tt
flat_of (step l f) p g = flat_of f p g
flat_of (group l b f) p g = absurd (omega arith)
flat_of (repeat h w b f) p g = absurd p

-- What an accepted run gives the blocks to rest on.
module _ (s : List ℕ) (k : ℕ) (T : Tariff) (r : RunReading) (admitted : r ≡ as_run_reading (run_outcome_in season (full_head T k) s))
    (a : Accepted season s k T r admitted) (small : Bytes s) where
  flat_run_of : FlatRun s r.nodes
  flat_run_of =
      let run = accepts season s k T r admitted a in
      let h = run_shape season s small a.tally a.text run in
      let z = flat_of (tree_of s) (h.plain refl) h.groups in
      let n = node_count_is season s k T r admitted a small in
      record {
        flat = z;
        stands = run_form season s small a.tally a.text run;
        all = sym (flat_nodes (tree_of s) z) ∙ n;
        few = omega (arith, few season s k T r admitted a small);
      }

  pub run_few : r.nodes < 65536
  run_few = flat_run_of.few

  pub fill_ready : (R : Rates) (work : List ℕ) → ((l : ℕ) → get_or T.steps l 0 < 65536)
      → work_entries r.nodes ≤ length work → FillReady s T.steps R k r.nodes work
  fill_ready R work low room =
      record {
        flat = flat_run_of;
        narrow = narrow season s k T r admitted a;
        low_steps = low;
        room = room;
      }

-- The rates are the prices that count repeats.
pub prices_are : (T : Tariff) (R : Rates) → RatesOf T.first T.each R → PricesAre T.steps R (counting factor (priced T))
prices_are T R q = record { first = q.first; each = q.each; of_step = λ l. refl }

-- What the season folder answers, writes and leaves in the work, at a verdict.
module _ (v : Verdict) (work out : List ℕ) where
  abbrev pub Met : (work' out' : List ℕ) → Folded → Type 0
  Met work' out' r =
      (r ≡ season_answer v (length work) (length out))
      × ((out' ≡ season_output v (length work) out) × (work' ≡ season_work v (length work) work))

  pub met_refused : (n p : ℕ) → v ≡ refuses n p → (r : Folded) → r ≡ refused_as n p → Met work out r
  met_refused n p e r q = (q ∙ rw e, (rw e, rw e))

  module _ (n : ℕ) (f : List ℕ) (c : ℕ) (e : v ≡ folds n f c) where
    pub met_short : length work < work_entries n → (r : Folded) → r ≡ refused_as 13 0 → Met work out r
    met_short l r q = let x = lt-ltb (length work) (work_entries n) l in (q ∙ rw (e, x), (rw (e, x), rw (e, x)))

  pub met_folded : (run : List ℕ) (k : ℕ) (T : Tariff) (R : Rates) (n : ℕ)
      → v ≡ folds n (bytes (preferred (allowed k T.marks) (priced T) (tree_of run))) (cost (priced T) (preferred (allowed k T.marks) (priced T) (tree_of run)))
      → work_entries n ≤ length work → RatesOf T.first T.each R → (work' out' : List ℕ) (r : Folded)
      → RunFolded run T.steps T.marks R k n work work' out out' r → Met work' out' r
  met_folded run k T R n e l q work' out' r f =
      let x = le-ltb (length work) (work_entries n) l in
      let p = prices_are T R q in
      (f.answered (priced T) p ∙ rw (e, x), (f.written (priced T) p ∙ rw (e, x), f.cleared ∙ rw (e, x)))

-- DEMAND 3 AND THE REPORT'S PROBLEM, of what the season folder writes.
module _ (s : List ℕ) (small : Bytes s) (k : ℕ) (T : Tariff) (work : ℕ) (out out' : List ℕ) (r : Result PricedFold Refusal) where
  abbrev said : Folded
  said = folded_said r

  -- What success and 14 are to say, of the answer as it is in numbers and as it is.
  abbrev Held : Type 0
  Held =
      IfOk r (λ f. CheapestWithin s k (season_rules T) (take f.length out') f.cost)
      × IfOk r (λ f. MinimumTreeIn season s k T (take f.length out'))
      × IfErr r (λ e. e.reason ≡ ShortOutput → CheapestOver (length out) s k (season_rules T))

  held : (said.refusal ≡ 0 → CheapestWithin s k (season_rules T) (take said.length out') said.cost × MinimumTreeIn season s k T (take said.length out'))
      → (said.refusal ≡ 14 → CheapestOver (length out) s k (season_rules T)) → Held
  held w o = by_answer r w o
    where
      by_answer : (q : Result PricedFold Refusal)
          → ((folded_said q).refusal ≡ 0 → CheapestWithin s k (season_rules T) (take (folded_said q).length out') (folded_said q).cost × MinimumTreeIn season s k T (take (folded_said q).length out'))
          → ((folded_said q).refusal ≡ 14 → CheapestOver (length out) s k (season_rules T))
          → IfOk q (λ f. CheapestWithin s k (season_rules T) (take f.length out') f.cost)
          × IfOk q (λ f. MinimumTreeIn season s k T (take f.length out'))
          × IfErr q (λ e. e.reason ≡ ShortOutput → CheapestOver (length out) s k (season_rules T))
      by_answer (Ok f) w o = ((w refl).0, (w refl).1, tt)
      by_answer (Err e) w o = (tt, tt, λ z. o (ap number z))

  pub season_held : said ≡ season_answer (season_folding s k T) work (length out) → out' ≡ season_output (season_folding s k T) work out → Held
  season_held e f = by_told (told season season_bars_none (too_short work) false s small k T out out' said e f)
    where
      by_told : Told season season_bars_none (too_short work) false s small k T out out' said e f → Held
      by_told (other x y) = held (λ z. absurd (x z)) (λ z. absurd (y z))
      by_told (wrote n d g) = held (λ z. (rw g d.0, rw g d.1)) (λ z. absurd (omega arith))
      by_told (over n c d l) = held (λ z. absurd (omega arith)) (λ z. record { fold = _; cost = c; cheapest = d.0; longer = l })
