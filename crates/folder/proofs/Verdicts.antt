-- The folder's answer as a whole: what the run and the prices decide, what fold_run rests on, and what the slices then hold.
use mathlib.Core.Path.{◌≡◌, refl, sym, ap, ◌∙◌}
use mathlib.Core.Bool.{Bool, true, false, true≢false}
use mathlib.Core.List.{List}
use Prim.Native.Nat.{ℕ, ◌≤◌}
use native.Mathlib.Omega.{arith}
use lib.Dec.{ltb}
use lib.ListN.{length, take}
use borrow.Author.Tests.{ltb-false}
use Rattle.std.specs.Prelude.{Result, Ok, Err, IfOk, IfErr}
use Rattle.format.specs.Limits.{limits, Prices, Tariff, priced, allowed, cells}
use Rattle.format.specs.Order.{Bytes}
use Rattle.format.specs.Forest.{Forest, cost, form_in, bytes, at_most, Allowed}
use Rattle.format.specs.Machine.{Outcome, refused, accepted}
use Rattle.format.specs.Head.{full_head}
use Rattle.format.specs.Readings.{format_rules, as_run_reading, run_outcome}
use Rattle.format.specs.Tree.{tree_of}
use Rattle.format.specs.Family.{long_form}
use Rattle.format.specs.Numbers.{RunReading, Folded}
use Rattle.format.specs.Answers.{number, folded_said}
use Rattle.format.specs.declared.answers.Refusal.{Refusal}
use Rattle.format.specs.declared.answers.PricedFold.{PricedFold}
use Rattle.format.specs.declared.answers.Reason.TheVariants.{ShortOutput}
use Rattle.format.proofs.Marks.{sound_plain}
use Rattle.format.proofs.Family.{converted_form}
use Rattle.optimum.specs.Fewest.{preferred}
use Rattle.optimum.specs.Verdict.{Verdict, refuses, folds, verdict_in, verdict, folding_by}
use Rattle.optimum.specs.Demands.{CheapestWithin, CheapestOver, ShortOver, MinimumTree}
use Rattle.optimum.proofs.Demands.{format_bars_none, run_form, run_shape}
use Rattle.optimum.proofs.Verdicts.{Accepted, accepts, node_count_is, few, refused_as, Told, other, wrote, over, told}
use Rattle.table.specs.Listing.{Spelled}
use Rattle.folder.specs.Folding.{folding_in, folding, shortened, short_work, fold_answer, fold_output, fold_work}
use Rattle.folder.specs.inner.Run.{RunReady, RunFolded}

-- What an accepted run gives the table to rest on.
module _ (s : List ℕ) (k : ℕ) (T : Tariff) (r : RunReading) (admitted : r ≡ as_run_reading (run_outcome (full_head T k) s))
    (a : Accepted limits s k T r admitted) (small : Bytes s) where
  spelled : Spelled s
  spelled =
      let run = accepts limits s k T r admitted a in
      let h = run_shape limits s small a.tally a.text run in
      record {
        form = run_form limits s small a.tally a.text run;
        run = λ A. record {
          plain = h.plain refl;
          sound = sound_plain (at_most 0) A (tree_of s) (h.plain refl) h.sound;
        };
      }

  pub run_ready : (costs choices : List ℕ) → cells r.nodes ≤ length costs → cells r.nodes ≤ length choices → RunReady s r.nodes costs choices
  run_ready costs choices x y =
      record {
        spelled = spelled;
        all = node_count_is limits s k T r admitted a small;
        few = few limits s k T r admitted a small;
        cost_room = x;
        choice_room = y;
      }

-- Work that is not too short has its entries.
pub long_enough : (n costs choices : ℕ) → short_work n costs choices ≡ false → (cells n ≤ costs) × (cells n ≤ choices)
long_enough n costs choices e = by_tests (ltb costs (cells n)) (ltb choices (cells n)) refl refl e
  where
    by_tests : (a b : Bool) → ltb costs (cells n) ≡ a → ltb choices (cells n) ≡ b → short_work n costs choices ≡ false → (cells n ≤ costs) × (cells n ≤ choices)
    by_tests false false x y z = (ltb-false _ _ x, ltb-false _ _ y)
    by_tests false true x y z = absurd (true≢false (sym (rw (x, y)) ∙ z))
    by_tests true b x y z = absurd (true≢false (sym (rw x) ∙ z))

-- What the folder answers, writes and leaves in the work, at a verdict.
module _ (v : Verdict) (costs choices out : List ℕ) where
  abbrev pub Met : (costs' choices' out' : List ℕ) → Folded → Type 0
  Met costs' choices' out' r =
      (r ≡ fold_answer v (length costs) (length choices) (length out))
      × ((out' ≡ fold_output v (length costs) (length choices) out)
      × ((costs' ≡ fold_work v (length costs) (length choices) costs) × (choices' ≡ fold_work v (length costs) (length choices) choices)))

  pub met_refused : (n p : ℕ) → v ≡ refuses n p → (r : Folded) → r ≡ refused_as n p → Met costs choices out r
  met_refused n p e r q = (q ∙ rw e, (rw e, (rw e, rw e)))

  module _ (n : ℕ) (f : List ℕ) (c : ℕ) (e : v ≡ folds n f c) where
    pub met_short : short_work n (length costs) (length choices) ≡ true → (r : Folded) → r ≡ refused_as 13 0 → Met costs choices out r
    met_short x r q = (q ∙ rw (e, x), (rw (e, x), (rw (e, x), rw (e, x))))

  -- The run is folded.
  pub met_folded : (short : Bool) (run : List ℕ) (n : ℕ) (A : Allowed) (P : Prices)
      → v ≡ folds n (form_in short (preferred A P (tree_of run))) (cost P (preferred A P (tree_of run)))
      → short_work n (length costs) (length choices) ≡ false
      → (costs' choices' out' : List ℕ) (r : Folded) → RunFolded short run n A P costs costs' choices choices' out out' r
      → Met costs' choices' out' r
  met_folded short run n A P e long costs' choices' out' r folded = (
    folded.answered ∙ rw (e, long),
    (folded.written ∙ rw (e, long), (folded.costs_cleared ∙ rw (e, long), folded.choices_cleared ∙ rw (e, long))),
  )

-- THE SHORT FOLDER'S BYTES ARE THE SHORT FORM OF THE FOLDER'S, and all else is the same.
pub short_folding : (s : List ℕ) (k : ℕ) (T : Tariff) → folding_in true s k T ≡ shortened (folding s k T)
unfolding folding_by
short_folding s k T = by_outcome (run_outcome (full_head T k) s)
  where
    by_outcome : (o : Outcome) → verdict_in true (allowed k T.marks) (priced T) s o ≡ shortened (verdict (allowed k T.marks) (priced T) s o)
    by_outcome (refused n p) = refl
    by_outcome (accepted t x) = rw (converted_form true false (preferred (allowed k T.marks) (priced T) (tree_of s)))

-- What holds of each fold that is answered, and of an answer that the output is too short.
if_folded : (r : Result PricedFold Refusal) (Q : ℕ → ℕ → Type 0) → ((folded_said r).refusal ≡ 0 → Q (folded_said r).length (folded_said r).cost)
    → IfOk r (λ f. Q f.length f.cost)
if_folded (Ok f) Q h = h refl
if_folded (Err e) Q h = tt

if_short : (r : Result PricedFold Refusal) (Q : Type 0) → ((folded_said r).refusal ≡ 14 → Q) → IfErr r (λ e. e.reason ≡ ShortOutput → Q)
if_short (Ok f) Q h = tt
if_short (Err e) Q h = λ z. h (ap number z)

-- DEMAND 3 AND THE REPORT'S PROBLEM, of what the folder writes; and of the long form of what the short folder writes.
module _ (s : List ℕ) (small : Bytes s) (k : ℕ) (T : Tariff) (costs choices : ℕ) (out out' : List ℕ) (r : Result PricedFold Refusal) where
  abbrev said : Folded
  said = folded_said r

  -- The fold that a form gives of what is written, and what 14 says.
  abbrev Held : (List ℕ → List ℕ) → Type 0 → Type 0
  Held form Over =
      IfOk r (λ f. CheapestWithin s k (format_rules T) (form (take f.length out')) f.cost)
      × (IfOk r (λ f. MinimumTree s k T (form (take f.length out'))) × IfErr r (λ e. e.reason ≡ ShortOutput → Over))

  held : (form : List ℕ → List ℕ) (Over : Type 0)
      → (said.refusal ≡ 0 → CheapestWithin s k (format_rules T) (form (take said.length out')) said.cost × MinimumTree s k T (form (take said.length out')))
      → (said.refusal ≡ 14 → Over) → Held form Over
  held form Over a b = (
    if_folded r (λ n c. CheapestWithin s k (format_rules T) (form (take n out')) c) (λ z. (a z).0),
    (
      if_folded r (λ n c. MinimumTree s k T (form (take n out'))) (λ z. (a z).1),
      if_short r Over b,
    ),
  )

  pub fold_held : said ≡ fold_answer (folding s k T) costs choices (length out) → out' ≡ fold_output (folding s k T) costs choices out
      → Held (λ g. g) (CheapestOver (length out) s k (format_rules T))
  fold_held e f = by_told (told limits format_bars_none (λ n. short_work n costs choices) false s small k T out out' said e f)
    where
      by_told : Told limits format_bars_none (λ n. short_work n costs choices) false s small k T out out' said e f
          → Held (λ g. g) (CheapestOver (length out) s k (format_rules T))
      by_told (other x y) = held (λ g. g) _ (λ z. absurd (x z)) (λ z. absurd (y z))
      by_told (wrote n d g) = held (λ g. g) _ (λ z. (rw g d.0, rw g d.1)) (λ z. absurd (omega arith))
      by_told (over n c d l) =
          held (λ g. g) _ (λ z. absurd (omega arith)) (λ z. record { fold = _; cost = c; cheapest = d.0; longer = l })

  pub short_held : said ≡ fold_answer (folding_in true s k T) costs choices (length out) → out' ≡ fold_output (folding_in true s k T) costs choices out
      → Held long_form (ShortOver (length out) s k (format_rules T))
  short_held e f = by_told (told limits format_bars_none (λ n. short_work n costs choices) true s small k T out out' said e f)
    where
      fold : Forest
      fold = preferred (allowed k T.marks) (priced T) (tree_of s)

      by_told : Told limits format_bars_none (λ n. short_work n costs choices) true s small k T out out' said e f
          → Held long_form (ShortOver (length out) s k (format_rules T))
      by_told (other x y) = held long_form _ (λ z. absurd (x z)) (λ z. absurd (y z))
      by_told (wrote n d g) =
          let back = converted_form false true fold in
          held long_form _ (λ z. (rw (g, back) d.0, rw (g, back) d.1)) (λ z. absurd (omega arith))
      by_told (over n c d l) =
          let short = converted_form true false fold in
          held long_form _ (λ z. absurd (omega arith)) (λ z. record { fold = bytes fold; cost = c; cheapest = d.0; longer = rw short l })
