-- All blocks of a run: that of the end, and one step more.
use mathlib.Core.Path.{◌≡◌, refl, sym, ap, ◌∙◌}
use mathlib.Core.Logic.{inr}
use mathlib.Core.List.{List}
use Prim.Native.Nat.{ℕ, zero, suc, ◌+◌, ◌*◌, ◌≤◌, ◌<◌}
use native.Mathlib.Decide.{ℕ_discrete}
use native.Mathlib.Omega.{arith}
use lib.ListN.{get_or, replicate}
use Rattle.format.specs.Limits.{Prices, allowed}
use Rattle.format.specs.Forest.{Forest, end, step, siblings}
use Rattle.format.specs.Tree.{tree_of}
use Rattle.optimum.specs.Cheapest.{front, node, best_cost}
use Rattle.optimum.proofs.Cut.{back_whole, siblings_back}
use Rattle.optimum.proofs.Powers.{reach}
use Rattle.optimum.proofs.Cheapest.{best_cost_step}
use Rattle.blocks.specs.Keys.{block, factor}
use Rattle.blocks.specs.Solved.{Solved, Modest}
use Rattle.blocks.proofs.Flats.{flat_run, flat_node}
use Rattle.tails.specs.declared.rates.Rates.{Rates}
use Rattle.tails.specs.Solving.{label_at, EndPut, Matching, RowReady, OwnCost, RowSolved, FillReady, PricesAre, FilledFrom, KeptPast}
use Rattle.tails.proofs.Rows.{best_end, solved_kept}

-- There are such prices.
abbrev pub some_prices : (steps : List ℕ) (R : Rates) → Prices
some_prices steps R = record { of_step = λ l. get_or steps l 0 * factor; of_group = λ l. 0; first = R.first; each = R.each }

pub prices_some : (steps : List ℕ) (R : Rates) → PricesAre steps R (some_prices steps R)
prices_some steps R = record { first = refl; each = refl; of_step = λ l. refl }

-- Nothing matches at the end.
pub none_match : (limit n : ℕ) (marks : List ℕ) (t : Forest) → siblings t ≡ n → Matching (allowed limit marks) t (replicate 33 0) n
none_match limit n marks t e =
    record {
      matched = λ w a b c. absurd (omega arith);
      none = λ w a b c. zeros 33 w;
    }
  where
    zeros : (k w : ℕ) → ◌≡◌ {A = ℕ} (get_or (replicate k 0) w 0) 0
    zeros zero w = refl
    zeros (suc k) zero = refl
    zeros (suc k) (suc w) = zeros k w

-- What a change leaves of what the blocks rest on, and what the end's block leaves.
pub ready_past : {run steps : List ℕ} {R : Rates} {limit n : ℕ} {W X : List ℕ} {e : ℕ} → KeptPast e W X → FillReady run steps R limit n W
    → FillReady run steps R limit n X
ready_past k z =
    record {
      flat = z.flat;
      narrow = z.narrow;
      low_steps = z.low_steps;
      room = omega (arith, z.room, k.same_length);
    }

pub end_kept : {W X : List ℕ} {n : ℕ} → EndPut W n X → KeptPast (block * (n + 1)) W X
end_kept p = record { same_length = p.touched.same_length; past = λ x l. p.touched.others x (inr (omega arith)) }

module _ (run steps marks : List ℕ) (R : Rates) (limit n : ℕ) where
  pub modest : {W : List ℕ} → FillReady run steps R limit n W → (P : Prices) → PricesAre steps R P → Modest (allowed limit marks) P (tree_of run)
  modest z P p =
      record {
        flat = z.flat.flat;
        few = omega (arith, z.flat.few, z.flat.all);
        narrow = z.narrow;
        low = λ l. omega (arith, p.of_step l, z.low_steps l);
      }

  -- At the end nothing is left.
  pub end_filled : {W X : List ℕ} → FillReady run steps R limit n W → EndPut W n X → FilledFrom run steps marks R limit n X
  unfolding front
  end_filled {W} {X} z p = record { solved = λ P q j a b. let e : j ≡ n = omega (arith, z.flat.all) in rw e (solved P q) }
    where
      solved : (P : Prices) → PricesAre steps R P → Solved (allowed limit marks) P (tree_of run) X n
      solved P q =
          let A = allowed limit marks in
          let t = tree_of run in
          let r = flat_run A t z.flat.flat in
          let e = back_whole n t r.plain z.flat.all in
          let b = best_end A P in
          record {
            stretch = λ d w f. let y : d ≡ 0 = omega (arith, z.flat.all) in rw (y, p.none.0, p.none.1) b;
            tail = rw (e, p.tail.0, p.tail.1) b;
            counts = λ w y. absurd (omega (arith, (reach y).some, (reach y).width, (reach y).covers, siblings_back n t r.plain (omega (arith, z.flat.all)), z.flat.all));
          }

  -- A step's own block.
  module _ {W M : List ℕ} {i : ℕ} (z : FillReady run steps R limit n W) (here : i < n) (m : Matching (allowed limit marks) (tree_of run) M i)
      (f : FilledFrom run steps marks R limit (i + 1) W) where
    unfoldable pub row_at : (P : Prices) → PricesAre steps R P → RowReady W M R limit n i
    row_at P p =
        record {
          allowed = allowed limit marks;
          prices = P;
          tree = tree_of run;
          modest = modest z P p;
          limited = refl;
          all = z.flat.all;
          here = here;
          first = p.first;
          each = p.each;
          matching = m;
          solved = f.solved P p;
          room = omega (arith, z.room, z.flat.all);
        }

    pub row_own : (P : Prices) (p : PricesAre steps R P) (own : ℕ) → own ≡ get_or steps (label_at run i) 0 * factor → OwnCost (row_at P p) own
    unfolding row_at
    row_own P p own e =
        let A = allowed limit marks in
        let l = label_at run i in
        let s : node i (tree_of run) ≡ step l end = flat_node i (tree_of run) z.flat.flat (omega (arith, z.flat.all)) ∙ rw z.flat.stands in
        e ∙ sym (p.of_step l) ∙ sym (best_cost_step A P l) ∙ ap (best_cost A P) (sym s)

    pub filled_more : {X : List ℕ} (own : ℕ) → own ≡ get_or steps (label_at run i) 0 * factor → RowSolved W M R limit n own i X → FilledFrom run steps marks R limit i X
    unfolding row_at
    filled_more {X} own e s = record { solved = λ P p j a b. by_place P p j a b (ℕ_discrete j i) }
      where
        by_place : (P : Prices) → PricesAre steps R P → (j : ℕ) → i ≤ j → j ≤ siblings (tree_of run) → Dec (j ≡ i) → Solved (allowed limit marks) P (tree_of run) X j
        by_place P p j a b (yes y) = rw y (s.solved (row_at P p) (row_own P p own e))
        by_place P p j a b (no y) =
            let l : i < j = at_least y in
            solved_kept i j (modest z P p) s.touched l (f.solved P p j (omega arith) b)
          where
            at_least : (j ≡ i → ⊥) → i < j
            at_least q = omega (arith, q)

    pub row_kept : {X : List ℕ} (own : ℕ) → RowSolved W M R limit n own i X → KeptPast (block * n) W X
    row_kept own s = record { same_length = s.touched.same_length; past = λ x l. s.touched.others x (inr (omega arith)) }

-- Changes one after the other; those of fewer entries are such of more.
pub kept_more : {e : ℕ} {W X Y : List ℕ} → KeptPast e W X → KeptPast e X Y → KeptPast e W Y
kept_more p q = record { same_length = q.same_length ∙ p.same_length; past = λ x l. q.past x l ∙ p.past x l }

pub kept_wider : {W X : List ℕ} (e f : ℕ) → e ≤ f → KeptPast e W X → KeptPast f W X
kept_wider e f l p = record { same_length = p.same_length; past = λ x a. p.past x (omega arith) }

pub kept_none : (e : ℕ) (W : List ℕ) → KeptPast e W W
kept_none e W = record { same_length = refl; past = λ x l. refl }
