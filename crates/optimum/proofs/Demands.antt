-- The preferred fold of an accepted run's tree, as bytes, against any bytes: demands 2 and 3, of the format and of season runs.
use mathlib.Core.Path.{◌≡◌, refl, sym, ap, subst, ◌∙◌}
use mathlib.Core.List.{List}
use Prim.Native.Nat.{ℕ, zero, suc, ◌*◌, ◌≤◌, ◌<◌}
use native.Mathlib.Nat.{mul-le-mul_left}
use mathlib.Core.Bool.{Bool, false≢true}
use native.Mathlib.Omega.{arith}
use lib.ListN.{length}
use Rattle.format.specs.Limits.{limits, season, Prices, Tariff, priced, allowed}
use Rattle.format.specs.Order.{Bytes}
use Rattle.format.specs.Forest.{Forest, end, step, group, repeat, join, copies, unroll, nodes, cost, form_in, bytes, Allowed, at_most, Sound, Coded, group_depth, repeat_depth, widest_of}
use Rattle.format.specs.Machine.{accepted, read}
use Rattle.format.specs.Readings.{run_rules_in, fold_rules_in, rules_by, season_rules}
use Rattle.format.specs.Shape.{Shaped, Reads, tally_of}
use Rattle.format.specs.Tree.{tree_of}
use Rattle.format.specs.declared.kind.Limits.{Limits}
use Rattle.format.specs.declared.tally.Tally.{Tally}
use Rattle.format.proofs.Forests.{nodes_unroll, group_depth_join, coded_bytes}
use Rattle.format.proofs.Bridge.{accepts, parses, sound_widest, sound_within}
use Rattle.format.proofs.Marks.{sound_plain}
use Rattle.format.proofs.Depth.{depth_fits, season_depth_fits, siblings_nodes}
use Rattle.format.proofs.Tree.{tree_of_bytes, bytes_injective}
use Rattle.optimum.specs.Optimal.{FoldOf}
use Rattle.optimum.specs.Cheapest.{Run}
use Rattle.optimum.specs.Fewest.{repeats_in, ComesFirst, fewer, as_many, Leads, by_cost, by_repeats, itself, by_bytes, Preferred, preferred}
use Rattle.optimum.specs.Demands.{FoldWithin, CheapestWithin}
use Rattle.optimum.proofs.Fewest.{repeats_bytes, leads_cost, preferred_first, preferred_short}

-- What a joined sequence has, its parts have.
pub coded_parts : (f g : Forest) → Coded (join f g) → Coded f × Coded g
unfolding join
coded_parts end g c = (tt, c)
coded_parts (step l f) g c = let k = coded_parts f g c.1 in ((c.0, k.0), k.1)
coded_parts (group l b f) g c = let k = coded_parts f g c.2 in ((c.0, c.1, k.0), k.1)
coded_parts (repeat h w b f) g c = let k = coded_parts f g c.3 in ((c.0, c.1, c.2, k.0), k.1)

-- The fold of a coded run of few nodes is coded: its labels are the run's, its counts and widths at most the nodes.
coded_fold : (A : Allowed) (f : Forest) → Sound A f → nodes f < 65536 → Coded (unroll f) → Coded f
unfolding unroll copies nodes
coded_fold A end s n c = tt
coded_fold A (step l f) s n c = (c.0, coded_fold A f s (omega arith) c.1)
coded_fold A (group l b f) s n c = (c.0, coded_fold A b s.1 (omega arith) c.1, coded_fold A f s.2 (omega arith) c.2)
coded_fold A (repeat (suc h) w b f) s n c =
    let k = coded_parts (copies (suc h) (unroll b)) (unroll f) c in
    let j = coded_parts (unroll b) (copies h (unroll b)) k.0 in
    let r = s.0 in
    let one : 1 ≤ nodes b = omega (arith, siblings_nodes b, r.some) in
    let p : suc h ≤ suc h * nodes b = omega (arith, mul-le-mul_left (suc h) one) in
    let q : nodes b ≤ suc h * nodes b = omega arith in
    (omega arith, omega (arith, siblings_nodes b, r.true_width), coded_fold A b s.1 (omega arith) j.0, coded_fold A f s.2 (omega arith) k.1)
coded_fold A (repeat zero w b f) s n c = absurd (omega (arith, s.0.twice))

-- A sound fold opens no more groups inside each other than its run.
depth_fold : (A : Allowed) (f : Forest) → Sound A f → group_depth f ≤ group_depth (unroll f)
unfolding unroll copies group_depth
depth_fold A end s = omega arith
depth_fold A (step l f) s = depth_fold A f s
depth_fold A (group l b f) s = omega (arith, depth_fold A b s.1, depth_fold A f s.2)
depth_fold A (repeat zero w b f) s = absurd (omega (arith, s.0.twice))
depth_fold A (repeat (suc h) w b f) s =
    omega (arith, group_depth_join (copies (suc h) (unroll b)) (unroll f), group_depth_join (unroll b) (copies h (unroll b)), depth_fold A b s.1, depth_fold A f s.2)

-- Limits within which every sound fold of a run fits that fits the width limit: numbers of 16 bits hold its counts and widths, and
-- no such fold has more repeats inside each other than may be open.
pub record BarsNone (L : Limits) : Type 0 where
  pub few : L.nodes < 65536
  pub repeats : (A : Allowed) (f : Forest) → Sound A f → A.widest ≤ L.width → nodes f ≤ L.nodes → group_depth f ≤ L.groups
      → repeat_depth f ≤ L.repeats

pub format_bars_none : BarsNone limits
format_bars_none = record { few = omega arith; repeats = λ A f sound narrow n g. depth_fits A f sound n }

pub season_bars_none : BarsNone season
season_bars_none = record { few = omega arith; repeats = λ A f sound narrow n g. season_depth_fits A f sound narrow (omega arith) }

-- What a fold of an accepted run has of the run.
module _ {L : Limits} (A : Allowed) (u f : Forest) (s : Shaped (run_rules_in L) u) (o : FoldOf A u f) where
  fold_nodes : nodes f ≤ L.nodes
  fold_nodes = omega (arith, nodes_unroll f, ap nodes o.unrolls, s.total)

  fold_coded : L.nodes < 65536 → Coded f
  fold_coded few =
      let c : Coded (unroll f) = rw o.unrolls s.coded in
      coded_fold A f o.sound (omega (arith, fold_nodes)) c

-- A fold of an accepted run is of the right shape for the fold reader at any limit that its widths are within.
pub fold_shaped : {L : Limits} → BarsNone L → (A : Allowed) → A.widest ≤ L.width → (P : Prices) (u f : Forest) → Shaped (run_rules_in L) u
    → FoldOf A u f → Shaped (fold_rules_in L A P) f
fold_shaped none A narrow P u f s o =
    let n = fold_nodes A u f s o in
    let g = depth_fold A f o.sound in
    let e = ap group_depth o.unrolls in
    record {
      coded = fold_coded A u f s o none.few;
      sound = o.sound;
      plain = λ z. absurd (false≢true (sym z));
      groups = omega (arith, s.groups);
      repeats = none.repeats A f o.sound narrow n (omega (arith, s.groups));
      total = n;
    }

-- Bytes that are a fold of the run within the limit are the byte form of a fold of its tree.
module _ (L : Limits) (k : ℕ) (T : Tariff) (u : Forest) (g : List ℕ) (c : ℕ) (small : Bytes g) (w : FoldWithin (bytes u) k (rules_by L T) g c) where
  pub form : Reads (rules_by L T) g w.formed.tally (bytes u)
  form =
      let r = w.formed in
      parses (rules_by L T) g small r.tally (bytes u) (rw w.unrolls at r.reading)

  pub tree_fold : FoldOf (allowed k T.marks) u form.tree
  tree_fold =
      let f = form.tree in
      let e : tree_of g ≡ f = ap tree_of (sym form.form) ∙ tree_of_bytes f in
      let n : widest_of f ≤ k = rw e at w.within in
      record {
        sound = sound_within (allowed L.width T.marks) (allowed k T.marks) (λ b z. z) f n form.shape.sound;
        unrolls = bytes_injective (unroll f) u form.text;
      }

  pub tree_cost : cost (priced T) form.tree ≡ c
  unfolding tally_of
  tree_cost = ap (λ (t : Tally). t.cost) form.counts ∙ w.costs

-- A run is one whatever repeats are allowed.
pub shaped_run : {L : Limits} (A : Allowed) (u : Forest) → Shaped (run_rules_in L) u → Run A u
shaped_run A u run =
    let p = run.plain refl in
    record { plain = p; sound = sound_plain (at_most 0) A u p run.sound }

-- The preferred fold of a run's tree is the cheapest of all bytes.
module _ (L : Limits) (none : BarsNone L) (k : ℕ) (narrow : k ≤ L.width) (T : Tariff) (u : Forest) (run : Shaped (run_rules_in L) u) where
  abbrev A : Allowed
  A = allowed k T.marks

  abbrev P : Prices
  P = priced T

  best : Preferred A P u (preferred A P u)
  best = preferred_first A P u (shaped_run A u run)

  -- The byte form of any fold of the tree is a fold of the run within the limit.
  pub is_fold : (f : Forest) → FoldOf A u f → FoldWithin (bytes u) k (rules_by L T) (bytes f) (cost P f)
  unfolding tally_of
  is_fold f o =
      let widest : Allowed = allowed L.width T.marks in
      let wide : FoldOf widest u f =
      record { sound = sound_within A widest (λ b z. z) f (omega (arith, sound_widest A f o.sound)) o.sound; unrolls = o.unrolls } in
      record {
        formed = record {
          tally = tally_of P f;
          text = bytes (unroll f);
          reading = accepts (rules_by L T) f (fold_shaped none widest (omega arith) P u f run wide);
        };
        unrolls = ap bytes o.unrolls;
        within = rw tree_of_bytes (sound_widest A f o.sound);
        costs = refl;
      }

  against : (g : List ℕ) (c : ℕ) (z : Bytes g) (w : FoldWithin (bytes u) k (rules_by L T) g c) → Leads P (preferred A P u) (form L k T u g c z w).tree
  against g c z w = best.leads (form L k T u g c z w).tree (tree_fold L k T u g c z w)

  before : {f : Forest} (g : List ℕ) → bytes f ≡ g → (g ≡ bytes (preferred A P u) → ⊥) → cost P f ≡ cost P (preferred A P u) → Leads P (preferred A P u) f
      → ComesFirst (bytes (preferred A P u)) g
  before g m n e (by_cost l) = absurd (omega arith)
  before {f} g m n e (by_repeats l r) = fewer (omega (arith, r, repeats_bytes (preferred A P u), repeats_bytes f, ap repeats_in m))
  before g m n e (itself q) = absurd (n (sym m ∙ ap bytes (sym q)))
  before {f} g m n e (by_bytes l r b) = as_many (omega (arith, r, repeats_bytes (preferred A P u), repeats_bytes f, ap repeats_in m)) (rw m at b)

  pub cheapest_within : CheapestWithin (bytes u) k (rules_by L T) (bytes (preferred A P u)) (cost P (preferred A P u))
  cheapest_within =
      record {
        fold = is_fold (preferred A P u) best.fold;
        no_cheaper = λ g c z w. omega (arith, tree_cost L k T u g c z w, leads_cost (against g c z w));
        first = λ g c z w e n. before g (form L k T u g c z w).form n (tree_cost L k T u g c z w ∙ e) (against g c z w);
      }

-- The tree of an accepted run.
module _ (L : Limits) (s : List ℕ) (small : Bytes s) (t : Tally) (x : List ℕ) (run : read (run_rules_in L) s ≡ accepted t x) where
  spelled : Reads (run_rules_in L) s t x
  spelled = parses (run_rules_in L) s small t x run

  tree_is : tree_of s ≡ spelled.tree
  tree_is = ap tree_of (sym spelled.form) ∙ tree_of_bytes spelled.tree

  pub run_form : bytes (tree_of s) ≡ s
  run_form = ap bytes tree_is ∙ spelled.form

  pub run_shape : Shaped (run_rules_in L) (tree_of s)
  run_shape = rw tree_is spelled.shape

  pub run_nodes : t.nodes ≡ nodes (tree_of s)
  unfolding tally_of
  run_nodes = ap (λ (y : Tally). y.nodes) (sym spelled.counts) ∙ ap nodes (sym tree_is)

  -- Its preferred fold has at most four bytes for each node, in either family.
  pub cheapest_room : (short : Bool) (A : Allowed) (P : Prices) → length (form_in short (preferred A P (tree_of s))) ≤ 4 * t.nodes
  cheapest_room short A P = omega (arith, run_nodes, preferred_short A P (tree_of s) (shaped_run A (tree_of s) run_shape) short)

  -- A run has few nodes.
  pub run_few : t.nodes ≤ L.nodes
  run_few = omega (arith, run_nodes, run_shape.total)

  module _ (none : BarsNone L) where
    -- The byte form of the preferred fold is bytes.
    pub cheapest_small : (A : Allowed) (P : Prices) → Bytes (bytes (preferred A P (tree_of s)))
    cheapest_small A P =
        let f = preferred A P (tree_of s) in
        coded_bytes f (fold_coded A (tree_of s) f run_shape (preferred_first A P (tree_of s) (shaped_run A (tree_of s) run_shape)).fold none.few)

    -- DEMANDS 2 AND 3: the preferred fold of the tree of an accepted run is the cheapest of all bytes.
    pub cheapest_bytes : (k : ℕ) → k ≤ L.width → (T : Tariff) → (let f = preferred (allowed k T.marks) (priced T) (tree_of s) in
        CheapestWithin s k (rules_by L T) (bytes f) (cost (priced T) f))
    cheapest_bytes k narrow T =
        let f = preferred (allowed k T.marks) (priced T) (tree_of s) in
        subst (λ (r : List ℕ). CheapestWithin r k (rules_by L T) (bytes f) (cost (priced T) f)) run_form (cheapest_within L none k narrow T (tree_of s) run_shape)

-- DEMANDS 2 AND 3 OF SEASON RUNS: ten open repeats and a width limit of at most 32 leave the preferred fold the cheapest of all
-- season folds.
pub season_cheapest : (s : List ℕ) → Bytes s → (t : Tally) (x : List ℕ) → read (run_rules_in season) s ≡ accepted t x
    → (k : ℕ) → k ≤ season.width → (T : Tariff) → (let f = preferred (allowed k T.marks) (priced T) (tree_of s) in
    CheapestWithin s k (season_rules T) (bytes f) (cost (priced T) f))
season_cheapest s small t x run k narrow T = cheapest_bytes season s small t x run season_bars_none k narrow T
