-- Filling a level: what a row is solved from, what one more row enters, and the end of the last.
use mathlib.Core.Path.{◌≡◌, refl, ◌∙◌}
use mathlib.Core.List.{List}
use Prim.Native.Nat.{ℕ, ◌+◌, ◌-◌, ◌<◌, ◌≤◌}
use native.Mathlib.Omega.{arith}
use lib.ListN.{length, get_or, set}
use lib.Seq.{get_or-set_same, get_or-set_other}
use Rattle.format.specs.Forest.{siblings, nodes, at_most}
use Rattle.format.specs.Tree.{tree_of}
use Rattle.optimum.specs.Cheapest.{Run, back}
use Rattle.optimum.proofs.Cut.{siblings_le_nodes, siblings_back}
use Rattle.format.specs.Limits.{cells, allowed}
use Rattle.solver.specs.Rows.{Matches, Growing, Drawn, RowHeld, RowReady, RowEntered}
use Rattle.solver.proofs.Extents.{extending_more}
use Rattle.filling.specs.Filling.{Below, Filled, counted_of, Single, LevelReady}
use Rattle.table.specs.Table.{Kept, KeptOthers, Falling, Stored}
use Rattle.table.specs.Listing.{Numbered, Classed}
use Rattle.solver.specs.declared.row.Row.{Row}
use Rattle.solver.specs.declared.matches.Source.{Source}
use Rattle.filling.proofs.Steps.{Known, known_none, tailing_more, stopping_more}
use Rattle.filling.proofs.Entries.{stored_entered, stored_kept, entered_used, kept_others_none, kept_others_then, kept_of_others, below_others}
use Rattle.table.proofs.Tables.{number_last, falling_numbered}

-- No more siblings than nodes.
pub siblings_few : {s : List ℕ} {b limit : ℕ} {steps groups prices costs choices : List ℕ} → LevelReady s b limit steps groups prices costs choices
    → siblings (tree_of s) ≤ 1024
siblings_few {s} {limit = limit} ready =
    omega (arith, siblings_le_nodes (tree_of s) (ready.spelled.run (at_most limit)).plain, ready.total)

-- The loop from the last sibling to the first: what is known of the rows from sibling i on, and the matches from there on.
pub record Descended (s : List ℕ) (b limit : ℕ) (steps groups marks prices costs₀ choices₀ : List ℕ) (i : ℕ) (costs choices matches extents tails stops : List ℕ) : Type 0 where
  pub known : Known (allowed limit marks) (counted_of steps groups prices) b (tree_of s) i extents tails stops costs choices
  pub kept_costs : KeptOthers b (tree_of s) costs₀ costs
  pub kept_choices : KeptOthers b (tree_of s) choices₀ choices
  pub matched : Matches (allowed limit marks).marked (back i (tree_of s)) matches
  pub low : (w : ℕ) → 0 < w → i + w ≤ siblings (tree_of s) → get_or matches w 0 + i ≤ 1024

module _ {s : List ℕ} {b limit : ℕ} {steps groups prices costs₀ choices₀ : List ℕ} (marks : List ℕ) (ready : LevelReady s b limit steps groups prices costs₀ choices₀) where
  run : Run (allowed limit marks) (tree_of s)
  run = ready.spelled.run (allowed limit marks)

  -- Past the last sibling nothing is left to enter or to match.
  pub descended_none : (m : ℕ) (matches extents tails stops : List ℕ) → m ≡ siblings (tree_of s) → length extents ≡ 1025 → length tails ≡ 1025
      → Descended s b limit steps groups marks prices costs₀ choices₀ m costs₀ choices₀ matches (set extents m 0) (set tails m 0) stops
  descended_none m matches extents tails stops e le lt =
      let few = siblings_few ready in
      record {
        known = known_none _ _ _ _ run m e extents tails stops costs₀ choices₀ (omega arith) (omega arith);
        kept_costs = kept_others_none _ _ _;
        kept_choices = kept_others_none _ _ _;
        matched = record { matched = λ w p q. absurd (omega (arith, siblings_back m (tree_of s) run.plain (omega arith))) };
        low = λ w p q. absurd (omega arith);
      }

  -- The rows entered are solved within the lists.
  pub extent_few : {i : ℕ} {costs choices matches extents tails stops : List ℕ} → i ≤ siblings (tree_of s)
      → Descended s b limit steps groups marks prices costs₀ choices₀ i costs choices matches extents tails stops → get_or extents i 0 ≤ 1024
  extent_few {i} h d = omega (arith, siblings_few ready, d.known.extending.within i (omega arith) h)

  -- The next row, of sibling j: what it is solved from, and what it leaves.
  module _ {m i : ℕ} (j : ℕ) {costs choices matches extents tails stops numbers : List ℕ} (all : siblings (tree_of s) ≡ m) (next : j + 1 ≡ i) (near : i ≤ m)
      (long : length numbers ≡ 1025) (numbered : Numbered b (tree_of s) numbers)
      (d : Descended s b limit steps groups marks prices costs₀ choices₀ i costs choices matches extents tails stops) where
    last : get_or numbers (siblings (tree_of s)) 0 ≡ b
    last = numbered.numbered (siblings (tree_of s)) (omega arith) ∙ number_last b (tree_of s) run.plain

    falling : {before after : List ℕ} → cells (b + nodes (tree_of s)) ≤ length before → KeptOthers b (tree_of s) before after
        → Falling numbers m (length after)
    falling room kept =
        falling_numbered (allowed limit marks) b (tree_of s) numbers _ m numbered.numbered run ready.total (rw kept.same_length room) long
        (siblings_few ready) (omega arith)

    row_kept : {f : ℕ → ℕ} {before after : List ℕ} → Stored numbers j (m - j) f before after → KeptOthers b (tree_of s) before after
    row_kept {f} {before} {after} =
        stored_kept (allowed limit marks) b (tree_of s) numbers j (m - j) run (omega arith) numbered.numbered f before after

    -- What cost and repeats of that sibling by itself rest on.
    pub own_asks : ((j < siblings (tree_of s)) × (siblings (tree_of s) ≤ 1024))
        × (Falling numbers (siblings (tree_of s)) (length costs) × Falling numbers (siblings (tree_of s)) (length choices))
        × Numbered (get_or numbers (siblings (tree_of s)) 0) (tree_of s) numbers
    own_asks = (
      (omega arith, siblings_few ready),
      (rw all (falling ready.cost_room d.kept_costs), rw all (falling ready.choice_room d.kept_choices)),
      rw last numbered,
    )

    module _ {own : ℕ} {kinds matches' : List ℕ} (g : Source) (single : Single s steps groups costs choices numbers j own)
        (below : Below (allowed limit marks) (counted_of steps groups prices) b (tree_of s) costs₀ choices₀) (classed : Classed (allowed limit marks).marked (tree_of s) m kinds)
        (grown : Growing kinds j m matches matches') (drawn : Drawn extents j m matches' g) where
      abbrev row : Row
      row = record { at = j; end = m; limit = limit; own = own; shift = g.shift; span = g.span; extent = g.extent }

      matched_again : Matches (allowed limit marks).marked (back j (tree_of s)) matches'
      matched_again = grown.matches (allowed limit marks) (tree_of s) run all classed (rw next d.matched)

      known_next : Known (allowed limit marks) (counted_of steps groups prices) b (tree_of s) (j + 1) extents tails stops costs choices
      known_next = rw next d.known

      row_ready : RowReady costs choices numbers row prices matches' tails stops
      row_ready =
          let now = below_others _ _ _ run _ _ _ _ _ d.kept_costs d.kept_choices below in
          record {
            tree = tree_of s;
            allowed = allowed limit marks;
            prices_are = counted_of steps groups prices;
            base = b;
            extents = extents;
            run = run;
            all = all;
            total = omega (arith, ready.total);
            some = omega arith;
            limited = refl;
            priced = ready.prepared.priced;
            step_low = λ l. omega (arith, ready.prepared.low_steps l);
            group_low = λ l. omega (arith, ready.prepared.low_groups l);
            numbers_are = numbered;
            extending = known_next.extending;
            rows_below = known_next.entered;
            tailing = known_next.tailing;
            stopping = known_next.stopping;
            own_cost = single.costs_it (allowed limit marks) (counted_of steps groups prices) (λ l. refl) (λ l. refl) (omega (arith, ready.total)) (rw last now);
            matches = matched_again;
            drawn = drawn;
          }

      pub row_asks : RowHeld costs choices numbers row × RowReady costs choices numbers row prices matches' tails stops
      row_asks = ((falling ready.cost_room d.kept_costs, falling ready.choice_room d.kept_choices), row_ready)

      -- The row entered: one more sibling is done, and nothing but stretches of this sequence has changed.
      pub descended_more : {costs' choices' tails' stops' : List ℕ} → length extents ≡ 1025 → length tails ≡ 1025 → length stops ≡ 1025
          → RowEntered costs choices numbers row prices matches' tails stops costs' choices' tails' stops'
          → Descended s b limit steps groups marks prices costs₀ choices₀ j costs' choices' matches' (set extents j g.extent) tails' stops'
      unfolding row_ready
      descended_more {costs'} {choices'} {tails'} {stops'} le lt ls e =
          let few = siblings_few ready in
          let here : get_or (set extents j g.extent) j 0 ≡ g.extent = get_or-set_same extents j g.extent 0 (omega arith) in
          let t = tree_of s in
          let A = allowed limit marks in
          let P = counted_of steps groups prices in
          record {
            known = record {
              extending = extending_more run all (omega arith) known_next.extending matched_again drawn (omega arith);
              entered =
                  stored_entered A b t numbers j (m - j) run (omega arith) numbered.numbered P _ _ extents (set extents j g.extent) _ _ _ _ (omega arith)
                  (λ k l. get_or-set_other extents j k g.extent 0 (λ q. omega arith))
                  (λ n p h. e.short row_ready n p (rw here at h))
                  (λ n p h. e.whole row_ready n p (omega arith))
                  e.costs_kept e.choices_kept known_next.entered;
              tailing = rw e.tails_are (tailing_more A P t j tails e.tail (omega arith) (e.tail_is row_ready) known_next.tailing);
              stopping =
                  rw e.stops_are
                  (stopping_more A P t j extents stops g.extent e.longest (omega arith) (omega arith) e.some (λ n h w p l. e.covers row_ready n h w p l)
                  known_next.stopping);
            };
            kept_costs = kept_others_then _ _ _ _ _ d.kept_costs (row_kept e.costs_kept);
            kept_choices = kept_others_then _ _ _ _ _ d.kept_choices (row_kept e.choices_kept);
            matched = matched_again;
            low = λ v p q. grown.low v p (omega arith);
          }

  -- Down to the first sibling the level is filled, and nothing outside its interval has changed.
  module _ {costs choices matches extents tails stops : List ℕ} (d : Descended s b limit steps groups marks prices costs₀ choices₀ 0 costs choices matches extents tails stops) where
    pub level_filled : Below (allowed limit marks) (counted_of steps groups prices) b (tree_of s) costs₀ choices₀
        → Filled (allowed limit marks) (counted_of steps groups prices) b (tree_of s) costs choices
    level_filled w = record { top = entered_used _ _ _ _ _ _ _ d.known.extending d.known.entered; below = below_others _ _ _ run _ _ _ _ _ d.kept_costs d.kept_choices w }

    pub level_kept : Kept b (nodes (tree_of s)) costs₀ costs × Kept b (nodes (tree_of s)) choices₀ choices
    level_kept = (kept_of_others _ _ _ _ _ run d.kept_costs, kept_of_others _ _ _ _ _ run d.kept_choices)
