-- The recursion over a tree: the siblings of a sequence are passed one by one, from number to number, and the sequence inside each
-- group is entered by a call on its bytes.
use mathlib.Core.Path.{◌≡◌, refl, sym, ap, ◌∙◌}
use mathlib.Core.List.{List, [], ◌∷◌}
use Prim.Native.Nat.{ℕ, ◌+◌, ◌-◌, ◌<◌, ◌≤◌}
use native.Mathlib.Omega.{arith}
use lib.ListN.{length, get_or, take, drop, length-append}
use lib.Seq.{take_at}
use Rattle.format.specs.Limits.{Prices, allowed}
use Rattle.format.specs.Forest.{Forest, group, form_in, bytes, siblings, nodes, Allowed}
use Rattle.format.specs.Tree.{tree_of}
use Rattle.format.proofs.Tree.{tree_of_bytes}
use Rattle.optimum.specs.Cheapest.{Run, front, back, node}
use Rattle.optimum.proofs.Cut.{run_back, run_body}
use Rattle.filling.specs.Filling.{Below, Filled, counted_of, LevelReady, LevelListed, LevelInside}
use Rattle.filling.specs.declared.level.Level.{Level}
use Rattle.table.specs.Table.{Kept, number}
use Rattle.table.specs.Nodes.{Reached}
use Rattle.table.proofs.Cells.{cells_mono}
use Rattle.filling.proofs.Entries.{kept_none, kept_then, below_none, below_step, below_whole, kept_in_group, below_group}
use Rattle.table.proofs.Tables.{number_within, number_after_group}
use Rattle.table.proofs.Listings.{Sibling, is_step, is_group, place, place_next, place_most, sibling_first, sibling_long}
use Rattle.table.proofs.ByNumber.{span_inside}
use Rattle.table.proofs.Following.{reached_none, reached_on, reached_all, reached_within, reached_next, reached_less}

-- After i siblings of the sequence that s spells: the next one has the number q, what lies below those passed is entered, and only
-- entries of the sequence's own interval have changed.
pub record Through (A : Allowed) (P : Prices) (s : List ℕ) (b : ℕ) (costs₀ choices₀ costs choices : List ℕ) (q : ℕ) : Type 0 where
  pub i : ℕ
  pub reached : Reached b (tree_of s) i q
  pub below : Below A P (number b (tree_of s) i) (front i (tree_of s)) costs choices
  pub kept_costs : Kept b (nodes (tree_of s)) costs₀ costs
  pub kept_choices : Kept b (nodes (tree_of s)) choices₀ choices

pub through_none : (A : Allowed) (P : Prices) (s : List ℕ) (b : ℕ) (costs choices : List ℕ) (q : ℕ) → q ≡ b + nodes (tree_of s)
    → Through A P s b costs choices costs choices q
through_none A P s b costs choices q e =
    record {
      i = 0;
      reached = reached_none b (tree_of s) q e;
      below = below_none A P costs choices b (tree_of s);
      kept_costs = kept_none b (nodes (tree_of s)) costs;
      kept_choices = kept_none b (nodes (tree_of s)) choices;
    }

-- What the part of a group has between its label and its close, as the code cuts it out.
abbrev pub inside : (part : List ℕ) → List ℕ
inside part = take (length part - 1 - 2) (drop 2 part)

-- Where the next sibling is a group, all that a call on what is inside it rests on.
pub record Opening (places nexts s part : List ℕ) (r : Level) (steps groups prices costs choices : List ℕ) : Type 0 where
  pub shorter : length (inside part) < length s
  pub ready : LevelReady (inside part) r.span.behind r.limit steps groups prices costs choices
  pub listed : LevelListed places nexts (inside part) r

-- What that group is.
record GroupAt (s : List ℕ) (i : ℕ) (part : List ℕ) : Type 0 where
  label : ℕ
  children : Forest
  rest : Forest
  stands : back i (tree_of s) ≡ group label children rest
  long : length part ≡ 3 + length (bytes children)
  spells : inside part ≡ bytes children

module _ {places nexts s : List ℕ} {level : Level} {steps groups prices costs₀ choices₀ costs choices : List ℕ} {q : ℕ}
    (marks : List ℕ) (l : LevelReady s level.span.behind level.limit steps groups prices costs₀ choices₀) (z : LevelListed places nexts s level)
    (w : Through (allowed level.limit marks) (counted_of steps groups prices) s level.span.behind costs₀ choices₀ costs choices q) where
  abbrev t : Forest
  t = tree_of s

  abbrev b : ℕ
  b = level.span.behind

  abbrev A : Allowed
  A = allowed level.limit marks

  abbrev P : Prices
  P = counted_of steps groups prices

  run : Run A t
  run = l.spelled.run A

  -- The number has its places in the lists.
  pub through_listed : q ≤ 1024
  through_listed = omega (arith, (reached_within A b t run w.i q w.reached).1, z.listed)

  -- Past the last sibling, all that the sequence's own stretches rest on.
  pub through_all : q ≤ b → Below A P b t costs choices
  through_all h =
      let all = reached_all A b t run w.i q w.reached h in
      below_whole _ _ costs choices b t run.plain (rw all at w.below)

  pub through_ready : LevelReady s b level.limit steps groups prices costs choices
  through_ready =
      record {
        spelled = l.spelled;
        total = l.total;
        cost_room = omega (arith, l.cost_room, w.kept_costs.same_length);
        choice_room = omega (arith, l.choice_room, w.kept_choices.same_length);
        prepared = l.prepared;
      }

  -- The next sibling.
  module _ (more : b < q) where
    some : w.i < siblings t
    some = reached_on A b t run w.i q w.reached more

    further : Reached b t (w.i + 1) (get_or nexts q 0)
    further = reached_next A b t run w.i q w.reached places nexts level.span.start z.listed.listed more

    pub through_less : get_or nexts q 0 < q
    through_less = reached_less A b t run w.i q w.reached places nexts level.span.start z.listed.listed more

    first : Sibling t w.i (get_or s (place w.i t) 0) (get_or s (place w.i t + 1) 0)
    first = sibling_first s l.spelled w.i some (place w.i t) refl

    module _ {part : List ℕ} (p : (i : ℕ) → Reached b t i q → part ≡ bytes (node i t)) where
      is_part : part ≡ bytes (node w.i t)
      is_part = p w.i w.reached

      -- Its part is no longer than the bytes, and has a command and a label.
      pub passing : (2 ≤ length part) × (length part ≤ length s)
      passing =
          let e = place_next w.i t in
          (omega (arith, ap length is_part, sibling_long s l.spelled w.i some), omega (arith, ap length is_part, place_most s l.spelled (w.i + 1)))

      -- A step has nothing below it.
      pub through_step : (get_or part 0 0 ≡ 0x11 → ⊥)
          → Through A P s b costs₀ choices₀ costs choices (get_or nexts q 0)
      unfolding front form_in
      through_step other = by_form first
        where
          by_form : Sibling t w.i (get_or s (place w.i t) 0) (get_or s (place w.i t + 1) 0)
              → Through A P s b costs₀ choices₀ costs choices (get_or nexts q 0)
          by_form (is_step f e c) =
              record {
                i = w.i + 1;
                reached = further;
                below = below_step _ _ costs choices b t w.i _ f e w.below;
                kept_costs = w.kept_costs;
                kept_choices = w.kept_choices;
              }
          by_form (is_group g f e c) = absurd (other (rw (is_part, e)))

      -- A group is entered by a call on what is inside it.
      module _ (opens : get_or part 0 0 ≡ 0x11) where
        here : GroupAt s w.i part
        unfolding front form_in
        here = by_form first
          where
            by_form : Sibling t w.i (get_or s (place w.i t) 0) (get_or s (place w.i t + 1) 0) → GroupAt s w.i part
            by_form (is_step f e c) = absurd (omega (arith, rw (is_part, e) at opens))
            by_form (is_group g f e c) =
                let whole = is_part ∙ ap (λ (x : Forest). bytes (front 1 x)) e in
                let long : length part ≡ 3 + length (bytes g) = omega (arith, ap length whole, length-append (bytes g) (0x12 ∷ [])) in
                let size : length (bytes g) ≡ length part - 1 - 2 = omega arith in
                record {
                  label = get_or s (place w.i t + 1) 0;
                  children = g;
                  rest = f;
                  stands = e;
                  long = long;
                  spells = ap (λ (x : List ℕ). take (length part - 1 - 2) (drop 2 x)) whole ∙ take_at (bytes g) (0x12 ∷ []) (length part - 1 - 2) size;
                }

        pub group_long : 3 ≤ length part
        group_long = omega (arith, here.long)

        here_tree : tree_of (inside part) ≡ here.children
        here_tree = ap tree_of here.spells ∙ tree_of_bytes here.children

        module _ {r : Level} (x : LevelInside places q (get_or nexts q 0) level.limit r) where
          ends : r.span.behind ≡ number b t (w.i + 1)
          ends = x.ends ∙ further.numbered

          pub opening : Opening places nexts s part r steps groups prices costs choices
          opening =
              let h = here in
              let after = number_after_group b w.i t h.label h.children h.rest h.stands in
              let last : r.span.behind + nodes (tree_of (inside part)) ≤ b + nodes t =
              omega (arith, ends, after, number_within b w.i t, ap nodes here_tree) in
              let room = cells_mono (r.span.behind + nodes (tree_of (inside part))) (b + nodes t) last in
              record {
                shorter = omega (arith, h.long, ap length h.spells, passing.1);
                ready = record {
                  spelled = record {
                    form = ap bytes here_tree ∙ sym h.spells;
                    run = λ B. rw here_tree (run_body (rw h.stands at (run_back w.i (l.spelled.run B))));
                  };
                  total = omega (arith, l.total);
                  cost_room = omega (arith, l.cost_room, w.kept_costs.same_length);
                  choice_room = omega (arith, l.choice_room, w.kept_choices.same_length);
                  prepared = l.prepared;
                };
                listed = record {
                  listed =
                      rw here_tree
                      (span_inside places nexts A level.span t run z.listed w.i h.label h.children h.rest h.stands q
                      w.reached.numbered r.span x.starts x.begins ends);
                };
              }

          pub through_group : {costs' choices' : List ℕ}
              → Filled (allowed r.limit marks) P r.span.behind (tree_of (inside part)) costs' choices'
              → Kept r.span.behind (nodes (tree_of (inside part))) costs costs'
              → Kept r.span.behind (nodes (tree_of (inside part))) choices choices'
              → Through A P s b costs₀ choices₀ costs' choices' (get_or nexts q 0)
          through_group {costs'} {choices'} filled kc kk =
              let h = here in
              let kc' = rw (ends, here_tree) at kc in
              let kk' = rw (ends, here_tree) at kk in
              let filled' = rw (x.limited, ends, here_tree) at filled in
              let within = kept_in_group _ b t run w.i h.label h.children h.rest h.stands in
              record {
                i = w.i + 1;
                reached = further;
                below = below_group _ b t run w.i h.label h.children h.rest h.stands _ costs choices costs' choices' kc' kk' filled' w.below;
                kept_costs = kept_then b (nodes t) costs₀ costs costs' w.kept_costs (within costs costs' kc');
                kept_choices = kept_then b (nodes t) choices₀ choices choices' w.kept_choices (within choices choices' kk');
              }
