-- The pass that lists a run: what is listed node by node, from spot to spot, is the listing of the whole sequence.
use mathlib.Core.Path.{◌≡◌, refl, sym, ap, ◌∙◌}
use mathlib.Core.List.{List, [], ◌∷◌, ◌++◌, append_assoc, append-nil}
use mathlib.Core.Logic.{◌≢◌}
use Prim.Native.Nat.{ℕ, ◌+◌, ◌-◌, ◌<◌, ◌≤◌}
use native.Mathlib.Omega.{arith}
use lib.ListN.{length, get_or, set, drop, length-append, length-drop, length-set}
use lib.Seq.{get_or-drop, drop-drop, drop-append-add, get_or-set_same, get_or-set_other}
use Rattle.format.specs.Forest.{Forest, end, step, group, repeat, Plain, join, nodes, form_in, bytes, at_most}
use Rattle.format.specs.Tree.{tree_of}
use Rattle.format.proofs.Forests.{join_end, join_assoc, bytes_join, nodes_join, plain_join}
use Rattle.table.specs.Listing.{Spelled}
use Rattle.table.specs.Nodes.{NodesListed, Closed, SequenceAt, ChangedWithin, ListedOver}
use Rattle.table.specs.declared.nodes.Spot.{Spot}
use Rattle.table.proofs.ByNumber.{listed_same, listed_join}

-- The spot behind the command and the label of a node.
abbrev pub behind_label : Spot → Spot
behind_label w = record { at = w.at + 2; number = w.number - 1 }

-- The spot behind the close of a group, whose sequence ends at r.
abbrev pub behind_close : Spot → Spot
behind_close r = record { at = r.at + 1; number = r.number }

-- What stands first in a sequence: a step or a group, and the parts that stand behind its label.
pub record StepAt (run : List ℕ) (w : Spot) (b : ℕ) (t : Forest) : Type 0 where
  pub label : ℕ
  pub rest : Forest
  pub is : t ≡ step label rest
  pub behind : SequenceAt run (behind_label w) b rest

pub record GroupAt (run : List ℕ) (w : Spot) (b : ℕ) (t : Forest) : Type 0 where
  pub label : ℕ
  pub held : Forest
  pub rest : Forest
  pub is : t ≡ group label held rest
  pub there : w.at + 3 + length (bytes held) ≤ length run
  pub inside : SequenceAt run (behind_label w) (b + nodes rest) held
  pub behind : (r : Spot) → r.at ≡ w.at + 2 + length (bytes held) → r.number ≡ b + nodes rest → SequenceAt run (behind_close r) b rest

module _ (run : List ℕ) (w : Spot) (t : Forest) (rest : List ℕ) (form : drop w.at run ≡ bytes t ++ rest) where
  first_byte : get_or run w.at 0 ≡ get_or (bytes t ++ rest) 0 0
  first_byte = let e : w.at + 0 ≡ w.at = omega arith in rw (← form, get_or-drop, e)

  remain : length run - w.at ≡ length (bytes t) + length rest
  remain = sym (length-drop w.at run) ∙ ap length form ∙ length-append (bytes t) rest

  from_label : drop (w.at + 2) run ≡ drop 2 (bytes t ++ rest)
  from_label = sym (drop-drop 2 w.at run) ∙ rw form

-- Where bytes are left and none of them closes the sequence, a node is.
not_end : (run : List ℕ) (w : Spot) (rest : List ℕ) → Closed rest → drop w.at run ≡ bytes end ++ rest → w.at < length run → get_or run w.at 0 ≡ 0x12
unfolding form_in
not_end run w [] k form h = absurd (omega (arith, remain run w end [] form))
not_end run w (c ∷ s) k form h = first_byte run w end (c ∷ s) form ∙ k

module _ {run : List ℕ} {w : Spot} {b : ℕ} where
  pub node_there : (t : Forest) → SequenceAt run w b t → w.at < length run → get_or run w.at 0 ≢ 0x12
      → (w.at + 2 ≤ length run) × (1 ≤ w.number)
  unfolding form_in nodes
  node_there end z h k = absurd (k (not_end run w z.rest z.closed z.form h))
  node_there (step l f) z h k = (omega (arith, remain run w (step l f) z.rest z.form), omega (arith, z.numbered))
  node_there (group l g f) z h k = (omega (arith, remain run w (group l g f) z.rest z.form), omega (arith, z.numbered))
  node_there (repeat m v g f) z h k = absurd z.plain

  pub step_at : (t : Forest) → SequenceAt run w b t → w.at < length run → get_or run w.at 0 ≡ 0x10 → StepAt run w b t
  unfolding form_in nodes
  step_at end z h k = absurd (omega (arith, not_end run w z.rest z.closed z.form h))
  step_at (step l f) z h k =
      record {
        label = l;
        rest = f;
        is = refl;
        behind = record {
          rest = z.rest;
          form = from_label run w (step l f) z.rest z.form;
          closed = z.closed;
          plain = z.plain;
          numbered = omega (arith, z.numbered);
        };
      }
  step_at (group l g f) z h k = absurd (omega (arith, first_byte run w (group l g f) z.rest z.form))
  step_at (repeat m v g f) z h k = absurd z.plain

  pub group_at : (t : Forest) → SequenceAt run w b t → w.at < length run → get_or run w.at 0 ≢ 0x12 → get_or run w.at 0 ≢ 0x10
      → GroupAt run w b t
  unfolding form_in nodes
  group_at end z h k e = absurd (k (not_end run w z.rest z.closed z.form h))
  group_at (step l f) z h k e = absurd (e (first_byte run w (step l f) z.rest z.form))
  group_at (group l g f) z h k e =
      let inner : drop (w.at + 2) run ≡ bytes g ++ (0x12 ∷ (bytes f ++ z.rest)) =
      from_label run w (group l g f) z.rest z.form ∙ append_assoc (bytes g) (0x12 ∷ bytes f) z.rest in
      record {
        label = l;
        held = g;
        rest = f;
        is = refl;
        there = omega (arith, remain run w (group l g f) z.rest z.form, length-append (bytes g) (0x12 ∷ bytes f));
        inside = record {
          rest = 0x12 ∷ (bytes f ++ z.rest);
          form = inner;
          closed = refl;
          plain = z.plain.0;
          numbered = omega (arith, z.numbered);
        };
        behind = λ r p q. record {
          rest = z.rest;
          form =
              let s : r.at + 1 ≡ w.at + 2 + (length (bytes g) + 1) = omega arith in
              rw (s, ← drop-drop (length (bytes g) + 1) (w.at + 2) run, inner) (drop-append-add (bytes g) (0x12 ∷ (bytes f ++ z.rest)) 1);
          closed = z.closed;
          plain = z.plain.1;
          numbered = q;
        };
      }
  group_at (repeat m v g f) z h k e = absurd z.plain

  -- Elsewhere the sequence is over.
  pub ended_at : (t : Forest) → SequenceAt run w b t → (w.at < length run → get_or run w.at 0 ≡ 0x12) → t ≡ end
  unfolding form_in
  ended_at end z e = refl
  ended_at (step l f) z e =
      absurd
      (omega (arith, first_byte run w (step l f) z.rest z.form, e (omega (arith, remain run w (step l f) z.rest z.form))))
  ended_at (group l g f) z e =
      absurd
      (omega (arith, first_byte run w (group l g f) z.rest z.form, e (omega (arith, remain run w (group l g f) z.rest z.form))))
  ended_at (repeat m v g f) z e = absurd z.plain

-- Changes within bounds.
changed_none : (b q : ℕ) (xs : List ℕ) → ChangedWithin b q xs xs
changed_none b q xs = record { same_length = refl; others = λ x h. refl }

changed_set : (b q : ℕ) (xs : List ℕ) (j v : ℕ) → b < j → j ≤ q → ChangedWithin b q xs (set xs j v)
changed_set b q xs j v h l =
    record {
      same_length = length-set xs j v;
      others = λ x k. get_or-set_other xs j x v 0 (λ e. k (omega arith) (omega arith));
    }

changed_wider : (b q b' q' : ℕ) (xs ys : List ℕ) → b' ≤ b → q ≤ q' → ChangedWithin b q xs ys → ChangedWithin b' q' xs ys
changed_wider b q b' q' xs ys h l c =
    record { same_length = c.same_length; others = λ x k. c.others x (λ m n. k (omega arith) (omega arith)) }

changed_then : (b q : ℕ) (xs ys zs : List ℕ) → ChangedWithin b q xs ys → ChangedWithin b q ys zs → ChangedWithin b q xs zs
changed_then b q xs ys zs c d =
    record { same_length = d.same_length ∙ c.same_length; others = λ x k. d.others x k ∙ c.others x k }

-- A listing stays where the entries of its numbers do.
abbrev Same : (b q : ℕ) (xs ys : List ℕ) → Type 0
Same b q xs ys = (x : ℕ) → b < x → x ≤ q → get_or ys x 0 ≡ get_or xs x 0

module _ (places nexts places' nexts' : List ℕ) where
  listed_kept : (t : Forest) (at b : ℕ) → Same b (b + nodes t) places places' → Same b (b + nodes t) nexts nexts'
      → NodesListed places nexts at b t → NodesListed places' nexts' at b t
  unfolding nodes
  listed_kept end at b p n h = tt
  listed_kept (step l f) at b p n h = (
    (p (b + (1 + nodes f)) (omega arith) (omega arith) ∙ h.0.0, n (b + (1 + nodes f)) (omega arith) (omega arith) ∙ h.0.1),
    listed_kept f (at + 2) b (λ x k l. p x k (omega arith)) (λ x k l. n x k (omega arith)) h.1,
  )
  listed_kept (group l g f) at b p n h =
      let q = b + (1 + nodes g + nodes f) in (
        (p q (omega arith) (omega arith) ∙ h.0.0, n q (omega arith) (omega arith) ∙ h.0.1),
        listed_kept g (at + 2) (b + nodes f) (λ x k l. p x (omega arith) (omega arith)) (λ x k l. n x (omega arith) (omega arith)) h.1,
        listed_kept f (at + 3 + length (bytes g)) b (λ x k l. p x k (omega arith)) (λ x k l. n x k (omega arith)) h.2,
      )
  listed_kept (repeat k w g f) at b p n h = tt

-- One node, and one sequence behind another.
over_step : (places nexts : List ℕ) (w : Spot) (l b : ℕ) → w.number ≡ b + 1 → w.number < length places → w.number < length nexts
    → ListedOver places nexts (set places w.number w.at) (set nexts w.number (w.number - 1)) w b (step l end) (behind_label w)
unfolding nodes form_in
over_step places nexts w l b e p n =
    record {
      passed = refl;
      reached = omega arith;
      listed =
          let q : b + (1 + 0) ≡ w.number = omega arith in (
            (
              rw q (get_or-set_same places w.number w.at 0 p),
              rw q (get_or-set_same nexts w.number (w.number - 1) 0 n ∙ omega arith),
            ),
            tt,
          );
      kept_places = changed_set b w.number places w.number w.at (omega arith) (omega arith);
      kept_nexts = changed_set b w.number nexts w.number (w.number - 1) (omega arith) (omega arith);
    }

over_group : (places nexts places' nexts' : List ℕ) (w r : Spot) (l b : ℕ) (g : Forest) → w.number ≡ b + (1 + nodes g) → w.number < length places
    → w.number < length nexts → ListedOver (set places w.number w.at) nexts places' nexts' (behind_label w) b g r
    → ListedOver places nexts places' (set nexts' w.number r.number) w b (group l g end) (behind_close r)
unfolding nodes form_in
over_group places nexts places' nexts' w r l b g e p n o =
    let q : b + (1 + nodes g + 0) ≡ w.number = omega arith in
    let z : b + 0 ≡ b = omega arith in
    let there : get_or places' w.number 0 ≡ w.at =
    o.kept_places.others w.number (λ h k. omega arith) ∙ get_or-set_same places w.number w.at 0 p in
    let next : get_or (set nexts' w.number r.number) w.number 0 ≡ b =
    get_or-set_same nexts' w.number r.number 0 (omega (arith, o.kept_nexts.same_length)) ∙ o.reached in
    record {
      passed = omega (arith, o.passed, length-append (bytes g) (0x12 ∷ []));
      reached = o.reached;
      listed = (
        (rw q there, rw (q, z) next),
        rw z
            (listed_kept places' nexts' places' (set nexts' w.number r.number) g (w.at + 2) b (λ x h k. refl)
            (λ x h k. get_or-set_other nexts' w.number x r.number 0 (λ f. omega arith)) o.listed),
        tt,
      );
      kept_places =
          changed_then b w.number places _ places' (changed_set b w.number places w.number w.at (omega arith) (omega arith))
          (changed_wider b (w.number - 1) b w.number _ places' (omega arith) (omega arith) o.kept_places);
      kept_nexts =
          changed_then b w.number nexts nexts' _
          (changed_wider b (w.number - 1) b w.number nexts nexts' (omega arith) (omega arith) o.kept_nexts)
          (changed_set b w.number nexts' w.number r.number (omega arith) (omega arith));
    }

over_join : (places₀ nexts₀ places nexts places' nexts' : List ℕ) (w p r : Spot) (b c : ℕ) (x y : Forest) → Plain x → c ≡ b + nodes y
    → w.number ≡ c + nodes x → ListedOver places₀ nexts₀ places nexts w c x p → ListedOver places nexts places' nexts' p b y r
    → ListedOver places₀ nexts₀ places' nexts' w b (join x y) r
over_join places₀ nexts₀ places nexts places' nexts' w p r b c x y plain e f o u =
    record {
      passed = rw bytes_join (omega (arith, o.passed, u.passed, length-append (bytes x) (bytes y)));
      reached = u.reached;
      listed =
          let first : NodesListed places' nexts' w.at c x =
          listed_kept places nexts places' nexts' x w.at c (λ j h k. u.kept_places.others j (λ l m. omega (arith, o.reached)))
          (λ j h k. u.kept_nexts.others j (λ l m. omega (arith, o.reached))) o.listed in
          listed_join places' nexts' x y w.at b plain (rw e at first)
          (listed_same places' nexts' y p.at (w.at + length (bytes x)) b b o.passed refl u.listed);
      kept_places =
          changed_then b w.number places₀ places places'
          (changed_wider c w.number b w.number places₀ places (omega arith) (omega arith) o.kept_places)
          (changed_wider b p.number b w.number places places' (omega arith) (omega (arith, o.reached)) u.kept_places);
      kept_nexts =
          changed_then b w.number nexts₀ nexts nexts'
          (changed_wider c w.number b w.number nexts₀ nexts (omega arith) (omega arith) o.kept_nexts)
          (changed_wider b p.number b w.number nexts nexts' (omega arith) (omega (arith, o.reached)) u.kept_nexts);
    }

-- A walk over the sequence t came from w to p: its first nodes are listed, and the others stand at p.
pub record Along (run places₀ nexts₀ places nexts : List ℕ) (w p : Spot) (b : ℕ) (t : Forest) : Type 0 where
  pub done : Forest
  pub left : Forest
  pub split : join done left ≡ t
  pub plain : Plain done
  pub total : w.number ≡ b + nodes t
  pub over : ListedOver places₀ nexts₀ places nexts w (b + nodes left) done p
  pub ahead : SequenceAt run p b left

pub along_none : (run places nexts : List ℕ) (w : Spot) (b : ℕ) (t : Forest) → SequenceAt run w b t → Along run places nexts places nexts w w b t
unfolding join form_in
along_none run places nexts w b t z =
    record {
      done = end;
      left = t;
      split = refl;
      plain = tt;
      total = z.numbered;
      over = record {
        passed = omega arith;
        reached = z.numbered;
        listed = tt;
        kept_places = changed_none (b + nodes t) w.number places;
        kept_nexts = changed_none (b + nodes t) w.number nexts;
      };
      ahead = z;
    }

module _ {run places₀ nexts₀ places nexts : List ℕ} {w p : Spot} {b : ℕ} {t : Forest} (a : Along run places₀ nexts₀ places nexts w p b t) where
  -- The numbers fall.
  along_within : p.number ≤ w.number
  along_within = omega (arith, a.total, a.over.reached, ap nodes a.split, nodes_join a.done a.left)

  pub along_ends : (p.at < length run → get_or run p.at 0 ≡ 0x12) → ListedOver places₀ nexts₀ places nexts w b t p
  unfolding nodes
  along_ends h =
      let e = ended_at a.left a.ahead h in
      let m : a.done ≡ t = sym (join_end a.done) ∙ ap (join a.done) (sym e) ∙ a.split in
      let c : b + nodes a.left ≡ b = rw e (omega arith) in
      rw (m, c) at a.over

  -- One more node: x, with y behind it.
  along_node : (places' nexts' : List ℕ) (r : Spot) (x y : Forest) → Plain x → join x y ≡ a.left
      → ListedOver places nexts places' nexts' p (b + nodes y) x r → SequenceAt run r b y → Along run places₀ nexts₀ places' nexts' w r b t
  along_node places' nexts' r x y plain e o z =
      let count = nodes_join x y in
      let all = nodes_join a.done a.left in
      record {
        done = join a.done x;
        left = y;
        split = join_assoc a.done x y ∙ rw e a.split;
        plain = plain_join a.done x a.plain plain;
        total = a.total;
        over =
            over_join places₀ nexts₀ places nexts places' nexts' w p r (b + nodes y) (b + nodes a.left) a.done x a.plain
            (omega (arith, ap nodes e)) (omega (arith, a.total, ap nodes a.split)) a.over o;
        ahead = z;
      }

  module _ (few : w.number ≤ 1024) (long : length places₀ ≡ 1025) (long' : length nexts₀ ≡ 1025) (there : p.at < length run) where
    pub along_room : (p.number ≤ 1024) × (length places ≡ 1025) × (length nexts ≡ 1025)
    along_room = (omega (arith, along_within), a.over.kept_places.same_length ∙ long, a.over.kept_nexts.same_length ∙ long')

    pub along_step : get_or run p.at 0 ≡ 0x10
        → Along run places₀ nexts₀ (set places p.number p.at) (set nexts p.number (p.number - 1)) w (behind_label p) b t
    unfolding join nodes
    along_step k =
        let s = step_at a.left a.ahead there k in
        along_node (set places p.number p.at) (set nexts p.number (p.number - 1)) (behind_label p) (step s.label end) s.rest tt
        (sym s.is)
        (over_step places nexts p s.label (b + nodes s.rest) (omega (arith, a.ahead.numbered, ap nodes s.is)) (omega (arith, along_room))
        (omega (arith, along_room)))
        s.behind

    module _ (k : get_or run p.at 0 ≢ 0x12) (e : get_or run p.at 0 ≢ 0x10) where
      along_group_at : GroupAt run p b a.left
      along_group_at = group_at a.left a.ahead there k e

      module _ {places' nexts' : List ℕ} {r : Spot}
          (o : (c : ℕ) (g : Forest) → SequenceAt run (behind_label p) c g
          → ListedOver (set places p.number p.at) nexts places' nexts' (behind_label p) c g r) where
        inner : ListedOver (set places p.number p.at) nexts places' nexts' (behind_label p) (b + nodes along_group_at.rest) along_group_at.held r
        inner = o (b + nodes along_group_at.rest) along_group_at.held along_group_at.inside

        pub along_close : (r.at + 1 ≤ length run) × (p.at < r.at) × (r.number ≤ 1024)
        unfolding nodes
        along_close = (
          omega (arith, inner.passed, along_group_at.there),
          omega (arith, inner.passed),
          omega (arith, along_room, inner.reached, a.ahead.numbered, ap nodes along_group_at.is),
        )

        pub along_group : Along run places₀ nexts₀ places' (set nexts' p.number r.number) w (behind_close r) b t
        unfolding join nodes
        along_group =
            let g = along_group_at in
            along_node places' (set nexts' p.number r.number) (behind_close r) (group g.label g.held end) g.rest
            (g.inside.plain, tt)
            (sym g.is)
            (over_group places nexts places' nexts' p r g.label (b + nodes g.rest) g.held
            (omega (arith, a.ahead.numbered, ap nodes g.is)) (omega (arith, along_room)) (omega (arith, along_room)) inner)
            (g.behind r inner.passed inner.reached)

-- The whole run, from its first byte on.
pub whole_at : (run : List ℕ) (n : ℕ) → Spelled run → nodes (tree_of run) ≡ n → SequenceAt run (record { at = 0; number = n }) 0 (tree_of run)
whole_at run n z e =
    record {
      rest = [];
      form = rw (append-nil, z.form);
      closed = tt;
      plain = (z.run (at_most 0)).plain;
      numbered = omega arith;
    }
