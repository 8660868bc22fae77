-- The cheapest fold of a sequence as bytes: by the table's choice, what stands first and what follows it; of a node alone, by its
-- bytes in the run.
use mathlib.Core.Path.{◌≡◌, refl, sym, ap, ◌∙◌}
use mathlib.Core.List.{List, [], ◌∷◌, ◌++◌, append_assoc}
use Prim.Native.Nat.{ℕ, zero, suc, ◌+◌, ◌-◌, ◌*◌, ◌<◌, ◌≤◌}
use native.Mathlib.Omega.{arith}
use lib.ListN.{length, length-drop, get_or, drop}
use lib.Seq.{drop-drop, get_or-drop}
use Rattle.format.specs.Limits.{Prices}
use Rattle.format.specs.Forest.{Forest, end, step, group, repeat, join, siblings, nodes, opening, form_in, bytes, Allowed, Plain}
use Rattle.format.proofs.Forests.{form_join}
use Rattle.optimum.specs.Cheapest.{Run, front, back, Power, Candidate, plain, power, build, usual, Least, cheapest, best_cost}
use Rattle.optimum.proofs.Cut.{front_whole, siblings_le_nodes, run_front, run_body}
use Rattle.optimum.proofs.Powers.{reach, spans_usual}
use Rattle.optimum.proofs.Least.{least_one}
use Rattle.optimum.proofs.Cheapest.{cheapest_short, is_cheapest, least_builds, optimal_end}
use Rattle.table.specs.Keys.{packed, rejoined, pair_digits, count_digit, width_digit}
use Rattle.table.specs.Table.{BestKey, cell, number}
use Rattle.table.specs.Used.{to_end, itself}
use Rattle.table.proofs.Digits.{pair_is}
use Rattle.table.proofs.Cells.{cells_mono}
use Rattle.table.proofs.Tables.{number_last, number_fall}
use Rattle.table.proofs.Uses.{used_body, used_group}
use Rattle.writer.specs.declared.Source.{Source}
use Rattle.writer.specs.Writing.{WriteReady, NodeReady, fold_bytes, node_bytes, Follows, follow}
use Rattle.put.specs.Bounds.{most_bytes}
use Rattle.writer.proofs.Laws.{listed_follow, listed_follows}
use Rattle.writer.proofs.Parts.{body_part, rest_part}

-- Command and label of the node of number q, as they stand in the run, and the number that comes next at its level.
abbrev pub command : (source : Source) (q : ℕ) → ℕ
command source q = get_or source.run.now (get_or source.nodes.now.places q 0) 0

abbrev pub label : (source : Source) (q : ℕ) → ℕ
label source q = get_or source.run.now (get_or source.nodes.now.places q 0 + 1) 0

abbrev pub next_of : (source : Source) (q : ℕ) → ℕ
next_of source q = get_or source.nodes.now.nexts q 0

module _ (A : Allowed) (P : Prices) where
  cheapest_end : cheapest A P end ≡ end
  cheapest_end = sym (is_cheapest A P (optimal_end A P))

  by_least : (t : Forest) (h w : ℕ) → Run A t → siblings t ≤ 1024 → Least A P usual (best_cost A P) t h w
      → cheapest A P t ≡ build (cheapest A P) t h w
  by_least t h w r n l = sym (is_cheapest A P (least_builds A P usual t h w r (spans_usual A t n) l))

  -- A sibling alone.
  cheapest_step : (l : ℕ) → cheapest A P (step l end) ≡ step l end
  unfolding build siblings
  cheapest_step l =
      by_least (step l end) 0 0 (record { plain = tt; sound = tt }) (omega arith) (least_one A P usual (best_cost A P) (step l end) (omega arith))
      ∙ rw cheapest_end

  cheapest_group : (l : ℕ) (g : Forest) → Run A (group l g end) → cheapest A P (group l g end) ≡ group l (cheapest A P g) end
  unfolding build siblings
  cheapest_group l g r =
      by_least (group l g end) 0 0 r (omega arith) (least_one A P usual (best_cost A P) (group l g end) (omega arith))
      ∙ rw cheapest_end

  -- The plain node first.
  cheapest_plain : (t : Forest) → Run A t → siblings t ≤ 1024 → Least A P usual (best_cost A P) t 0 0
      → cheapest A P t ≡ join (cheapest A P (front 1 t)) (cheapest A P (back 1 t))
  unfolding build front back join
  cheapest_plain end r n l = rw cheapest_end
  cheapest_plain (step m f) r n l = by_least (step m f) 0 0 r n l ∙ rw (cheapest_step m)
  cheapest_plain (group m g f) r n l =
      by_least (group m g f) 0 0 r n l ∙ rw (cheapest_group m g (run_front 1 r))
  cheapest_plain (repeat h w g f) r n l = absurd r.plain

  -- A repeat first.
  cheapest_power : (t : Forest) (h w : ℕ) → Run A t → siblings t ≤ 1024 → 2 ≤ h → Least A P usual (best_cost A P) t h w
      → cheapest A P t ≡ repeat h w (cheapest A P (front w t)) (cheapest A P (back (h * w) t))
  unfolding build
  cheapest_power t zero w r n i l = absurd (omega arith)
  cheapest_power t (suc h) w r n i l = by_least t (suc h) w r n l

-- The pair 0 is the plain node, and any other a repeat with its count and width as digits.
least_plain : (A : Allowed) (P : Prices) (t : Forest) (h w : ℕ) → packed h w ≡ 0 → Least A P usual (best_cost A P) t h w
    → Least A P usual (best_cost A P) t 0 0
least_plain A P t h w e l =
    let a : h ≡ 0 = omega arith in
    let b : w ≡ 0 = omega arith in
    rw (a, b) at l

power_of : {A : Allowed} {t : Forest} {h w : ℕ} → (packed h w ≡ 0 → ⊥) → Candidate A t h w → Power A t h w
power_of n plain = absurd (n refl)
power_of n (power p) = p

-- A sequence with a node has a first one.
pub some_siblings : (t : Forest) → Plain t → 0 < nodes t → 0 < siblings t
unfolding nodes siblings
some_siblings end p h = h
some_siblings (step l f) p h = omega arith
some_siblings (group l g f) p h = omega arith
some_siblings (repeat k w g f) p h = absurd p

pub no_nodes : (t : Forest) → Plain t → nodes t ≡ 0 → t ≡ end
unfolding nodes
no_nodes end p e = refl
no_nodes (step l f) p e = absurd (omega arith)
no_nodes (group l g f) p e = absurd (omega arith)
no_nodes (repeat k w g f) p e = absurd p

module _ {source : Source} {first behind : ℕ} (z : WriteReady source first behind) where
  pub fold_small : length (fold_bytes z) ≤ most_bytes
  fold_small =
      omega (arith, cheapest_short z.allowed z.prices_are source.short z.tree (z.is_run z.allowed), z.counted, z.total)

  pub fold_none : first ≤ behind → fold_bytes z ≡ []
  unfolding form_in
  fold_none h =
      rw (no_nodes z.tree (z.is_run z.allowed).plain (omega (arith, z.counted)), cheapest_end z.allowed z.prices_are)

  few : siblings z.tree ≤ 1024
  few = omega (arith, siblings_le_nodes z.tree (z.is_run z.allowed).plain, z.counted, z.total)

-- The plain node first, and what follows it.
pub record Plainly {source : Source} {q : ℕ} (n : NodeReady source q) : Type 0 where
  pub rest : WriteReady source (next_of source q) n.behind
  pub falls : next_of source q < q
  pub spelled : fold_bytes n.ready ≡ node_bytes n ++ fold_bytes rest

-- A repeat first: its body, which ends at the number `stop`, and what follows it.
pub record Repeated {source : Source} {q : ℕ} (n : NodeReady source q) (h w stop : ℕ) : Type 0 where
  pub wide : w ≤ h * w
  pub body : WriteReady source q stop
  pub ahead : n.behind < stop
  pub to_rest : Follows source.nodes.now.nexts stop (h * w - w)
  pub rest : WriteReady source (follow source.nodes.now.nexts stop (h * w - w)) n.behind
  pub falls : follow source.nodes.now.nexts stop (h * w - w) < q
  pub spelled : fold_bytes n.ready ≡ opening source.short h w (fold_bytes body ++ 0x21 ∷ fold_bytes rest)

module _ {source : Source} {q : ℕ} (n : NodeReady source q) where
  abbrev A : Allowed
  A = n.ready.allowed

  abbrev P : Prices
  P = n.ready.prices_are

  abbrev tree : Forest
  tree = n.ready.tree

  abbrev size : ℕ
  size = siblings tree

  is_run : Run A tree
  is_run = n.ready.is_run A

  some : 0 < size
  some = some_siblings tree is_run.plain (omega (arith, n.ready.counted, n.some))

  -- Sibling k as it is followed, and from there on.
  followed : (i k q' : ℕ) → i + k ≤ size → q' ≡ number n.behind tree i
      → (follow source.nodes.now.nexts q' k ≡ number n.behind tree (i + k)) × Follows source.nodes.now.nexts q' k
  followed i k q' h e =
      let z = n.ready in (
        rw e (listed_follow source.nodes.now.places source.nodes.now.nexts A z.place n.behind tree is_run z.listed k i h),
        rw e (listed_follows source.nodes.now.places source.nodes.now.nexts A z.place n.behind tree is_run z.listed k i h (omega (arith, z.counted, z.total))),
      )

  first_number : q ≡ number n.behind tree 0
  unfolding back
  first_number = n.ready.counted

  -- A repeat that may stand first, and that does.
  module _ (h w : ℕ) (p : Power A tree h w) where
    body_number : follow source.nodes.now.nexts q w ≡ number n.behind tree w
    body_number =
        let zero_w : 0 + w ≡ w = omega arith in
        rw zero_w at (followed 0 w q (omega (arith, reach p)) first_number).0

    spelled_power : Least A P usual (best_cost A P) tree h w
        → (x y : List ℕ) → x ≡ form_in source.short (cheapest A P (front w tree)) → y ≡ form_in source.short (cheapest A P (back (h * w) tree))
        → fold_bytes n.ready ≡ opening source.short h w (x ++ 0x21 ∷ y)
    unfolding form_in
    spelled_power l x y e f = ap (form_in source.short) (cheapest_power A P tree h w is_run (few n.ready) p.repeats.twice l) ∙ rw (e, f)

    powered : (stop : ℕ) → stop ≡ follow source.nodes.now.nexts q w → Least A P usual (best_cost A P) tree h w → Repeated n h w stop
    unfolding back
    powered stop e l =
        let x = reach p in
        let b = n.behind in
        let all : w + (h * w - w) ≡ h * w = omega arith in
        let to : stop ≡ number b tree w = e ∙ body_number in
        let g = followed w (h * w - w) stop (omega arith) to in
        let from : follow source.nodes.now.nexts stop (h * w - w) ≡ number b tree (h * w) = rw all at g.0 in
        let used = used_body 0 size h w is_run (omega arith) (rw (front_whole size tree is_run.plain refl) p) in
        let body = body_part n.ready w stop (omega arith) used to in
        let rest = rest_part n.ready (h * w) (follow source.nodes.now.nexts stop (h * w - w)) x.covers from in
        record {
          wide = omega arith;
          body = body.ready;
          ahead = omega (arith, number_fall A b w size tree is_run (omega arith) (omega arith), number_last b tree is_run.plain);
          to_rest = g.1;
          rest = rest.ready;
          falls = omega (arith, number_fall A b 0 (h * w) tree is_run (omega arith) x.covers, first_number);
          spelled = spelled_power l (fold_bytes body.ready) (fold_bytes rest.ready) body.same rest.same;
        }

  -- The table's pair.
  module _ (c : ℕ) (e : c ≡ pair_digits (get_or source.choices.now (cell n.behind q) 0)) where
    entry : (cost : ℕ) × BestKey A P tree (rejoined cost (get_or source.choices.now (cell n.behind q) 0))
    unfolding back
    entry =
        let b = n.behind in
        let x = n.ready.filled.entry b tree itself 0 size some (omega arith) (to_end (omega arith)) in
        let zero_size : 0 + size ≡ size = omega arith in (
          get_or n.ready.costs (cell b q) 0,
          rw (front_whole size tree is_run.plain refl, zero_size, number_last b tree is_run.plain, ← first_number) at x.best,
        )

    is_pair : c ≡ packed entry.1.count entry.1.width
    is_pair = omega (arith, e, pair_is entry.1 (spans_usual A tree (few n.ready)))

    pub node_plain : c ≡ 0 → Plainly n
    unfolding follow
    node_plain h =
        let b = n.behind in
        let x = entry.1 in
        let next : next_of source q ≡ number b tree 1 = (followed 0 1 q (omega (arith, some)) first_number).0 in
        let rest = rest_part n.ready 1 (next_of source q) (omega (arith, some)) next in
        record {
          rest = rest.ready;
          falls = omega (arith, number_fall A b 0 1 tree is_run (omega arith) (omega (arith, some)), first_number);
          spelled =
              ap (form_in source.short) (cheapest_plain A P tree is_run (few n.ready) (least_plain A P tree x.count x.width (omega (arith, is_pair)) x.least))
              ∙ form_join source.short (cheapest A P (front 1 tree)) (cheapest A P (back 1 tree))
              ∙ rw rest.same;
        }

    -- A repeat, with its count and width as digits.
    module _ (other : c ≡ 0 → ⊥) where
      chosen : Power A tree entry.1.count entry.1.width
      chosen = power_of (λ y. other (omega (arith, is_pair))) entry.1.least.candidate

      is_count : count_digit c ≡ entry.1.count
      is_count = let r = reach chosen in omega (arith, is_pair, few n.ready)

      is_width : width_digit c ≡ entry.1.width
      is_width = let r = reach chosen in omega (arith, is_pair, few n.ready)

      pub node_body : (w : ℕ) → w ≡ width_digit c → Follows source.nodes.now.nexts q w
      node_body w e = let r = reach chosen in rw (e, is_width) (followed 0 entry.1.width q (omega arith) first_number).1

      pub node_power : (h w stop : ℕ) → h ≡ count_digit c → w ≡ width_digit c → stop ≡ follow source.nodes.now.nexts q w → Repeated n h w stop
      node_power h w stop d e f =
          rw (d, e, is_count, is_width)
          (powered entry.1.count entry.1.width chosen stop (rw (e, is_width) at f) entry.1.least)

-- Two bytes and what follows them, at a place.
record Two (s : List ℕ) (at x y : ℕ) (rest : List ℕ) : Type 0 where
  first : get_or s at 0 ≡ x
  second : get_or s (at + 1) 0 ≡ y
  behind : drop (at + 2) s ≡ rest
  size : length s ≡ at + 2 + length rest

two_at : (s : List ℕ) (at x y : ℕ) (rest : List ℕ) → drop at s ≡ x ∷ y ∷ rest → Two s at x y rest
two_at s at x y rest e =
    let a : at + 0 ≡ at = omega arith in
    record {
      first = rw a at (sym (get_or-drop at s 0 0)) ∙ rw e;
      second = sym (get_or-drop at s 1 0) ∙ rw e;
      behind = sym (drop-drop 2 at s) ∙ rw e;
      size = omega (arith, length-drop at s, ap length e);
    }

-- The first node by what it is.
data Form (t : Forest) : Type 0 where
  a_step : (l : ℕ) (f : Forest) → t ≡ step l f → Form t
  a_group : (l : ℕ) (g f : Forest) → t ≡ group l g f → Form t

form_of : (t : Forest) → Plain t → 0 < nodes t → Form t
unfolding nodes
form_of end p h = absurd (omega arith)
form_of (step l f) p h = a_step l f refl
form_of (group l g f) p h = a_group l g f refl
form_of (repeat k w g f) p h = absurd p

-- A group alone: what it holds is a sequence with the numbers between its own and the next one's.
pub record Grouped {source : Source} {q : ℕ} (n : NodeReady source q) : Type 0 where
  pub inside : WriteReady source (q - 1) (next_of source q)
  pub spelled : node_bytes n ≡ command source q ∷ label source q ∷ fold_bytes inside ++ 0x12 ∷ []
  pub falls : next_of source q < q

module _ {source : Source} {q : ℕ} (n : NodeReady source q) where
  abbrev at : ℕ
  at = get_or source.nodes.now.places q 0

  form : Form n.ready.tree
  form = form_of n.ready.tree (n.ready.is_run n.ready.allowed).plain (omega (arith, n.ready.counted, n.some))

  module _ (l : ℕ) (f : Forest) (e : n.ready.tree ≡ step l f) where
    at_step : Two source.run.now at 0x10 l (bytes f ++ n.ready.rest)
    unfolding form_in nodes
    at_step =
        let here : q ≡ n.behind + (1 + nodes f) = n.ready.counted ∙ ap (λ (t : Forest). n.behind + nodes t) e in
        let placed : at ≡ n.ready.place = rw (← here) at (rw e at n.ready.listed).0.0 in
        two_at source.run.now at 0x10 l (bytes f ++ n.ready.rest) (rw placed (n.ready.stands ∙ rw e))

    spelled_step : node_bytes n ≡ 0x10 ∷ l ∷ []
    unfolding front form_in
    spelled_step = rw (e, cheapest_step n.ready.allowed n.ready.prices_are l)

  module _ (l : ℕ) (g f : Forest) (e : n.ready.tree ≡ group l g f) where
    here : q ≡ n.behind + (1 + nodes g + nodes f)
    unfolding nodes
    here = n.ready.counted ∙ ap (λ (t : Forest). n.behind + nodes t) e

    next : next_of source q ≡ n.behind + nodes f
    next = rw (← here) at (rw e at n.ready.listed).0.1

    placed : at ≡ n.ready.place
    placed = rw (← here) at (rw e at n.ready.listed).0.0

    at_group : Two source.run.now at 0x11 l ((bytes g ++ 0x12 ∷ bytes f) ++ n.ready.rest)
    unfolding form_in
    at_group = two_at source.run.now at 0x11 l ((bytes g ++ 0x12 ∷ bytes f) ++ n.ready.rest) (rw placed (n.ready.stands ∙ rw e))

    spelled_group : node_bytes n ≡ 0x11 ∷ l ∷ form_in source.short (cheapest n.ready.allowed n.ready.prices_are g) ++ 0x12 ∷ []
    unfolding front form_in
    spelled_group =
        rw (e, cheapest_group n.ready.allowed n.ready.prices_are l g (run_front 1 (rw e at (n.ready.is_run n.ready.allowed))))

    inside_ready : WriteReady source (q - 1) (next_of source q)
    unfolding back
    inside_ready =
        let after : number n.behind n.ready.tree 1 ≡ next_of source q = ap (λ (t : Forest). number n.behind t 1) e ∙ sym next in
        record {
          tree = g;
          is_run = λ A. run_body (rw e at (n.ready.is_run A));
          place = at + 2;
          rest = 0x12 ∷ bytes f ++ n.ready.rest;
          stands = at_group.behind ∙ append_assoc (bytes g) (0x12 ∷ bytes f) n.ready.rest;
          listed = rw (next, placed) (rw e at n.ready.listed).1;
          counted = omega (arith, here, next);
          total = omega (arith, n.ready.total);
          room = omega (arith, n.ready.room, cells_mono (q - 1) q (omega arith));
          allowed = n.ready.allowed;
          prices_are = n.ready.prices_are;
          costs = n.ready.costs;
          filled = rw after at (used_group 0 l g f e n.ready.filled);
        }

    grouped : Grouped n
    unfolding inside_ready
    grouped =
        record {
          inside = inside_ready;
          spelled = spelled_group ∙ rw (at_group.first, at_group.second);
          falls = omega (arith, here, next);
        }

  pub node_start : get_or source.nodes.now.places q 0 + 2 ≤ length source.run.now
  node_start = by_form form
    where
      by_form : Form n.ready.tree → at + 2 ≤ length source.run.now
      by_form (a_step l f e) = omega (arith, (at_step l f e).size)
      by_form (a_group l g f e) = omega (arith, (at_group l g f e).size)

  pub node_two : 2 ≤ length (node_bytes n)
  node_two = by_form form
    where
      by_form : Form n.ready.tree → 2 ≤ length (node_bytes n)
      by_form (a_step l f e) = omega (arith, ap length (spelled_step l f e))
      by_form (a_group l g f e) = omega (arith, ap length (spelled_group l g f e))

  pub node_step : command source q ≡ 0x10 → node_bytes n ≡ command source q ∷ label source q ∷ []
  node_step h = by_form form
    where
      by_form : Form n.ready.tree → node_bytes n ≡ get_or source.run.now at 0 ∷ get_or source.run.now (at + 1) 0 ∷ []
      by_form (a_step l f e) = spelled_step l f e ∙ rw ((at_step l f e).first, (at_step l f e).second)
      by_form (a_group l g f e) = absurd (omega (arith, (at_group l g f e).first))

  pub node_group : (command source q ≡ 0x10 → ⊥) → Grouped n
  node_group h = by_form form
    where
      by_form : Form n.ready.tree → Grouped n
      by_form (a_step l f e) = absurd (h (at_step l f e).first)
      by_form (a_group l g f e) = grouped l g f e
