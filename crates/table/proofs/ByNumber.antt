-- What a listing of a run's nodes says of each sibling of a sequence, and of what a group in it holds.
use mathlib.Core.Path.{◌≡◌, refl, ap, ◌∙◌}
use mathlib.Core.List.{List, ◌∷◌}
use Prim.Native.Nat.{ℕ, ◌+◌, ◌-◌, ◌<◌}
use native.Mathlib.Omega.{arith}
use lib.ListN.{length, get_or, length-append}
use Rattle.format.specs.Forest.{Forest, end, step, group, repeat, Plain, join, siblings, nodes, form_in, bytes, Allowed}
use Rattle.format.proofs.Forests.{nodes_join}
use Rattle.optimum.specs.Cheapest.{Run, front, back}
use Rattle.optimum.proofs.Cut.{join_cut, siblings_back, run_front, run_back, run_body}
use Rattle.table.specs.Table.{number}
use Rattle.table.specs.Nodes.{ListedAt, NodesListed, SpanListed}
use Rattle.table.specs.declared.nodes.Span.{Span}
use Rattle.table.proofs.Listings.{place}
use Rattle.table.proofs.Tables.{number_within, number_first, back_next, number_after_group}

module _ (places nexts : List ℕ) where
  -- The same places and numbers, written another way.
  listed_at : (q q' at next next' : ℕ) → q ≡ q' → next ≡ next' → ListedAt places nexts q at next → ListedAt places nexts q' at next'
  listed_at q q' at next next' e f h = (rw (← e) h.0, rw (← e, ← f) h.1)

  pub listed_same : (t : Forest) (at at' b b' : ℕ) → at ≡ at' → b ≡ b' → NodesListed places nexts at b t → NodesListed places nexts at' b' t
  listed_same t at at' b b' e f h = rw (← e, ← f) h

  -- A sequence is listed part by part.
  pub listed_parts : (x y : Forest) (at b : ℕ) → Plain x → NodesListed places nexts at b (join x y)
      → NodesListed places nexts at (b + nodes y) x × NodesListed places nexts (at + length (bytes x)) b y
  unfolding join nodes form_in
  listed_parts end y at b p h = (tt, listed_same y at (at + 0) b b (omega arith) refl h)
  listed_parts (step l f) y at b p h =
      let r = listed_parts f y (at + 2) b p h.1 in (
        (listed_at _ _ at _ _ (omega (arith, nodes_join f y)) (omega (arith, nodes_join f y)) h.0, r.0),
        listed_same y _ _ b b (omega arith) refl r.1,
      )
  listed_parts (group l g f) y at b p h =
      let r = listed_parts f y (at + 3 + length (bytes g)) b p.1 h.2 in (
        (
          listed_at _ _ at _ _ (omega (arith, nodes_join f y)) (omega (arith, nodes_join f y)) h.0,
          listed_same g (at + 2) (at + 2) _ _ refl (omega (arith, nodes_join f y)) h.1,
          r.0,
        ),
        listed_same y _ _ b b (omega (arith, length-append (bytes g) (0x12 ∷ bytes f))) refl r.1,
      )
  listed_parts (repeat k w g f) y at b p h = absurd p

  pub listed_join : (x y : Forest) (at b : ℕ) → Plain x → NodesListed places nexts at (b + nodes y) x
      → NodesListed places nexts (at + length (bytes x)) b y → NodesListed places nexts at b (join x y)
  unfolding join nodes form_in
  listed_join end y at b p h k = listed_same y _ at b b (omega arith) refl k
  listed_join (step l f) y at b p h k = (
    listed_at _ _ at _ _ (omega (arith, nodes_join f y)) (omega (arith, nodes_join f y)) h.0,
    listed_join f y (at + 2) b p h.1 (listed_same y _ _ b b (omega arith) refl k),
  )
  listed_join (group l g f) y at b p h k = (
    listed_at _ _ at _ _ (omega (arith, nodes_join f y)) (omega (arith, nodes_join f y)) h.0,
    listed_same g (at + 2) (at + 2) _ _ refl (omega (arith, nodes_join f y)) h.1,
    listed_join f y (at + 3 + length (bytes g)) b p.1 h.2
        (listed_same y _ _ b b (omega (arith, length-append (bytes g) (0x12 ∷ bytes f))) refl k),
  )
  listed_join (repeat m w g f) y at b p h k = absurd p

  -- The siblings from sibling i on.
  module _ (A : Allowed) (at b : ℕ) (t : Forest) (r : Run A t) (h : NodesListed places nexts at b t) (i : ℕ) where
    pub listed_back : NodesListed places nexts (at + place i t) b (back i t)
    listed_back = (listed_parts (front i t) (back i t) at b (run_front i r).plain (rw join_cut h)).1

    -- Sibling i.
    listed_sibling : i < siblings t → ListedAt places nexts (number b t i) (at + place i t) (number b t (i + 1))
    unfolding siblings nodes back
    listed_sibling l = by_form (back i t) refl
      where
        by_form : (f : Forest) → back i t ≡ f → ListedAt places nexts (number b t i) (at + place i t) (number b t (i + 1))
        by_form end e = absurd (omega (arith, ap siblings e, siblings_back i t r.plain (omega arith)))
        by_form (step k f) e = rw (back_next i t (step k f) e, e) (rw e at listed_back).0
        by_form (group k g f) e = rw (back_next i t (group k g f) e, e) (rw e at listed_back).0
        by_form (repeat k w g f) e = absurd (rw e at (run_back i r).plain)

    pub listed_place : i < siblings t → get_or places (number b t i) 0 ≡ at + place i t
    listed_place l = (listed_sibling l).0

    pub listed_next : i < siblings t → get_or nexts (number b t i) 0 ≡ number b t (i + 1)
    listed_next l = (listed_sibling l).1

    -- What it holds where it is a group.
    module _ (k : ℕ) (g f : Forest) (e : back i t ≡ group k g f) where
      pub listed_group : NodesListed places nexts (at + place i t + 2) (number b t (i + 1)) g
      unfolding back
      listed_group = rw (back_next i t (group k g f) e) (rw e at listed_back).1

-- What a group holds is not empty, and its first node has the next lower number.
module _ (places nexts : List ℕ) (A : Allowed) (at b : ℕ) (t : Forest) (r : Run A t) (h : NodesListed places nexts at b t) (i k : ℕ) (g f : Forest)
    (e : back i t ≡ group k g f) where
  listed_inside : get_or places (number b t i - 1) 0 ≡ at + place i t + 2
  unfolding front form_in
  listed_inside =
      let u = rw e at (run_back i r) in
      let c = number b t (i + 1) in
      let q : number b t i - 1 ≡ number c g 0 = omega (arith, number_after_group b i t k g f e, number_first c g) in
      let inner = listed_group places nexts A at b t r h i k g f e in
      rw q (listed_place places nexts A (at + place i t + 2) c g (run_body u) inner 0 u.sound.0 ∙ omega arith)

-- Its span, by the group's own number q.
pub span_inside : (places nexts : List ℕ) (A : Allowed) (span : Span) (t : Forest) → Run A t → SpanListed places nexts span t → (i k : ℕ) (g f : Forest)
    → back i t ≡ group k g f → (q : ℕ) → q ≡ number span.behind t i → (inside : Span) → inside.start ≡ get_or places (q - 1) 0
    → inside.first + 1 ≡ q → inside.behind ≡ number span.behind t (i + 1) → SpanListed places nexts inside g
span_inside places nexts A span t r h i k g f e q b inside u v w =
    let after = number_after_group span.behind i t k g f e in
    record {
      listed =
          rw (u, w, b, listed_inside places nexts A span.start span.behind t r h.listed i k g f e)
          (listed_group places nexts A span.start span.behind t r h.listed i k g f e);
      numbered = omega arith;
      few = omega (arith, h.few, h.numbered, number_within span.behind i t);
    }
