-- The walk that counts: what it passes over item by item is the whole, and its nodes add up.
use mathlib.Core.Path.{◌≡◌, refl, ap, ◌∙◌}
use mathlib.Core.List.{List, [], ◌∷◌}
use mathlib.Core.Logic.{◌≢◌}
use Prim.Native.Nat.{ℕ, ◌+◌, ◌*◌, ◌≤◌, ◌<◌}
use native.Mathlib.Nat.{mul-le-mul}
use native.Mathlib.Omega.{arith}
use lib.ListN.{length, length-append, get_or}
use Rattle.format.specs.Limits.{limits}
use Rattle.format.specs.Forest.{Forest, end, step, group, repeat, nodes, form_in, bytes}
use Rattle.format.specs.inner.Standing.{One, one_step, one_group, one_repeat, FormAt}
use Rattle.format.proofs.Forests.{nodes_join}
use Rattle.format.proofs.Standing.{nodes_adds, along_total, one_some, repeat_byte, RepeatAt, GroupAt, item_repeat, item_step, item_group, NoItem, Along, along_none, along_ended, next, next_item, along_more}
use Rattle.index.specs.inner.Passing.{SequenceFrom, ItemFrom, PassedOver}
use Rattle.index.specs.declared.pass.Spot.{Spot}

-- What each kind of item has, of nodes and of bytes.
step_has : (l : ℕ) → (nodes (step l end) ≡ 1) × (length (bytes (step l end)) ≡ 2)
unfolding nodes form_in
step_has l = (refl, refl)

group_has : (l : ℕ) (b : Forest) → (nodes (group l b end) ≡ 1 + nodes b) × (length (bytes (group l b end)) ≡ 3 + length (bytes b))
unfolding nodes form_in
group_has l b = (omega arith, omega (arith, length-append (bytes b) (0x12 ∷ [])))

repeat_has : (h w : ℕ) (b : Forest) → (nodes (repeat h w b end) ≡ h * nodes b) × (length (bytes (repeat h w b end)) ≡ 6 + length (bytes b))
unfolding nodes form_in
repeat_has h w b = (omega arith, omega (arith, length-append (bytes b) (0x21 ∷ [])))

node_some : {s : List ℕ} {p : ℕ} {f : Forest} {rest : List ℕ} → One f → FormAt s p f rest → get_or s p 0 ≢ 0x20 → 1 ≤ nodes f
node_some (one_step l) z e = omega (arith, (step_has l).0)
node_some (one_group l b) z e = omega (arith, (group_has l b).0)
node_some (one_repeat h w b) z e = absurd (e (repeat_byte z))

-- The spot in front of a repeat's body, where counting starts anew; behind the open and the label of a node.
abbrev pub body_of : ℕ → Spot
body_of p = record { at = p + 5; nodes = 0 }

abbrev pub inside : Spot → Spot
inside w = record { at = w.at + 2; nodes = w.nodes + 1 }

module _ {s : List ℕ} {w : Spot} {f : Forest} (i : ItemFrom s w f) where
  pub step_passed : get_or s w.at 0 ≡ 0x10 → PassedOver w f (inside w)
  step_passed e =
      let is = item_step i.stands e in
      let has = step_has (get_or s (w.at + 1) 0) in
      rw is (record { passed = omega (arith, has.1); counted = omega (arith, has.0) })

  -- A step or a group: its own node is within the limit.
  pub node_few : get_or s w.at 0 ≢ 0x20 → w.nodes + 1 ≤ limits.nodes
  node_few e = omega (arith, i.few, node_some i.stands.one i.stands.stands e)

  module _ (e : get_or s w.at 0 ≢ 0x20) (g : get_or s w.at 0 ≢ 0x10) where
    abbrev pub its_group : GroupAt s w.at f
    its_group = item_group i.stands e g

    few_inside : w.nodes + 1 + nodes its_group.body ≤ limits.nodes
    few_inside = omega (arith, i.few, ap nodes its_group.is, (group_has (get_or s (w.at + 1) 0) its_group.body).0)

    -- The count goes on inside with the group's own node.
    module _ {n : ℕ} (own : n ≡ w.nodes + 1) where
      pub group_inside : SequenceFrom s (record { at = w.at + 2; nodes = n }) its_group.body
      group_inside = record { stands = its_group.inside; few = omega (arith, few_inside, own) }

      module _ {r : Spot}
          (pass : (b : Forest) → SequenceFrom s (record { at = w.at + 2; nodes = n }) b → PassedOver (record { at = w.at + 2; nodes = n }) b r) where
        pub group_next : r.at < length s
        group_next = omega (arith, (pass its_group.body group_inside).passed, its_group.there)

        pub group_passed : PassedOver w f (record { at = r.at + 1; nodes = r.nodes })
        group_passed =
            let y = pass its_group.body group_inside in
            let has = group_has (get_or s (w.at + 1) 0) its_group.body in
            rw its_group.is (record { passed = omega (arith, y.passed, has.1); counted = omega (arith, y.counted, own, has.0) })

  module _ (e : get_or s w.at 0 ≡ 0x20) where
    abbrev pub its_repeat : RepeatAt s w.at f
    its_repeat = item_repeat i.stands e

    all_few : w.nodes + its_repeat.count * nodes its_repeat.body ≤ limits.nodes
    all_few = omega (arith, i.few, ap nodes its_repeat.is, (repeat_has its_repeat.count its_repeat.width its_repeat.body).0)

    pub repeat_inside : SequenceFrom s (body_of w.at) its_repeat.body
    repeat_inside =
        let one : 1 * nodes its_repeat.body ≤ its_repeat.count * nodes its_repeat.body =
        mul-le-mul (omega (arith, its_repeat.twice)) (omega arith) in
        record { stands = its_repeat.inside; few = omega (arith, all_few) }

    module _ {r : Spot} (pass : (b : Forest) → SequenceFrom s (body_of w.at) b → PassedOver (body_of w.at) b r)
        {count : ℕ} (read : count ≡ get_or s (w.at + 1) 0 * 256 + get_or s (w.at + 1 + 1) 0) where
      counted : w.nodes + count * r.nodes ≡ w.nodes + its_repeat.count * nodes its_repeat.body
      counted =
          let y = pass its_repeat.body repeat_inside in
          let n : r.nodes ≡ nodes its_repeat.body = omega (arith, y.counted) in
          rw (n, read ∙ its_repeat.operand)

      pub repeat_few : w.nodes + count * r.nodes ≤ limits.nodes
      repeat_few = omega (arith, counted, all_few)

      pub repeat_next : r.at < length s
      repeat_next = omega (arith, (pass its_repeat.body repeat_inside).passed, its_repeat.there)

      pub repeat_passed : PassedOver w f (record { at = r.at + 1; nodes = w.nodes + count * r.nodes })
      repeat_passed =
          let y = pass its_repeat.body repeat_inside in
          let has = repeat_has its_repeat.count its_repeat.width its_repeat.body in
          rw its_repeat.is (record { passed = omega (arith, y.passed, has.1); counted = counted ∙ omega (arith, has.0) })

-- A walk over the sequence f came from w to p, and counted the nodes of the items that it passed.
pub record Walked (s : List ℕ) (w p : Spot) (f : Forest) (rest : List ℕ) : Type 0 where
  pub along : Along s w.at p.at f rest
  pub counted : p.nodes ≡ w.nodes + nodes along.done
  pub few : w.nodes + nodes f ≤ limits.nodes

pub none_counted : (n : ℕ) → n ≡ n + nodes end
unfolding nodes
none_counted n = omega arith

abbrev pub walked_none : {s : List ℕ} {w : Spot} {f : Forest} {rest : List ℕ} → FormAt s w.at f rest → w.nodes + nodes f ≤ limits.nodes
    → Walked s w w f rest
walked_none {w = w} z few = record { along = along_none z; counted = none_counted w.nodes; few = few }

module _ {s : List ℕ} {w p : Spot} {f : Forest} {rest : List ℕ} (a : Walked s w p f rest) where
  pub walked_ended : NoItem s p.at → PassedOver w f p
  walked_ended e =
      let all = along_ended a.along e in
      record {
        passed = a.along.passed ∙ ap (λ (g : Forest). w.at + length (bytes g)) all;
        counted = a.counted ∙ ap (λ (g : Forest). w.nodes + nodes g) all;
      }

  module _ (some : a.along.left ≢ end) where
    abbrev pub item : Forest
    item = (next a.along some).front

    pub walked_item : ItemFrom s p item
    walked_item = record { stands = next_item a.along some; few = omega (arith, a.counted, a.few, along_total a.along some nodes nodes_adds) }

    module _ {r : Spot} (y : PassedOver p item r) where
      pub walked_further : p.at < r.at
      walked_further = omega (arith, y.passed, one_some (next a.along some).one)

      abbrev pub walked_more : Walked s w r f rest
      walked_more =
          record {
            along = along_more a.along some r.at y.passed;
            counted = omega (arith, y.counted, a.counted, nodes_join a.along.done item);
            few = a.few;
          }
