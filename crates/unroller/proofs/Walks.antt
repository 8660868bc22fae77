-- The walk that writes: what is written item by item is what the whole unrolls to.
use mathlib.Core.Path.{◌≡◌, refl, sym, ap, ◌∙◌}
use mathlib.Core.List.{List, [], ◌∷◌, ◌++◌}
use mathlib.Core.Logic.{◌≢◌}
use Prim.Native.Nat.{ℕ, suc, ◌+◌, ◌*◌, ◌-◌, ◌≤◌, ◌<◌}
use native.Mathlib.Omega.{arith}
use lib.ListN.{length, length-append, get_or, set, length-set, take, drop}
use lib.Seq.{sets, length-sets}
use Rattle.format.specs.Forest.{Forest, end, step, group, repeat, join, unroll, form_in, bytes}
use Rattle.format.specs.Machine.{times}
use Rattle.format.proofs.Forests.{bytes_join, unroll_join}
use Rattle.format.proofs.Lists.{sets_append}
use Rattle.format.proofs.Standing.{along_total, one_some, item_step, NoItem, Along, along_none, along_ended, next, next_item, along_more}
use Rattle.unroller.specs.inner.Writing.{SequenceFrom, ItemFrom, PassedOver}
use Rattle.unroller.specs.declared.write.Place.{Place}
use Rattle.unroller.proofs.Stores.{sets_part}
use Rattle.unroller.proofs.Places.{unrolled_step, unrolled_group, unrolled_repeat, size_step, size_group, size_repeat, unrolled_size, unrolled_adds, behind, body_of, its_repeat, repeat_some, repeat_fits, repeat_inside, its_group, group_fits, group_inside}

-- Writing keeps the length of the output.
put_length : {a b : List ℕ} {w r : Place} {f : Forest} → PassedOver a b w f r → length b ≡ length a
put_length {a} {b} {w} {r} {f} y = ap length y.output ∙ length-sets a w.to (bytes (unroll f))

-- The output with the open and the label of a node.
abbrev pub opened : List ℕ → List ℕ → Place → List ℕ
opened s out w = set (set out w.to (get_or s w.at 0)) (w.to + 1) (get_or s (w.at + 1) 0)

pub opened_length : (s out : List ℕ) (w : Place) → length (opened s out w) ≡ length out
opened_length s out w = simp length-set

-- A step is its command and its label.
put_step : (out : List ℕ) (w : Place) (c l : ℕ) → c ≡ 0x10 → PassedOver out (set (set out w.to c) (w.to + 1) l) w (step l end) (behind w)
unfolding form_in
put_step out w c l e =
    record {
      passed = refl;
      reached = omega (arith, size_step l);
      output = let n : w.to + 1 ≡ suc w.to = omega arith in rw (unrolled_step l, e, n);
    }

pub step_put : {s : List ℕ} (out : List ℕ) {w : Place} {f : Forest} → ItemFrom s (length out) w f → get_or s w.at 0 ≡ 0x10
    → PassedOver out (opened s out w) w f (behind w)
step_put {s} out {w} i e = rw (item_step i.stands e) (put_step out w _ (get_or s (w.at + 1) 0) e)

-- A group is its open and its label, its body and its close.
put_group : (out : List ℕ) (w : Place) (c l : ℕ) (b : Forest) (r : Place) (after : List ℕ) → c ≡ 0x11
    → PassedOver (set (set out w.to c) (w.to + 1) l) after (behind w) b r
    → PassedOver out (set after r.to 0x12) w (group l b end) (record { at = r.at + 1; to = r.to + 1 })
unfolding form_in
put_group out w c l b r after e y =
    record {
      passed = omega (arith, y.passed, length-append (bytes b) (0x12 ∷ []));
      reached = omega (arith, y.reached, size_group l b);
      output =
          let m : w.to + 1 ≡ suc w.to = omega arith in
          let n : w.to + 2 ≡ suc (suc w.to) = omega arith in
          rw (y.output, e, m, n, unrolled_group l b)
          (sym
          (sets_append (bytes (unroll b)) (0x12 ∷ []) (set (set out w.to 0x11) (suc w.to) l) (suc (suc w.to)) r.to
          (omega (arith, y.reached))));
    }

module _ {s : List ℕ} (out : List ℕ) {w : Place} {f : Forest} (i : ItemFrom s (length out) w f)
    (e : get_or s w.at 0 ≢ 0x20) (g : get_or s w.at 0 ≢ 0x10) where
  pub opened_inside : SequenceFrom s (length (opened s out w)) (behind w) (its_group i e g).body
  opened_inside = group_inside i e g (length (opened s out w)) (opened_length s out w)

  module _ {r : Place} {after : List ℕ}
      (put : (b : Forest) → SequenceFrom s (length (opened s out w)) (behind w) b → PassedOver (opened s out w) after (behind w) b r) where
    body_put : PassedOver (opened s out w) after (behind w) (its_group i e g).body r
    body_put = put (its_group i e g).body opened_inside

    pub group_next : r.at < length s
    group_next = omega (arith, body_put.passed, (its_group i e g).there)

    pub group_room : r.to < length after
    group_room = omega (arith, body_put.reached, group_fits i e g, put_length body_put, opened_length s out w)

    pub group_put : PassedOver out (set after r.to 0x12) w f (record { at = r.at + 1; to = r.to + 1 })
    group_put = rw (its_group i e g).is (put_group out w _ (get_or s (w.at + 1) 0) (its_group i e g).body r after (its_group i e g).byte body_put)

-- A repeat is its body, written once and then copied on.
put_repeat : (out : List ℕ) (w : Place) (h k : ℕ) (b : Forest) (r : Place) (after last : List ℕ) (to : ℕ) → 1 ≤ h
    → w.to + length (bytes (unroll b)) ≤ length out
    → PassedOver out after (body_of w) b r
    → to ≡ r.to + (h - 1) * (r.to - w.to)
    → last ≡ sets after r.to (times (h - 1) (drop w.to (take r.to after)))
    → PassedOver out last w (repeat h k b end) (record { at = r.at + 1; to = to })
unfolding form_in
put_repeat out w h k b r after last to some fits y there copied =
    let x = bytes (unroll b) in
    record {
      passed = omega (arith, y.passed, length-append (bytes b) (0x21 ∷ []));
      reached =
          let d : r.to - w.to ≡ length x = omega (arith, y.reached) in
          rw (there, d) (omega (arith, y.reached, size_repeat h k b some));
      output =
          let source : drop w.to (take r.to after) ≡ x = rw y.output (sets_part x out w.to r.to fits y.reached) in
          copied
          ∙ rw (source, y.output, unrolled_repeat h k b some)
          (sym (sets_append x (times (h - 1) x) out w.to r.to (sym y.reached)));
    }

module _ {s : List ℕ} (out : List ℕ) {w : Place} {f : Forest} (i : ItemFrom s (length out) w f) (e : get_or s w.at 0 ≡ 0x20) {count : ℕ}
    (read : count ≡ get_or s (w.at + 1) 0 * 256 + get_or s (w.at + 1 + 1) 0) where
  pub count_some : 1 ≤ count
  count_some = omega (arith, read, (its_repeat i e).operand, (its_repeat i e).twice)

  module _ {r : Place} {after : List ℕ} (put : (b : Forest) → SequenceFrom s (length out) (body_of w) b → PassedOver out after (body_of w) b r) where
    pass_put : PassedOver out after (body_of w) (its_repeat i e).body r
    pass_put = put (its_repeat i e).body (repeat_inside i e)

    pub repeat_next : r.at < length s
    repeat_next = omega (arith, pass_put.passed, (its_repeat i e).there)

    pub repeat_room : (w.to ≤ r.to) × (r.to + (count - 1) * (r.to - w.to) ≤ length after)
    repeat_room =
        let one : r.to - w.to ≡ length (bytes (unroll (its_repeat i e).body)) = omega (arith, pass_put.reached) in
        (omega (arith, pass_put.reached), rw (one, read ∙ (its_repeat i e).operand, put_length pass_put) (omega (arith, pass_put.reached, repeat_fits i e)))

    pub repeat_put : {to : ℕ} {last : List ℕ} → to ≡ r.to + (count - 1) * (r.to - w.to)
        → last ≡ sets after r.to (times (count - 1) (drop w.to (take r.to after)))
        → PassedOver out last w f (record { at = r.at + 1; to = to })
    repeat_put {to} {last} there copied =
        let n = read ∙ (its_repeat i e).operand in
        rw (its_repeat i e).is
        (put_repeat out w (its_repeat i e).count (its_repeat i e).width (its_repeat i e).body r after last to (repeat_some i e) (omega (arith, repeat_fits i e)) pass_put (rw n at there) (rw n at copied))

-- One sequence behind another.
put_join : {a b c : List ℕ} {w r q : Place} {f g : Forest} → PassedOver a b w f r → PassedOver b c r g q → PassedOver a c w (join f g) q
put_join {a} {b} {c} {w} {r} {q} {f} {g} y z =
    let e : bytes (unroll (join f g)) ≡ bytes (unroll f) ++ bytes (unroll g) = rw unroll_join (bytes_join (unroll f) (unroll g)) in
    record {
      passed = rw bytes_join (omega (arith, y.passed, z.passed, length-append (bytes f) (bytes g)));
      reached = rw e (omega (arith, y.reached, z.reached, length-append (bytes (unroll f)) (bytes (unroll g))));
      output =
          rw (z.output, y.output, e)
          (sym (sets_append (bytes (unroll f)) (bytes (unroll g)) a w.to r.to (sym y.reached)));
    }

-- A walk over the sequence f came from w to p: its first items are written, and the others stand at p.
pub record Writing (s before now : List ℕ) (w p : Place) (f : Forest) (rest : List ℕ) : Type 0 where
  pub along : Along s w.at p.at f rest
  pub put : PassedOver before now w along.done p
  pub fits : w.to + length (bytes (unroll f)) ≤ length before

none_put : (out : List ℕ) (w : Place) → PassedOver out out w end w
unfolding unroll form_in
none_put out w = record { passed = omega arith; reached = omega arith; output = refl }

pub writing_none : {s : List ℕ} (out : List ℕ) {w : Place} {f : Forest} (z : SequenceFrom s (length out) w f)
    → Writing s out out w w f z.stands.rest
writing_none out {w} z = record { along = along_none z.stands.stands; put = none_put out w; fits = z.fits }

module _ {s before now : List ℕ} {w p : Place} {f : Forest} {rest : List ℕ} (a : Writing s before now w p f rest) where
  pub writing_length : length now ≡ length before
  writing_length = put_length a.put

  pub writing_ends : NoItem s p.at → PassedOver before now w f p
  writing_ends e = rw (along_ended a.along e) at a.put

  -- Where an item is left, it stands next and has room.
  module _ (some : a.along.left ≢ end) where
    abbrev pub item : Forest
    item = (next a.along some).front

    pub writing_item : ItemFrom s (length now) p item
    writing_item = record { stands = next_item a.along some; fits = omega (arith, a.put.reached, a.fits, along_total a.along some unrolled_size unrolled_adds, writing_length) }

    module _ {after : List ℕ} {r : Place} (y : PassedOver now after p item r) where
      pub writing_further : p.at < r.at
      writing_further = omega (arith, y.passed, one_some (next a.along some).one)

      pub writing_more : Writing s before after w r f rest
      writing_more = record { along = along_more a.along some r.at y.passed; put = put_join a.put y; fits = a.fits }
