-- What stands at a place: what a tree's byte form there says of the bytes, item by item; and how a walk over a sequence goes on
-- from one item to the next.
use mathlib.Core.Path.{◌≡◌, refl, sym, ap, ◌∙◌}
use mathlib.Core.List.{List, [], ◌∷◌, ◌++◌, append_assoc, append-nil}
use mathlib.Core.Logic.{inl, inr, ◌≢◌}
use Prim.Native.Nat.{ℕ, ◌+◌, ◌*◌, ◌-◌, ◌≤◌, ◌<◌}
use native.Mathlib.Omega.{arith}
use lib.ListN.{length, length-append, length-drop, get_or, drop}
use lib.Seq.{get_or-drop, drop-drop, drop-append_seam, get_or-append_seam}
use Rattle.format.specs.Forest.{Forest, end, step, group, repeat, join, nodes, form_in, bytes, Allowed, Sound}
use Rattle.format.specs.inner.Standing.{Ends, One, one_step, one_group, one_repeat, FormAt, SequenceAt, ItemAt}
use Rattle.format.proofs.Bridge.{word_again}
use Rattle.format.proofs.Forests.{join_end, join_assoc, bytes_join, nodes_join, sound_parts}

-- The byte form of an item is not empty.
pub one_some : {f : Forest} → One f → 0 < length (bytes f)
unfolding form_in
one_some (one_step l) = omega arith
one_some (one_group l b) = omega arith
one_some (one_repeat h w b) = omega arith

-- The bytes from a place on are those of the tree and the rest.
module _ {s : List ℕ} {p : ℕ} {f : Forest} {rest : List ℕ} (z : FormAt s p f rest) where
  byte_at : (k q : ℕ) → p + k ≡ q → get_or s q 0 ≡ get_or (bytes f ++ rest) k 0
  byte_at k q e = rw (← e) (sym (get_or-drop p s k 0) ∙ rw z.form)

  first_byte : get_or s p 0 ≡ get_or (bytes f ++ rest) 0 0
  first_byte = byte_at 0 p (omega arith)

  form_from : (k q : ℕ) → p + k ≡ q → drop q s ≡ drop k (bytes f ++ rest)
  form_from k q e = rw (← e) (sym (drop-drop k p s) ∙ rw z.form)

  remain : length s - p ≡ length (bytes f) + length rest
  remain = sym (length-drop p s) ∙ ap length z.form ∙ length-append (bytes f) rest

  pub behind : (q : ℕ) → q ≡ p + length (bytes f) → drop q s ≡ rest
  behind q e = form_from (length (bytes f)) q (sym e) ∙ drop-append_seam (bytes f) rest

-- Bytes that are the form of a tree stand at their own start.
pub whole_form : {s : List ℕ} {f : Forest} (A : Allowed) → Sound A f → bytes f ≡ s → FormAt s 0 f []
whole_form {s} {f} A sound form = record { form = sym form ∙ sym (append-nil (bytes f)); allowed = A; sound = sound }

-- The byte behind a tree's form, and what stands behind that.
module _ {s : List ℕ} {p c : ℕ} {f : Forest} {rest : List ℕ} (z : FormAt s p f (c ∷ rest)) where
  next_byte : (q : ℕ) → q ≡ p + length (bytes f) → get_or s q 0 ≡ c
  next_byte q e = byte_at z (length (bytes f)) q (sym e) ∙ get_or-append_seam (bytes f) c rest 0

  past_byte : (q : ℕ) → q ≡ p + length (bytes f) + 1 → drop q s ≡ rest
  past_byte q e = rw e (sym (drop-drop 1 (p + length (bytes f)) s) ∙ ap (drop 1) (behind z (p + length (bytes f)) refl))

-- A step, a group and a repeat at a place, whatever items follow: what is read of them, and what stands inside and behind.
module _ {s : List ℕ} {p l : ℕ} {f : Forest} {rest : List ℕ} (z : FormAt s p (step l f) rest) where
  pub step_there : p + 2 ≤ length s
  unfolding form_in
  step_there = omega (arith, remain z)

  pub step_byte : get_or s p 0 ≡ 0x10
  unfolding form_in
  step_byte = first_byte z

  pub step_label : get_or s (p + 1) 0 ≡ l
  unfolding form_in
  step_label = byte_at z 1 (p + 1) refl

  pub step_behind : FormAt s (p + 2) f rest
  unfolding form_in
  step_behind = record { form = form_from z 2 (p + 2) refl; allowed = z.allowed; sound = z.sound }

module _ {s : List ℕ} {p l : ℕ} {b f : Forest} {rest : List ℕ} (z : FormAt s p (group l b f) rest) where
  pub group_there : p + 2 + length (bytes b) < length s
  unfolding form_in
  group_there = omega (arith, remain z, length-append (bytes b) (0x12 ∷ bytes f))

  pub group_byte : get_or s p 0 ≡ 0x11
  unfolding form_in
  group_byte = first_byte z

  pub group_label : get_or s (p + 1) 0 ≡ l
  unfolding form_in
  group_label = byte_at z 1 (p + 1) refl

  pub group_inside : FormAt s (p + 2) b (0x12 ∷ bytes f ++ rest)
  unfolding form_in
  group_inside =
      record {
        form = form_from z 2 (p + 2) refl ∙ append_assoc (bytes b) (0x12 ∷ bytes f) rest;
        allowed = z.allowed;
        sound = z.sound.1;
      }

  pub group_close : (q : ℕ) → q ≡ p + 2 + length (bytes b) → get_or s q 0 ≡ 0x12
  group_close q e = next_byte group_inside q e

  pub group_behind : (q : ℕ) → q ≡ p + 3 + length (bytes b) → FormAt s q f rest
  group_behind q e =
      record { form = past_byte group_inside q (omega (arith, e)); allowed = z.allowed; sound = z.sound.2 }

module _ {s : List ℕ} {p h w : ℕ} {b f : Forest} {rest : List ℕ} (z : FormAt s p (repeat h w b f) rest) where
  pub repeat_there : p + 5 + length (bytes b) < length s
  unfolding form_in
  repeat_there = omega (arith, remain z, length-append (bytes b) (0x21 ∷ bytes f))

  pub repeat_byte : get_or s p 0 ≡ 0x20
  unfolding form_in
  repeat_byte = first_byte z

  pub repeat_count : get_or s (p + 1) 0 * 256 + get_or s (p + 1 + 1) 0 ≡ h
  unfolding form_in
  repeat_count = rw (byte_at z 1 (p + 1) refl, byte_at z 2 (p + 1 + 1) (omega arith)) (word_again h)

  pub repeat_inside : FormAt s (p + 5) b (0x21 ∷ bytes f ++ rest)
  unfolding form_in
  repeat_inside =
      record {
        form = form_from z 5 (p + 5) refl ∙ append_assoc (bytes b) (0x21 ∷ bytes f) rest;
        allowed = z.allowed;
        sound = z.sound.1;
      }

  pub repeat_behind : (q : ℕ) → q ≡ p + 6 + length (bytes b) → FormAt s q f rest
  repeat_behind q e =
      record { form = past_byte repeat_inside q (omega (arith, e)); allowed = z.allowed; sound = z.sound.2 }

-- A repeat at a place, as an item.
pub record RepeatAt (s : List ℕ) (p : ℕ) (f : Forest) : Type 0 where
  pub count : ℕ
  pub width : ℕ
  pub body : Forest
  pub is : f ≡ repeat count width body end
  pub there : p + 5 + length (bytes body) < length s
  pub operand : get_or s (p + 1) 0 * 256 + get_or s (p + 1 + 1) 0 ≡ count
  pub twice : 2 ≤ count
  pub inside : SequenceAt s (p + 5) body

-- A group at a place, as an item.
pub record GroupAt (s : List ℕ) (p : ℕ) (f : Forest) : Type 0 where
  pub body : Forest
  pub is : f ≡ group (get_or s (p + 1) 0) body end
  pub byte : get_or s p 0 ≡ 0x11
  pub there : p + 2 + length (bytes body) < length s
  pub inside : SequenceAt s (p + 2) body

-- Which kind of item stands at a place is seen by its first byte.
module _ {s : List ℕ} {p : ℕ} where
  repeat_stands : {f : Forest} {rest : List ℕ} → One f → FormAt s p f rest → get_or s p 0 ≡ 0x20 → RepeatAt s p f
  repeat_stands (one_step l) z e = absurd (omega (arith, step_byte z))
  repeat_stands (one_group l b) z e = absurd (omega (arith, group_byte z))
  repeat_stands (one_repeat h k b) z e =
      record {
        count = h;
        width = k;
        body = b;
        is = refl;
        there = repeat_there z;
        operand = repeat_count z;
        twice = z.sound.0.twice;
        inside = record { rest = _; stands = repeat_inside z; ends = inr refl };
      }

  group_stands : {f : Forest} {rest : List ℕ} → One f → FormAt s p f rest → get_or s p 0 ≢ 0x20 → get_or s p 0 ≢ 0x10 → GroupAt s p f
  group_stands (one_step l) z e g = absurd (g (step_byte z))
  group_stands (one_repeat h k b) z e g = absurd (e (repeat_byte z))
  group_stands (one_group l b) z e g =
      record {
        body = b;
        is = rw (group_label z);
        byte = group_byte z;
        there = group_there z;
        inside = record { rest = _; stands = group_inside z; ends = inl refl };
      }

  step_stands : {f : Forest} {rest : List ℕ} → One f → FormAt s p f rest → get_or s p 0 ≡ 0x10 → f ≡ step (get_or s (p + 1) 0) end
  step_stands (one_step l) z e = rw (step_label z)
  step_stands (one_group l b) z e = absurd (omega (arith, group_byte z))
  step_stands (one_repeat h k b) z e = absurd (omega (arith, repeat_byte z))

  node_stands : {f : Forest} {rest : List ℕ} → One f → FormAt s p f rest → get_or s p 0 ≢ 0x20 → p + 2 ≤ length s
  node_stands (one_step l) z e = step_there z
  node_stands (one_group l b) z e = omega (arith, group_there z)
  node_stands (one_repeat h k b) z e = absurd (e (repeat_byte z))

  module _ {f : Forest} (i : ItemAt s p f) where
    pub item_there : p < length s
    item_there = omega (arith, remain i.stands, one_some i.one)

    pub item_repeat : get_or s p 0 ≡ 0x20 → RepeatAt s p f
    item_repeat e = repeat_stands i.one i.stands e

    pub item_node : get_or s p 0 ≢ 0x20 → p + 2 ≤ length s
    item_node e = node_stands i.one i.stands e

    pub item_step : get_or s p 0 ≡ 0x10 → f ≡ step (get_or s (p + 1) 0) end
    item_step e = step_stands i.one i.stands e

    pub item_group : get_or s p 0 ≢ 0x20 → get_or s p 0 ≢ 0x10 → GroupAt s p f
    item_group e g = group_stands i.one i.stands e g

-- A sequence that stands at a place stands there part by part.
module _ {s : List ℕ} {p : ℕ} (f g : Forest) {rest : List ℕ} (z : FormAt s p (join f g) rest) where
  pub front_stands : FormAt s p f (bytes g ++ rest)
  front_stands =
      record {
        form = z.form ∙ rw bytes_join (append_assoc (bytes f) (bytes g) rest);
        allowed = z.allowed;
        sound = (sound_parts z.allowed f g z.sound).0;
      }

  pub back_stands : (q : ℕ) → q ≡ p + length (bytes f) → FormAt s q g rest
  back_stands q e =
      record {
        form = form_from z (length (bytes f)) q (sym e) ∙ rw (bytes_join, append_assoc) (drop-append_seam (bytes f) (bytes g ++ rest));
        allowed = z.allowed;
        sound = (sound_parts z.allowed f g z.sound).1;
      }

-- A sequence, cut behind its first item.
pub record Cut (f : Forest) : Type 0 where
  pub front : Forest
  pub back : Forest
  pub split : join front back ≡ f
  pub one : One front

pub cut : (f : Forest) → f ≢ end → Cut f
unfolding join
cut end some = absurd (some refl)
cut (step l f) some = record { front = step l end; back = f; split = refl; one = one_step l }
cut (group l b f) some = record { front = group l b end; back = f; split = refl; one = one_group l b }
cut (repeat h w b f) some = record { front = repeat h w b end; back = f; split = refl; one = one_repeat h w b }

-- A sequence is not empty where no close stands before the end.
some_left : {s : List ℕ} {p : ℕ} {f : Forest} (rest : List ℕ) → Ends rest → FormAt s p f rest → p < length s
    → get_or s p 0 ≢ 0x12 → get_or s p 0 ≢ 0x21 → f ≢ end
unfolding form_in
some_left [] n z e g h none = omega (arith, remain (rw none at z))
some_left (c ∷ rest) (inl n) z e g h none = g (first_byte (rw none at z) ∙ n)
some_left (c ∷ rest) (inr n) z e g h none = h (first_byte (rw none at z) ∙ n)

-- Where no item begins, a sequence is empty.
abbrev pub NoItem : List ℕ → ℕ → Type 0
NoItem s p = p < length s → (get_or s p 0 ≢ 0x10) × (get_or s p 0 ≢ 0x11) × (get_or s p 0 ≢ 0x20)

none_left : {s : List ℕ} {p : ℕ} (f : Forest) {rest : List ℕ} → FormAt s p f rest → NoItem s p → f ≡ end
none_left end z e = refl
none_left (step l f) z e = absurd ((e (omega (arith, step_there z))).0 (step_byte z))
none_left (group l b f) z e = absurd ((e (omega (arith, group_there z))).1 (group_byte z))
none_left (repeat h w b f) z e = absurd ((e (omega (arith, repeat_there z))).2 (repeat_byte z))

-- A measure of which one sequence behind another has the sum.
pub record Adds (m : Forest → ℕ) : Type 0 where
  pub none : m end ≡ 0
  pub joined : (f g : Forest) → m (join f g) ≡ m f + m g

pub bytes_adds : Adds (λ (f : Forest). length (bytes f))
unfolding form_in
bytes_adds = record { none = refl; joined = λ f g. ap length (bytes_join f g) ∙ length-append (bytes f) (bytes g) }

pub nodes_adds : Adds nodes
unfolding nodes
nodes_adds = record { none = refl; joined = nodes_join }

-- A walk over the sequence f came from p to q: its first items are passed, and the others stand at q.
pub record Along (s : List ℕ) (p q : ℕ) (f : Forest) (rest : List ℕ) : Type 0 where
  pub done : Forest
  pub left : Forest
  pub split : join done left ≡ f
  pub passed : q ≡ p + length (bytes done)
  pub ahead : FormAt s q left rest

-- Nothing is passed yet.
pub end_join : (f : Forest) → join end f ≡ f
unfolding join
end_join f = refl

pub none_passed : (p : ℕ) → p ≡ p + length (bytes end)
unfolding form_in
none_passed p = omega arith

abbrev pub along_none : {s : List ℕ} {p : ℕ} {f : Forest} {rest : List ℕ} → FormAt s p f rest → Along s p p f rest
along_none {p = p} {f = f} z = record { done = end; left = f; split = end_join f; passed = none_passed p; ahead = z }

module _ {s : List ℕ} {p q : ℕ} {f : Forest} {rest : List ℕ} (a : Along s p q f rest) where
  pub along_ended : NoItem s q → a.done ≡ f
  along_ended e =
      let n = none_left a.left a.ahead e in
      sym (join_end a.done) ∙ ap (join a.done) (sym n) ∙ a.split

  -- There is a next item: in a sequence that ends at a close, and in one that ends with the input.
  pub more_before_close : Ends rest → q < length s → get_or s q 0 ≢ 0x12 → get_or s q 0 ≢ 0x21 → a.left ≢ end
  more_before_close n = some_left rest n a.ahead

  pub more_before_end : rest ≡ [] → q < length s → a.left ≢ end
  unfolding form_in
  more_before_end n e none = omega (arith, remain (rw none at a.ahead), ap length n)

  module _ (some : a.left ≢ end) where
    pub next : Cut a.left
    next = cut a.left some

    pub next_stands : FormAt s q (join next.front next.back) rest
    next_stands = rw next.split a.ahead

    pub next_item : ItemAt s q next.front
    next_item =
        record { rest = bytes next.back ++ rest; stands = front_stands next.front next.back next_stands; one = next.one }

    -- By such a measure the whole is what is done, the item, and what is behind it.
    pub along_total : (m : Forest → ℕ) → Adds m → m f ≡ m a.done + (m next.front + m next.back)
    along_total m adds =
        ap m (sym a.split)
        ∙ adds.joined a.done a.left
        ∙ ap (λ (g : Forest). m a.done + m g) (sym next.split)
        ∙ ap (λ (n : ℕ). m a.done + n) (adds.joined next.front next.back)

    -- The walk behind it.
    abbrev pub along_more : (r : ℕ) → r ≡ q + length (bytes next.front) → Along s p r f rest
    along_more r e =
        record {
          done = join a.done next.front;
          left = next.back;
          split = join_assoc a.done next.front next.back ∙ rw next.split a.split;
          passed = rw bytes_join (omega (arith, e, a.passed, length-append (bytes a.done) (bytes next.front)));
          ahead = back_stands next.front next.back next_stands r e;
        }
