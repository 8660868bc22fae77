-- What each kind of item unrolls to, and the room that this needs.
use mathlib.Core.Path.{◌≡◌, refl, sym, ap, ◌∙◌}
use mathlib.Core.List.{List, [], ◌∷◌, ◌++◌}
use mathlib.Core.Logic.{◌≢◌}
use Prim.Native.Nat.{ℕ, ◌+◌, ◌*◌, ◌-◌, ◌≤◌}
use native.Mathlib.Omega.{arith}
use lib.ListN.{length, length-append, get_or}
use Rattle.format.specs.Forest.{Forest, end, step, group, repeat, join, copies, unroll, form_in, bytes}
use Rattle.format.specs.Machine.{times}
use Rattle.format.specs.inner.Standing.{One, one_step, one_group, one_repeat, FormAt}
use Rattle.format.proofs.Bridge.{length_times, times_more}
use Rattle.format.proofs.Forests.{join_end, bytes_join, bytes_copies, unroll_join}
use Rattle.format.proofs.Standing.{Adds, repeat_byte, RepeatAt, GroupAt, item_repeat, item_group}
use Rattle.unroller.specs.inner.Writing.{SequenceFrom, ItemFrom}
use Rattle.unroller.specs.declared.write.Place.{Place}

-- The bytes, and how many there are.
pub unrolled_step : (l : ℕ) → bytes (unroll (step l end)) ≡ 0x10 ∷ l ∷ []
unfolding unroll form_in
unrolled_step l = refl

pub unrolled_group : (l : ℕ) (b : Forest) → bytes (unroll (group l b end)) ≡ 0x11 ∷ l ∷ bytes (unroll b) ++ 0x12 ∷ []
unfolding unroll form_in
unrolled_group l b = refl

pub unrolled_repeat : (h w : ℕ) (b : Forest) → 1 ≤ h
    → bytes (unroll (repeat h w b end)) ≡ bytes (unroll b) ++ times (h - 1) (bytes (unroll b))
unfolding unroll
unrolled_repeat h w b some =
    ap bytes (join_end (copies h (unroll b))) ∙ bytes_copies h (unroll b) ∙ sym (times_more h (bytes (unroll b)) some)

pub size_step : (l : ℕ) → length (bytes (unroll (step l end))) ≡ 2
size_step l = ap length (unrolled_step l)

pub size_group : (l : ℕ) (b : Forest) → length (bytes (unroll (group l b end))) ≡ 3 + length (bytes (unroll b))
size_group l b = rw (unrolled_group l b) (omega (arith, length-append (bytes (unroll b)) (0x12 ∷ [])))

pub size_repeat : (h w : ℕ) (b : Forest) → 1 ≤ h
    → length (bytes (unroll (repeat h w b end))) ≡ length (bytes (unroll b)) + (h - 1) * length (bytes (unroll b))
size_repeat h w b some =
    let x = bytes (unroll b) in
    rw (unrolled_repeat h w b some, length-append x (times (h - 1) x), length_times (h - 1) x)

size_join : (f g : Forest) → length (bytes (unroll (join f g))) ≡ length (bytes (unroll f)) + length (bytes (unroll g))
size_join f g = rw (unroll_join, bytes_join) (length-append (bytes (unroll f)) (bytes (unroll g)))

-- As a measure.
abbrev pub unrolled_size : Forest → ℕ
unrolled_size f = length (bytes (unroll f))

pub unrolled_adds : Adds unrolled_size
unfolding unroll form_in
unrolled_adds = record { none = refl; joined = size_join }

-- Of a node, its command and its label.
node_size : {s : List ℕ} {p : ℕ} {f : Forest} {rest : List ℕ} → One f → FormAt s p f rest → get_or s p 0 ≢ 0x20 → 2 ≤ length (bytes (unroll f))
node_size (one_step l) z e = omega (arith, size_step l)
node_size (one_group l b) z e = omega (arith, size_group l b)
node_size (one_repeat h w b) z e = absurd (e (repeat_byte z))

-- The place behind the open and the label of a node; and that in front of a repeat's body.
abbrev pub behind : Place → Place
behind w = record { at = w.at + 2; to = w.to + 2 }

abbrev pub body_of : Place → Place
body_of w = record { at = w.at + 5; to = w.to }

module _ {s : List ℕ} {room : ℕ} {w : Place} {f : Forest} (i : ItemFrom s room w f) where
  pub node_fits : get_or s w.at 0 ≢ 0x20 → w.to + 2 ≤ room
  node_fits e = omega (arith, i.fits, node_size i.stands.one i.stands.stands e)

  module _ (e : get_or s w.at 0 ≡ 0x20) where
    abbrev pub its_repeat : RepeatAt s w.at f
    its_repeat = item_repeat i.stands e

    pub repeat_some : 1 ≤ its_repeat.count
    repeat_some = omega (arith, its_repeat.twice)

    pub repeat_fits : w.to + length (bytes (unroll its_repeat.body)) + (its_repeat.count - 1) * length (bytes (unroll its_repeat.body)) ≤ room
    repeat_fits =
        let q = its_repeat in
        omega (arith, i.fits, ap (λ (g : Forest). length (bytes (unroll g))) q.is, size_repeat q.count q.width q.body repeat_some)

    pub repeat_inside : SequenceFrom s room (body_of w) its_repeat.body
    repeat_inside = record { stands = its_repeat.inside; fits = omega (arith, repeat_fits) }

  module _ (e : get_or s w.at 0 ≢ 0x20) (g : get_or s w.at 0 ≢ 0x10) where
    abbrev pub its_group : GroupAt s w.at f
    its_group = item_group i.stands e g

    pub group_fits : w.to + 3 + length (bytes (unroll its_group.body)) ≤ room
    group_fits =
        let q = its_group in
        omega (arith, i.fits, ap (λ (g : Forest). length (bytes (unroll g))) q.is, size_group (get_or s (w.at + 1) 0) q.body)

    -- In any output as long.
    pub group_inside : (n : ℕ) → n ≡ room → SequenceFrom s n (behind w) its_group.body
    group_inside n e = record { stands = its_group.inside; fits = omega (arith, group_fits, e) }
