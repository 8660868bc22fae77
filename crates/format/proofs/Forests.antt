-- Laws of sequences: what joining, copying and unrolling do to byte form, counts and cost.
use mathlib.Core.Path.{◌≡◌, refl, sym, ap, ap₂, ◌∙◌}
use mathlib.Core.Bool.{Bool, true, false, false≢true, cond, ◌&&◌}
use mathlib.Core.List.{List, [], ◌∷◌, ◌++◌, append_assoc}
use Prim.Native.Nat.{ℕ, zero, suc, ◌+◌, ◌*◌, ◌/◌, ◌%◌, ◌<◌, ◌≤◌, max}
use native.Mathlib.Nat.{zero-add, suc-add}
use native.Mathlib.Omega.{arith}
use lib.Dec.{ltb}
use lib.ListN.{get_or}
use borrow.Author.Tests.{ltb-true}
use Rattle.format.specs.Limits.{Prices, in_one_byte}
use Rattle.format.specs.Order.{Bytes}
use Rattle.format.specs.Forest.{Forest, end, step, group, repeat, join, copies, unroll, siblings, nodes, steps, cost, opening, form_in, bytes, two_bytes, Plain, Allowed, Sound, Coded, group_depth, repeat_depth}
use Rattle.format.specs.Machine.{times}

pub join_end : (f : Forest) → join f end ≡ f
unfolding join
join_end end = refl
join_end (step l f) = ap (step l) (join_end f)
join_end (group l b f) = ap (group l b) (join_end f)
join_end (repeat h w b f) = ap (repeat h w b) (join_end f)

pub join_assoc : (f g k : Forest) → join (join f g) k ≡ join f (join g k)
unfolding join
join_assoc end g k = refl
join_assoc (step l f) g k = ap (step l) (join_assoc f g k)
join_assoc (group l b f) g k = ap (group l b) (join_assoc f g k)
join_assoc (repeat h w b f) g k = ap (repeat h w b) (join_assoc f g k)

-- What stands behind the open of a repeat stands behind it, whichever command opens it.
pub opening_append : (short : Bool) (h w : ℕ) (s t : List ℕ) → opening short h w s ++ t ≡ opening short h w (s ++ t)
opening_append short h w s t = by_command (short && in_one_byte h w)
  where
    by_command : (one : Bool) → cond one (0x22 ∷ h ∷ w ∷ s) (0x20 ∷ two_bytes h (two_bytes w s)) ++ t
        ≡ cond one (0x22 ∷ h ∷ w ∷ (s ++ t)) (0x20 ∷ two_bytes h (two_bytes w (s ++ t)))
    by_command true = refl
    by_command false = refl

pub form_join : (short : Bool) (f g : Forest) → form_in short (join f g) ≡ form_in short f ++ form_in short g
unfolding join form_in
form_join short end g = refl
form_join short (step l f) g = rw (form_join short f g)
form_join short (group l b f) g = rw (form_join short f g, append_assoc (form_in short b) (0x12 ∷ form_in short f) (form_in short g))
form_join short (repeat h w b f) g =
    rw (form_join short f g, ← append_assoc (form_in short b) (0x21 ∷ form_in short f) (form_in short g))
    (sym (opening_append short h w (form_in short b ++ 0x21 ∷ form_in short f) (form_in short g)))

pub bytes_join : (f g : Forest) → bytes (join f g) ≡ bytes f ++ bytes g
bytes_join f g = form_join false f g

pub siblings_join : (f g : Forest) → siblings (join f g) ≡ siblings f + siblings g
unfolding join siblings
siblings_join end g = omega arith
siblings_join (step l f) g = omega (arith, siblings_join f g)
siblings_join (group l b f) g = omega (arith, siblings_join f g)
siblings_join (repeat h w b f) g = omega (arith, siblings_join f g)

pub nodes_join : (f g : Forest) → nodes (join f g) ≡ nodes f + nodes g
unfolding join nodes
nodes_join end g = omega arith
nodes_join (step l f) g = omega (arith, nodes_join f g)
nodes_join (group l b f) g = omega (arith, nodes_join f g)
nodes_join (repeat h w b f) g = omega (arith, nodes_join f g)

pub steps_join : (f g : Forest) → steps (join f g) ≡ steps f + steps g
unfolding join steps
steps_join end g = omega arith
steps_join (step l f) g = omega (arith, steps_join f g)
steps_join (group l b f) g = omega (arith, steps_join f g)
steps_join (repeat h w b f) g = omega (arith, steps_join f g)

pub cost_join : (P : Prices) (f g : Forest) → cost P (join f g) ≡ cost P f + cost P g
unfolding join cost
cost_join P end g = omega arith
cost_join P (step l f) g = omega (arith, cost_join P f g)
cost_join P (group l b f) g = omega (arith, cost_join P f g)
cost_join P (repeat h w b f) g = omega (arith, cost_join P f g)

pub unroll_join : (f g : Forest) → unroll (join f g) ≡ join (unroll f) (unroll g)
unfolding join unroll
unroll_join end g = refl
unroll_join (step l f) g = ap (step l) (unroll_join f g)
unroll_join (group l b f) g = ap (group l (unroll b)) (unroll_join f g)
unroll_join (repeat h w b f) g =
    ap (join (copies h (unroll b))) (unroll_join f g) ∙ sym (join_assoc (copies h (unroll b)) (unroll f) (unroll g))

pub bytes_copies : (h : ℕ) (f : Forest) → bytes (copies h f) ≡ times h (bytes f)
unfolding copies times form_in
bytes_copies zero f = refl
bytes_copies (suc h) f = bytes_join f (copies h f) ∙ ap (λ (s : List ℕ). bytes f ++ s) (bytes_copies h f)

pub siblings_copies : (h : ℕ) (f : Forest) → siblings (copies h f) ≡ h * siblings f
unfolding copies siblings
siblings_copies zero f = omega arith
siblings_copies (suc h) f = omega (arith, siblings_join f (copies h f), siblings_copies h f)

pub nodes_copies : (h : ℕ) (f : Forest) → nodes (copies h f) ≡ h * nodes f
unfolding copies nodes
nodes_copies zero f = omega arith
nodes_copies (suc h) f = omega (arith, nodes_join f (copies h f), nodes_copies h f)

steps_copies : (h : ℕ) (f : Forest) → steps (copies h f) ≡ h * steps f
unfolding copies steps
steps_copies zero f = omega arith
steps_copies (suc h) f = omega (arith, steps_join f (copies h f), steps_copies h f)

pub copies_add : (m n : ℕ) (f : Forest) → join (copies m f) (copies n f) ≡ copies (m + n) f
unfolding copies join
copies_add zero n f = rw zero-add
copies_add (suc m) n f = rw suc-add (join_assoc f (copies m f) (copies n f) ∙ ap (join f) (copies_add m n f))

pub siblings_unroll : (f : Forest) → siblings (unroll f) ≡ siblings f
unfolding unroll siblings
siblings_unroll end = refl
siblings_unroll (step l f) = ap (λ (n : ℕ). 1 + n) (siblings_unroll f)
siblings_unroll (group l b f) = ap (λ (n : ℕ). 1 + n) (siblings_unroll f)
siblings_unroll (repeat h w b f) =
    siblings_join (copies h (unroll b)) (unroll f)
    ∙ ap₂ (λ (m n : ℕ). m + n) (siblings_copies h (unroll b) ∙ ap (λ (n : ℕ). h * n) (siblings_unroll b)) (siblings_unroll f)

pub nodes_unroll : (f : Forest) → nodes (unroll f) ≡ nodes f
unfolding unroll nodes
nodes_unroll end = refl
nodes_unroll (step l f) = ap (λ (n : ℕ). 1 + n) (nodes_unroll f)
nodes_unroll (group l b f) = ap₂ (λ (m n : ℕ). 1 + m + n) (nodes_unroll b) (nodes_unroll f)
nodes_unroll (repeat h w b f) =
    nodes_join (copies h (unroll b)) (unroll f)
    ∙ ap₂ (λ (m n : ℕ). m + n) (nodes_copies h (unroll b) ∙ ap (λ (n : ℕ). h * n) (nodes_unroll b)) (nodes_unroll f)

pub steps_unroll : (f : Forest) → steps (unroll f) ≡ steps f
unfolding unroll steps
steps_unroll end = refl
steps_unroll (step l f) = ap (λ (n : ℕ). 1 + n) (steps_unroll f)
steps_unroll (group l b f) = ap₂ (λ (m n : ℕ). m + n) (steps_unroll b) (steps_unroll f)
steps_unroll (repeat h w b f) =
    steps_join (copies h (unroll b)) (unroll f)
    ∙ ap₂ (λ (m n : ℕ). m + n) (steps_copies h (unroll b) ∙ ap (λ (n : ℕ). h * n) (steps_unroll b)) (steps_unroll f)

-- Joining and copying runs gives runs, and so does unrolling anything.
pub plain_join : (f g : Forest) → Plain f → Plain g → Plain (join f g)
unfolding join
plain_join end g p q = q
plain_join (step l f) g p q = plain_join f g p q
plain_join (group l b f) g p q = (p.0, plain_join f g p.1 q)
plain_join (repeat h w b f) g p q = p

pub plain_copies : (h : ℕ) (f : Forest) → Plain f → Plain (copies h f)
unfolding copies
plain_copies zero f p = tt
plain_copies (suc h) f p = plain_join f (copies h f) p (plain_copies h f p)

pub plain_unroll : (f : Forest) → Plain (unroll f)
unfolding unroll
plain_unroll end = tt
plain_unroll (step l f) = plain_unroll f
plain_unroll (group l b f) = (plain_unroll b, plain_unroll f)
plain_unroll (repeat h w b f) =
    plain_join (copies h (unroll b)) (unroll f) (plain_copies h (unroll b) (plain_unroll b)) (plain_unroll f)

-- A run unrolls to itself.
pub unroll_plain : (f : Forest) → Plain f → unroll f ≡ f
unfolding unroll
unroll_plain end p = refl
unroll_plain (step l f) p = ap (step l) (unroll_plain f p)
unroll_plain (group l b f) p = ap₂ (group l) (unroll_plain b p.0) (unroll_plain f p.1)
unroll_plain (repeat h w b f) p = absurd p

pub sound_join : (A : Allowed) (f g : Forest) → Sound A f → Sound A g → Sound A (join f g)
unfolding join
sound_join A end g p q = q
sound_join A (step l f) g p q = sound_join A f g p q
sound_join A (group l b f) g p q = (p.0, p.1, sound_join A f g p.2 q)
sound_join A (repeat h w b f) g p q = (p.0, p.1, sound_join A f g p.2 q)

-- So copies of a sound fold are sound, and so is what a sound fold unrolls to.
pub sound_copies : (A : Allowed) (h : ℕ) (f : Forest) → Sound A f → Sound A (copies h f)
unfolding copies
sound_copies A zero f s = tt
sound_copies A (suc h) f s = sound_join A f (copies h f) s (sound_copies A h f s)

pub sound_unroll : (A : Allowed) (f : Forest) → Sound A f → Sound A (unroll f)
unfolding unroll
sound_unroll A end s = tt
sound_unroll A (step l f) s = sound_unroll A f s
sound_unroll A (group l b f) s = (rw (siblings_unroll b) s.0, sound_unroll A b s.1, sound_unroll A f s.2)
sound_unroll A (repeat h w b f) s =
    sound_join A (copies h (unroll b)) (unroll f) (sound_copies A h (unroll b) (sound_unroll A b s.1)) (sound_unroll A f s.2)

-- The parts of a sound fold are sound.
pub sound_parts : (A : Allowed) (f g : Forest) → Sound A (join f g) → Sound A f × Sound A g
unfolding join
sound_parts A end g p = (tt, p)
sound_parts A (step l f) g p = sound_parts A f g p
sound_parts A (group l b f) g p = let k = sound_parts A f g p.2 in ((p.0, p.1, k.0), k.1)
sound_parts A (repeat h w b f) g p = let k = sound_parts A f g p.2 in ((p.0, p.1, k.0), k.1)

-- What the byte form can hold, and how deep groups and repeats go.
pub coded_join : (f g : Forest) → Coded f → Coded g → Coded (join f g)
unfolding join
coded_join end g p q = q
coded_join (step l f) g p q = (p.0, coded_join f g p.1 q)
coded_join (group l b f) g p q = (p.0, p.1, coded_join f g p.2 q)
coded_join (repeat h w b f) g p q = (p.0, p.1, p.2, coded_join f g p.3 q)

pub group_depth_join : (f g : Forest) → group_depth (join f g) ≡ max (group_depth f) (group_depth g)
unfolding join group_depth
group_depth_join end g = omega arith
group_depth_join (step l f) g = group_depth_join f g
group_depth_join (group l b f) g = omega (arith, group_depth_join f g)
group_depth_join (repeat h w b f) g = omega (arith, group_depth_join f g)

pub repeat_depth_join : (f g : Forest) → repeat_depth (join f g) ≡ max (repeat_depth f) (repeat_depth g)
unfolding join repeat_depth
repeat_depth_join end g = omega arith
repeat_depth_join (step l f) g = repeat_depth_join f g
repeat_depth_join (group l b f) g = omega (arith, repeat_depth_join f g)
repeat_depth_join (repeat h w b f) g = omega (arith, repeat_depth_join f g)

-- Unrolling adds no label, and leaves groups as deep as they were.
coded_copies : (h : ℕ) (f : Forest) → Coded f → Coded (copies h f)
unfolding copies
coded_copies zero f p = tt
coded_copies (suc h) f p = coded_join f (copies h f) p (coded_copies h f p)

pub coded_unroll : (f : Forest) → Coded f → Coded (unroll f)
unfolding unroll
coded_unroll end p = tt
coded_unroll (step l f) p = (p.0, coded_unroll f p.1)
coded_unroll (group l b f) p = (p.0, coded_unroll b p.1, coded_unroll f p.2)
coded_unroll (repeat h w b f) p =
    coded_join (copies h (unroll b)) (unroll f) (coded_copies h (unroll b) (coded_unroll b p.2)) (coded_unroll f p.3)

group_depth_copies : (h : ℕ) (f : Forest) → group_depth (copies (suc h) f) ≡ group_depth f
unfolding copies group_depth
group_depth_copies zero f = ap group_depth (join_end f)
group_depth_copies (suc h) f = omega (arith, group_depth_join f (copies (suc h) f), group_depth_copies h f)

-- A repeat has a pass, and every pass is as deep as the body.
group_depth_passes : (h : ℕ) (f : Forest) → 1 ≤ h → group_depth (copies h f) ≡ group_depth f
group_depth_passes zero f some = absurd (omega arith)
group_depth_passes (suc h) f some = group_depth_copies h f

pub group_depth_unroll : (A : Allowed) (f : Forest) → Sound A f → group_depth (unroll f) ≡ group_depth f
unfolding unroll group_depth
group_depth_unroll A end z = refl
group_depth_unroll A (step l f) z = group_depth_unroll A f z
group_depth_unroll A (group l b f) z = omega (arith, group_depth_unroll A b z.1, group_depth_unroll A f z.2)
group_depth_unroll A (repeat h w b f) z =
    omega
    (arith, group_depth_join (copies h (unroll b)) (unroll f), group_depth_passes h (unroll b) (omega (arith, z.0.twice)), group_depth_unroll A b z.1, group_depth_unroll A f z.2)

-- A run has no repeat that could be too deep.
pub repeat_depth_plain : (f : Forest) → Plain f → repeat_depth f ≡ 0
unfolding repeat_depth
repeat_depth_plain end p = refl
repeat_depth_plain (step l f) p = repeat_depth_plain f p
repeat_depth_plain (group l b f) p = omega (arith, repeat_depth_plain b p.0, repeat_depth_plain f p.1)
repeat_depth_plain (repeat h w b f) p = absurd p

-- The byte form of what is coded is bytes.
data Each : List ℕ → Type 0 where
  none : Each []
  one : {a : ℕ} {s : List ℕ} → a < 256 → Each s → Each (a ∷ s)

each_append : {s t : List ℕ} → Each s → Each t → Each (s ++ t)
each_append none q = q
each_append (one l p) q = one l (each_append p q)

each_bytes : {s : List ℕ} → Each s → (i : ℕ) → get_or s i 0 < 256
each_bytes none i = omega arith
each_bytes (one l p) zero = l
each_bytes (one l p) (suc i) = each_bytes p i

-- A `22` stands only for a count and a width that a byte each can hold.
pub one_byte_each : (short : Bool) (h w : ℕ) → (short && in_one_byte h w) ≡ true → (h < 256) × (w < 256)
one_byte_each short h w e = let z = both short (ltb h 256) (ltb w 256) e in (ltb-true h 256 z.0, ltb-true w 256 z.1)
  where
    both : (a b d : Bool) → (a && (b && d)) ≡ true → (b ≡ true) × (d ≡ true)
    both true true true e = (refl, refl)
    both true true false e = absurd (false≢true e)
    both true false d e = absurd (false≢true e)
    both false b d e = absurd (false≢true e)

each_opening : (short : Bool) (h w : ℕ) {s : List ℕ} → h < 65536 → w < 65536 → Each s → Each (opening short h w s)
each_opening short h w {s} hs ws p = by_command (short && in_one_byte h w) refl
  where
    by_command : (one : Bool) → (short && in_one_byte h w) ≡ one → Each (cond one (0x22 ∷ h ∷ w ∷ s) (0x20 ∷ two_bytes h (two_bytes w s)))
    by_command true e =
        let z = one_byte_each short h w e in
        one {a = 0x22} (omega arith) (one z.0 (one z.1 p))
    by_command false e =
        let x : h / 256 < 256 = omega arith in
        let y : w / 256 < 256 = omega arith in
        let m : h % 256 < 256 = omega arith in
        let n : w % 256 < 256 = omega arith in
        one {a = 0x20} (omega arith) (one x (one m (one y (one n p))))

each_coded : (short : Bool) (f : Forest) → Coded f → Each (form_in short f)
unfolding form_in
each_coded short end p = none
each_coded short (step l f) p = one {a = 0x10} (omega arith) (one p.0 (each_coded short f p.1))
each_coded short (group l b f) p =
    one {a = 0x11} (omega arith)
    (one p.0 (each_append (each_coded short b p.1) (one {a = 0x12} (omega arith) (each_coded short f p.2))))
each_coded short (repeat h w b f) p =
    each_opening short h w p.0 p.1
    (each_append (each_coded short b p.2) (one {a = 0x21} (omega arith) (each_coded short f p.3)))

pub form_bytes : (short : Bool) (f : Forest) → Coded f → Bytes (form_in short f)
form_bytes short f p = each_bytes (each_coded short f p)

pub coded_bytes : (f : Forest) → Coded f → Bytes (bytes f)
coded_bytes f p = form_bytes false f p
