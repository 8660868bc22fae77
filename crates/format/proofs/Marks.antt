-- Laws of marked labels: what holds none in its parts holds none, and what unrolls to the same holds the same.
use mathlib.Core.Path.{◌≡◌, refl, sym, ◌∙◌}
use mathlib.Core.Bool.{Bool, true, false, true≢false, ◌||◌, or-false, or_assoc, or_self}
use mathlib.Core.List.{List, [], ◌∷◌, map}
use Prim.Native.Nat.{ℕ, zero, suc}
use native.Mathlib.Omega.{arith}
use lib.Dec.{eqb}
use Rattle.format.specs.Forest.{Forest, end, step, group, repeat, join, copies, unroll, holds, Plain, Allowed, Sound}

-- Which of these hold a marked label, 01 being marked: the step itself, one beside it, a group of that label, one that holds it, one
-- two deep, a repeat of it; and a group without it.
abbrev pub one : ℕ → Bool
one l = eqb l 1

unfoldable pub held_examples : List Bool
unfolding holds
held_examples =
    map (holds one)
    (step 1 end
    ∷ step 2 (step 1 end)
    ∷ group 1 (step 2 end) end
    ∷ group 2 (step 1 end) end
    ∷ group 2 (group 3 (step 1 end) end) (step 2 end)
    ∷ repeat 2 1 (step 1 end) end
    ∷ group 2 (step 3 end) end
    ∷ [])

pub held_hold : held_examples ≡ true ∷ true ∷ true ∷ true ∷ true ∷ true ∷ false ∷ []
unfolding held_examples
held_hold = refl

-- Neither of two, exactly where not the one or the other.
pub neither : (a b : Bool) → a ≡ false → b ≡ false → (a || b) ≡ false
neither a b p q = rw (p, q)

not_left : (a b : Bool) → (a || b) ≡ false → a ≡ false
not_left true b e = e
not_left false b e = refl

not_right : (a b : Bool) → (a || b) ≡ false → b ≡ false
not_right true b e = absurd (true≢false e)
not_right false b e = e

module _ (m : ℕ → Bool) where
  -- What holds none: neither its first label nor what follows.
  pub unmarked_step : (l : ℕ) (f : Forest) → holds m (step l f) ≡ false → (m l ≡ false) × (holds m f ≡ false)
  unfolding holds
  unmarked_step l f e = (not_left (m l) (holds m f) e, not_right (m l) (holds m f) e)

  pub unmarked_group : (l : ℕ) (b f : Forest) → holds m (group l b f) ≡ false → (m l ≡ false) × (holds m b ≡ false) × (holds m f ≡ false)
  unfolding holds
  unmarked_group l b f e =
      let r = not_right (m l) (holds m b || holds m f) e in
      (not_left (m l) (holds m b || holds m f) e, not_left (holds m b) (holds m f) r, not_right (holds m b) (holds m f) r)

  pub unmarked_repeat : (h w : ℕ) (b f : Forest) → holds m (repeat h w b f) ≡ false → (holds m b ≡ false) × (holds m f ≡ false)
  unfolding holds
  unmarked_repeat h w b f e = (not_left (holds m b) (holds m f) e, not_right (holds m b) (holds m f) e)

  pub holds_join : (f g : Forest) → holds m (join f g) ≡ (holds m f || holds m g)
  unfolding holds join
  holds_join end g = refl
  holds_join (step l f) g = rw (holds_join f g, or_assoc)
  holds_join (group l b f) g = rw (holds_join f g, or_assoc, or_assoc)
  holds_join (repeat h w b f) g = rw (holds_join f g, or_assoc)

  -- The parts of what holds none hold none, and what is joined of such.
  pub holds_left : (f g : Forest) → holds m (join f g) ≡ false → holds m f ≡ false
  holds_left f g e = not_left (holds m f) (holds m g) (sym (holds_join f g) ∙ e)

  pub holds_right : (f g : Forest) → holds m (join f g) ≡ false → holds m g ≡ false
  holds_right f g e = not_right (holds m f) (holds m g) (sym (holds_join f g) ∙ e)

  pub holds_both : (f g : Forest) → holds m f ≡ false → holds m g ≡ false → holds m (join f g) ≡ false
  holds_both f g p q = holds_join f g ∙ neither (holds m f) (holds m g) p q

  -- Copies of a sequence hold what it holds.
  pub holds_copies : (h : ℕ) (f : Forest) → holds m (copies (suc h) f) ≡ holds m f
  unfolding copies holds
  holds_copies zero f = holds_join f end ∙ or-false (holds m f)
  holds_copies (suc h) f = holds_join f (copies (suc h) f) ∙ rw (holds_copies h f, or_self)

  pub unmarked_copies : (h : ℕ) (f : Forest) → holds m f ≡ false → holds m (copies h f) ≡ false
  unfolding copies holds
  unmarked_copies zero f e = refl
  unmarked_copies (suc h) f e = holds_copies h f ∙ e

  -- A sound fold holds what it unrolls to holds.
  pub holds_unroll : (A : Allowed) (f : Forest) → Sound A f → holds m (unroll f) ≡ holds m f
  unfolding unroll holds
  holds_unroll A end s = refl
  holds_unroll A (step l f) s = rw (holds_unroll A f s)
  holds_unroll A (group l b f) s = rw (holds_unroll A b s.1, holds_unroll A f s.2)
  holds_unroll A (repeat zero w b f) s = absurd (omega (arith, s.0.twice))
  holds_unroll A (repeat (suc h) w b f) s =
      holds_join (copies (suc h) (unroll b)) (unroll f) ∙ rw (holds_copies h (unroll b), holds_unroll A b s.1, holds_unroll A f s.2)

-- Where no label is marked none is held.
pub holds_none : (f : Forest) → holds (λ l. false) f ≡ false
unfolding holds
holds_none end = refl
holds_none (step l f) = holds_none f
holds_none (group l b f) = rw (holds_none b, holds_none f)
holds_none (repeat h w b f) = rw (holds_none b, holds_none f)

-- A run is sound whatever repeats are allowed: it has none.
pub sound_plain : (A B : Allowed) (f : Forest) → Plain f → Sound A f → Sound B f
sound_plain A B end p s = tt
sound_plain A B (step l f) p s = sound_plain A B f p s
sound_plain A B (group l b f) p s = (s.0, sound_plain A B b p.0 s.1, sound_plain A B f p.1 s.2)
sound_plain A B (repeat h w b f) p s = absurd p
