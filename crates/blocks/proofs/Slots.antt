-- Keys in slots: what a put leaves of the other slots, and what a block's change leaves of the other blocks.
use mathlib.Core.Path.{◌≡◌, refl, ◌∙◌}
use mathlib.Core.Logic.{◌⊎◌, inl, inr}
use mathlib.Core.List.{List}
use Prim.Native.Nat.{ℕ, ◌+◌, ◌*◌, ◌<◌, ◌≤◌}
use native.Mathlib.Decide.{dec_lt}
use native.Mathlib.Omega.{arith}
use lib.ListN.{length, get_or, set, length-set}
use lib.Seq.{get_or-set_same, get_or-set_other}
use Rattle.blocks.specs.declared.keys.Key.{Key}
use Rattle.blocks.specs.Keys.{factor, block, slot, SameKey, Put, Touched}

-- Three entries that are set one after the other.
pub put_three : (W : List ℕ) (at a b : ℕ) (k : Key) → at + 2 < length W → a * factor + b ≡ k.both
    → Put W (set (set (set W at a) (at + 1) b) (at + 2) k.pair) at k
put_three W at a b k l e =
    let x = k.pair in
    let X = set W at a in
    let Y = set X (at + 1) b in
    let lv : length X ≡ length W = length-set W at a in
    let lu : length Y ≡ length W = length-set X (at + 1) b ∙ lv in
    let one : get_or (set Y (at + 2) x) at 0 ≡ a =
    get_or-set_other Y (at + 2) at x 0 (λ q. omega arith) ∙ get_or-set_other X (at + 1) at b 0 (λ q. omega arith) ∙ get_or-set_same W at a 0 (omega arith) in
    let two : get_or (set Y (at + 2) x) (at + 1) 0 ≡ b =
    get_or-set_other Y (at + 2) (at + 1) x 0 (λ q. omega arith) ∙ get_or-set_same X (at + 1) b 0 (omega arith) in
    record {
      same_length = length-set Y (at + 2) x ∙ lu;
      both = rw (one, two) e;
      pair = get_or-set_same Y (at + 2) x 0 (omega arith);
      others = λ y o. get_or-set_other Y (at + 2) y x 0 (away y o) ∙ get_or-set_other X (at + 1) y b 0 (away' y o) ∙ get_or-set_other W at y a 0 (away'' y o);
    }
  where
    away : (y : ℕ) → (y < at) ⊎ (at + 3 ≤ y) → y ≡ at + 2 → ⊥
    away y (inl l) q = omega arith
    away y (inr l) q = omega arith

    away' : (y : ℕ) → (y < at) ⊎ (at + 3 ≤ y) → y ≡ at + 1 → ⊥
    away' y (inl l) q = omega arith
    away' y (inr l) q = omega arith

    away'' : (y : ℕ) → (y < at) ⊎ (at + 3 ≤ y) → y ≡ at → ⊥
    away'' y (inl l) q = omega arith
    away'' y (inr l) q = omega arith

-- A put changes its own block alone, and in it no other slot.
pub put_touched : {W X : List ℕ} {k : Key} (i s : ℕ) → s ≤ 65 → Put W X (slot i s) k → Touched i W X
put_touched i s l p = record { same_length = p.same_length; others = λ x o. p.others x (away x o) }
  where
    away : (x : ℕ) → (x < slot i 0) ⊎ (slot i 0 + block ≤ x) → (x < slot i s) ⊎ (slot i s + 3 ≤ x)
    away x (inl q) = inl (omega arith)
    away x (inr q) = inr (omega arith)

-- The keys that stay where a key is put.
pub put_same : {W X : List ℕ} {k : Key} (at e : ℕ) → Put W X at k → (e + 3 ≤ at) ⊎ (at + 3 ≤ e) → SameKey W X e
put_same at e p o =
    let one = p.others e (near o) in
    let two = p.others (e + 1) (next o) in
    record { both = rw (one, two); pair = p.others (e + 2) (last o) }
  where
    near : (e + 3 ≤ at) ⊎ (at + 3 ≤ e) → (e < at) ⊎ (at + 3 ≤ e)
    near (inl q) = inl (omega arith)
    near (inr q) = inr q

    next : (e + 3 ≤ at) ⊎ (at + 3 ≤ e) → (e + 1 < at) ⊎ (at + 3 ≤ e + 1)
    next (inl q) = inl (omega arith)
    next (inr q) = inr (omega arith)

    last : (e + 3 ≤ at) ⊎ (at + 3 ≤ e) → (e + 2 < at) ⊎ (at + 3 ≤ e + 2)
    last (inl q) = inl (omega arith)
    last (inr q) = inr (omega arith)

pub put_other : {W X : List ℕ} {k : Key} (i s v : ℕ) → Put W X (slot i s) k → (v ≡ s → ⊥) → SameKey W X (slot i v)
put_other i s v p n = put_same (slot i s) (slot i v) p (side (dec_lt v s))
  where
    side : Dec (v < s) → (slot i v + 3 ≤ slot i s) ⊎ (slot i s + 3 ≤ slot i v)
    side (yes l) = inl (omega arith)
    side (no l) = inr (omega (arith, other (dec_lt s v)))
      where
        other : Dec (s < v) → s < v
        other (yes m) = m
        other (no m) = absurd (n (omega arith))

-- The slots of other blocks stay.
pub touched_same : {W X : List ℕ} (i j s : ℕ) → Touched i W X → (j < i) ⊎ (i < j) → s ≤ 65 → SameKey W X (slot j s)
touched_same i j s p o l =
    let one = p.others (slot j s) (away (slot j s) (omega arith) (omega arith) o) in
    let two = p.others (slot j s + 1) (away (slot j s + 1) (omega arith) (omega arith) o) in
    record { both = rw (one, two); pair = p.others (slot j s + 2) (away (slot j s + 2) (omega arith) (omega arith) o) }
  where
    away : (e : ℕ) → slot j 0 ≤ e → e < slot j 0 + block → (j < i) ⊎ (i < j) → (e < slot i 0) ⊎ (slot i 0 + block ≤ e)
    away e m n (inl q) = inl (omega arith)
    away e m n (inr q) = inr (omega arith)

-- Changes of one block, one after the other, and none.
pub touched_none : (i : ℕ) (W : List ℕ) → Touched i W W
touched_none i W = record { same_length = refl; others = λ x o. refl }

pub touched_more : {W X Y : List ℕ} {i : ℕ} → Touched i W X → Touched i X Y → Touched i W Y
touched_more p q =
    record { same_length = q.same_length ∙ p.same_length; others = λ x o. q.others x o ∙ p.others x o }
