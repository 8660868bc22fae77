-- Laws of byte order, and the comparison of two folds of one run: they are the same, or the first command at which they differ
-- decides, and so their bytes are in order.
use mathlib.Core.Path.{◌≡◌, refl, sym, ap, ◌∙◌}
use mathlib.Core.Bool.{Bool, true, false, ◌||◌}
use mathlib.Core.Logic.{◌⊎◌, inl, inr, ⊎_map}
use mathlib.Core.List.{List, [], ◌∷◌, ◌++◌, append-nil, append_assoc, append_cancel_left}
use Prim.Native.Nat.{ℕ, zero, suc, ◌/◌, ◌%◌, ◌<◌}
use native.Mathlib.Nat.{mul-pos}
use native.Mathlib.Decide.{dec_lt}
use native.Mathlib.Numerals.{one-add}
use native.Mathlib.Omega.{arith}
use lib.Dec.{eqb}
use borrow.Author.Tests.{eqb-true}
use Rattle.format.specs.Forest.{Forest, end, step, group, repeat, join, copies, unroll, siblings, form_in, bytes, two_bytes, Plain, Allowed, Repeats, Sound}
use Rattle.format.specs.Order.{Before, here, there}
use Rattle.format.specs.Machine.{is_node}
use Rattle.format.specs.Difference.{Commands, none, command, Sooner, plain_first, fewer, narrower, DiffersFirst}
use Rattle.format.proofs.Forests.{join_assoc, siblings_unroll, plain_unroll}

-- What stands before another one differs from it.
distinct : {s t : List ℕ} → Before s t → s ≡ t → ⊥
distinct (here {a} {b} {s} {t} h) e = let same : a ≡ b = cc in omega arith
distinct (there {a} {s} {t} h) e = let rest : s ≡ t = cc in distinct h rest

pub irreflexive : (s : List ℕ) → Before s s → ⊥
irreflexive s h = distinct h refl

pub transitive : {s t u : List ℕ} → Before s t → Before t u → Before s u
transitive (here {a} h) (here {b = c} k) = here {a = a} {b = c} (omega arith)
transitive (here h) (there k) = here h
transitive (there h) (here k) = here k
transitive (there h) (there k) = there (transitive h k)

pub asymmetric : {s t : List ℕ} → Before s t → Before t s → ⊥
asymmetric {s} h k = irreflexive s (transitive h k)

-- It passes under common beginnings.
pub under : (x : List ℕ) {s t : List ℕ} → Before s t → Before (x ++ s) (x ++ t)
under [] h = h
under (a ∷ x) h = there (under x h)

-- It ignores what follows.
pub ignores : {s t : List ℕ} → Before s t → (x y : List ℕ) → Before (s ++ x) (t ++ y)
ignores (here h) x y = here h
ignores (there h) x y = there (ignores h x y)

-- So a beginning is neither before nor after what it begins.
pub apart : {s t : List ℕ} → Before s t → (x y : List ℕ) → s ++ x ≡ t ++ y → ⊥
apart {s} {t} h x y e = irreflexive (t ++ y) (rw e at (ignores h x y))

pub beginning_not_before : (s x : List ℕ) → Before s (s ++ x) → ⊥
beginning_not_before s x h = apart h x [] (sym (append-nil (s ++ x)))

pub beginning_not_after : (s x : List ℕ) → Before (s ++ x) s → ⊥
beginning_not_after s x h = apart h [] x (append-nil (s ++ x))

-- Two-byte operands compare as numbers.
pub two_bytes_before : (m n : ℕ) (s t : List ℕ) → m < n → Before (two_bytes m s) (two_bytes n t)
two_bytes_before m n s t h = go (dec_lt (m / 256) (n / 256))
  where
    go : Dec (m / 256 < n / 256) → Before (two_bytes m s) (two_bytes n t)
    go (yes k) = here {a = m / 256} {b = n / 256} k
    go (no k) =
        let e : m / 256 ≡ n / 256 = omega arith in
        let l : m % 256 < n % 256 = omega arith in
        rw e (there (here l))

-- Of two commands the one that goes before has the lower byte where they differ.
node_byte : (c : ℕ) → is_node c ≡ true → c < 0x20
node_byte c e = go (eqb c 0x10) (eqb c 0x11) (eqb-true c 0x10) (eqb-true c 0x11) e
  where
    go : (p q : Bool) → (p ≡ true → c ≡ 0x10) → (q ≡ true → c ≡ 0x11) → (p || q) ≡ true → c < 0x20
    go true q h k e = omega (arith, h refl)
    go false q h k e = omega (arith, k e)

sooner_before : {s t : List ℕ} → Sooner s t → Before s t
sooner_before (plain_first c s t e) = here (node_byte c e)
sooner_before (fewer h i s t k) = there (two_bytes_before h i s t k)
sooner_before (narrower h v w s t k) = there (there (there (two_bytes_before v w s t k)))

pub differs_before : {f g : List ℕ} → DiffersFirst f g → Before f g
differs_before d = rw (d.left, d.right) (under d.common (sooner_before d.decided))

-- The first difference passes under common whole commands, and it ignores what follows.
commands_append : {x y : List ℕ} → Commands x → Commands y → Commands (x ++ y)
commands_append none q = q
commands_append {y} (command c o s k n p) q = rw append_assoc (command c o (s ++ y) k n (commands_append p q))

behind : {x s t : List ℕ} → Commands x → DiffersFirst s t → DiffersFirst (x ++ s) (x ++ t)
behind {x} p d =
    record {
      common = x ++ d.common;
      sooner = d.sooner;
      later = d.later;
      whole = commands_append p d.whole;
      left = rw append_assoc (cc);
      right = rw append_assoc (cc);
      decided = d.decided;
    }

sooner_followed : {s t : List ℕ} → Sooner s t → (x y : List ℕ) → Sooner (s ++ x) (t ++ y)
sooner_followed (plain_first c s t e) x y = plain_first c (s ++ x) (t ++ y) e
sooner_followed (fewer h i s t k) x y = fewer h i (s ++ x) (t ++ y) k
sooner_followed (narrower h v w s t k) x y = narrower h v w (s ++ x) (t ++ y) k

followed : {s t : List ℕ} → DiffersFirst s t → (x y : List ℕ) → DiffersFirst (s ++ x) (t ++ y)
followed d x y =
    record {
      common = d.common;
      sooner = d.sooner ++ x;
      later = d.later ++ y;
      whole = d.whole;
      left = rw (← append_assoc) (cc);
      right = rw (← append_assoc) (cc);
      decided = sooner_followed d.decided x y;
    }

-- A byte form is whole commands.
bytes_commands : (f : Forest) → Commands (bytes f)
unfolding form_in
bytes_commands end = none
bytes_commands (step l f) = command 0x10 (l ∷ []) (bytes f) refl refl (bytes_commands f)
bytes_commands (group l b f) =
    command 0x11 (l ∷ []) _ refl refl (commands_append (bytes_commands b) (command 0x12 [] (bytes f) refl refl (bytes_commands f)))
bytes_commands (repeat h w b f) =
    command 0x20 (two_bytes h (two_bytes w [])) _ refl refl
    (commands_append (bytes_commands b) (command 0x21 [] (bytes f) refl refl (bytes_commands f)))

-- A common first part can be taken away.
pub cancel_left : (x y z : Forest) → join x y ≡ join x z → y ≡ z
unfolding join
cancel_left end y z e = e
cancel_left (step l x) y z e = cancel_left x y z (cc)
cancel_left (group l b x) y z e = cancel_left x y z (cc)
cancel_left (repeat h w b x) y z e = cancel_left x y z (cc)

-- The first n siblings of a run.
leading : ℕ → Forest → Forest
leading zero f = end
leading (suc n) end = end
leading (suc n) (step l f) = step l (leading n f)
leading (suc n) (group l b f) = group l b (leading n f)
leading (suc n) (repeat h w b f) = end

leading_join : (x y : Forest) → Plain x → leading (siblings x) (join x y) ≡ x
unfolding leading join siblings
leading_join end y p = refl
leading_join (step l x) y p = rw one-add (ap (step l) (leading_join x y p))
leading_join (group l b x) y p = rw one-add (ap (group l b) (leading_join x y p.1))
leading_join (repeat h w b x) y p = absurd p

-- Two ways to cut a run after the same number of siblings are one.
pub same_cut : (x x' y y' : Forest) → Plain x → Plain x' → siblings x ≡ siblings x' → join x y ≡ join x' y' → (x ≡ x') × (y ≡ y')
same_cut x x' y y' p q n e =
    let same : x ≡ x' = cc (leading_join x y p, leading_join x' y' q) in
    (same, cancel_left x y y' (cc))

-- Two folds: the same, or their bytes in a relation one way or the other, such as byte order and the first difference.
abbrev pub EitherWay : (List ℕ → List ℕ → Type 0) → Forest → Forest → Type 0
EitherWay R f g = (f ≡ g) ⊎ (R (bytes f) (bytes g) ⊎ R (bytes g) (bytes f))

abbrev pub Ordered : Forest → Forest → Type 0
Ordered f g = EitherWay Before f g

abbrev pub Compared : Forest → Forest → Type 0
Compared f g = EitherWay DiffersFirst f g

-- Items with a body: their bodies decide, then what follows.
module _ (open_with : List ℕ) (close : ℕ) (item : Forest → Forest → Forest) (opens : Commands open_with)
    (closes : Commands (close ∷ [])) (spelt : (b f : Forest) → bytes (item b f) ≡ open_with ++ (bytes b ++ close ∷ bytes f)) where
  by_body : (b b' f f' : Forest) → DiffersFirst (bytes b) (bytes b') → DiffersFirst (bytes (item b f)) (bytes (item b' f'))
  by_body b b' f f' d = rw (spelt b f, spelt b' f') (behind opens (followed d (close ∷ bytes f) (close ∷ bytes f')))

  by_rest : (b f f' : Forest) → DiffersFirst (bytes f) (bytes f') → DiffersFirst (bytes (item b f)) (bytes (item b f'))
  by_rest b f f' d = rw (spelt b f, spelt b f') (behind opens (behind (bytes_commands b) (behind closes d)))

  by_parts : (b b' f f' : Forest) → Compared b b' → Compared f f' → Compared (item b f) (item b' f')
  by_parts b b' f f' (inl e) (inl k) = inl (cc)
  by_parts b b' f f' (inl e) (inr (inl k)) = inr (inl (rw e (by_rest b' f f' k)))
  by_parts b b' f f' (inl e) (inr (inr k)) = inr (inr (rw e (by_rest b' f' f k)))
  by_parts b b' f f' (inr (inl h)) o = inr (inl (by_body b b' f f' h))
  by_parts b b' f f' (inr (inr h)) o = inr (inr (by_body b' b f' f h))

step_parts : (l : ℕ) (f g : Forest) → Compared f g → Compared (step l f) (step l g)
unfolding form_in
step_parts l f g (inl e) = inl (ap (step l) e)
step_parts l f g (inr (inl d)) = inr (inl (behind (command 0x10 (l ∷ []) [] refl refl none) d))
step_parts l f g (inr (inr d)) = inr (inr (behind (command 0x10 (l ∷ []) [] refl refl none) d))

-- A sound repeat unrolls to something.
repeat_not_empty : (A : Allowed) (h w : ℕ) (b f : Forest) → Repeats A h w b → unroll (repeat h w b f) ≡ end → ⊥
unfolding siblings
repeat_not_empty A h w b f r e =
    let n : siblings (repeat h w b f) ≡ 0 = sym (siblings_unroll (repeat h w b f)) ∙ ap siblings e in
    let l : 0 < h = omega arith in
    omega (arith, mul-pos l r.some)

-- Repeats of one count and width over one run: their bodies unroll alike, and so does what follows.
repeat_parts : (A : Allowed) (h w : ℕ) (b b' f f' : Forest) → Repeats A h w b → Repeats A h w b'
    → unroll (repeat h w b f) ≡ unroll (repeat h w b' f') → (unroll b ≡ unroll b') × (unroll f ≡ unroll f')
unfolding unroll copies
repeat_parts A zero w b b' f f' r r' e = absurd (omega (arith, r.twice))
repeat_parts A (suc h) w b b' f f' r r' e =
    let n : siblings (unroll b) ≡ siblings (unroll b') = cc (siblings_unroll b, siblings_unroll b') in
    let k = same_cut (unroll b) (unroll b') _ _ (plain_unroll b) (plain_unroll b') n (simp join_assoc at e) in
    (k.0, cancel_left (copies h (unroll b)) (unroll f) (unroll f') (cc))

-- Two sequences that differ at their first command.
at_once : {s t : List ℕ} → Sooner s t → DiffersFirst s t
at_once {s} {t} k = record { common = []; sooner = s; later = t; whole = none; left = refl; right = refl; decided = k }

-- Two repeats: the counts decide, then the widths, then the bodies, then what follows.
repeats : (A : Allowed) (h h' w w' : ℕ) (b b' f f' : Forest) → Repeats A h w b → Repeats A h' w' b'
    → unroll (repeat h w b f) ≡ unroll (repeat h' w' b' f')
    → (unroll b ≡ unroll b' → Compared b b') → (unroll f ≡ unroll f' → Compared f f')
    → Dec (h < h') → Dec (h' < h) → Dec (w < w') → Dec (w' < w) → Compared (repeat h w b f) (repeat h' w' b' f')
unfolding form_in
repeats A h h' w w' b b' f f' r r' e body rest (yes k) _ _ _ = inr (inl (at_once (fewer h h' _ _ k)))
repeats A h h' w w' b b' f f' r r' e body rest (no _) (yes k) _ _ = inr (inr (at_once (fewer h' h _ _ k)))
repeats A h h' w w' b b' f f' r r' e body rest (no i) (no j) (yes k) _ =
    let s : h ≡ h' = omega arith in
    inr (inl (rw s (at_once (narrower h' w w' _ _ k))))
repeats A h h' w w' b b' f f' r r' e body rest (no i) (no j) (no _) (yes k) =
    let s : h ≡ h' = omega arith in
    inr (inr (rw s (at_once (narrower h' w' w _ _ k))))
repeats A h h' w w' b b' f f' r r' e body rest (no i) (no j) (no k) (no l) =
    let s : h' ≡ h = omega arith in
    let t : w' ≡ w = omega arith in
    let u = repeat_parts A h w b b' f f' r (rw (s, t) at r') (rw (s, t) at e) in
    let o : List ℕ = two_bytes h (two_bytes w []) in
    rw (s, t)
    (by_parts (0x20 ∷ o) 0x21 (repeat h w) (command 0x20 o [] refl refl none) (command 0x21 [] [] refl refl none) (λ _ _. refl)
    b b' f f' (body u.0) (rest u.1))

never : ◌≡◌ {A = ℕ} 0 1 → ⊥
never e = omega arith

-- THE COMPARISON: two sound folds of one run are the same, or they differ first at a command that decides.
pub compare_first : (A : Allowed) (f g : Forest) → Sound A f → Sound A g → unroll f ≡ unroll g → Compared f g
unfolding form_in unroll
compare_first A end end p q e = inl refl
compare_first A end (step m g) p q e = absurd (never (cc))
compare_first A end (group m c g) p q e = absurd (never (cc))
compare_first A end (repeat i v c g) p q e = absurd (repeat_not_empty A i v c g q.0 (sym e))
compare_first A (step l f) end p q e = absurd (never (cc))
compare_first A (step l f) (step m g) p q e =
    let s : l ≡ m = cc in
    rw s (step_parts m f g (compare_first A f g p q (cc)))
compare_first A (step l f) (group m c g) p q e = absurd (never (cc))
compare_first A (step l f) (repeat i v c g) p q e = inr (inl (at_once (plain_first 0x10 _ _ refl)))
compare_first A (group l b f) end p q e = absurd (never (cc))
compare_first A (group l b f) (step m g) p q e = absurd (never (cc))
compare_first A (group l b f) (group m c g) p q e =
    let s : l ≡ m = cc in
    rw s
    (by_parts (0x11 ∷ m ∷ []) 0x12 (group m) (command 0x11 (m ∷ []) [] refl refl none) (command 0x12 [] [] refl refl none) (λ _ _. refl)
    b c f g (compare_first A b c p.1 q.1 (cc)) (compare_first A f g p.2 q.2 (cc)))
compare_first A (group l b f) (repeat i v c g) p q e = inr (inl (at_once (plain_first 0x11 _ _ refl)))
compare_first A (repeat h w b f) end p q e = absurd (repeat_not_empty A h w b f p.0 e)
compare_first A (repeat h w b f) (step m g) p q e = inr (inr (at_once (plain_first 0x10 _ _ refl)))
compare_first A (repeat h w b f) (group m c g) p q e = inr (inr (at_once (plain_first 0x11 _ _ refl)))
compare_first A (repeat h w b f) (repeat i v c g) p q e =
    repeats A h i w v b c f g p.0 q.0 e (λ k. compare_first A b c p.1 q.1 k) (λ k. compare_first A f g p.2 q.2 k)
    (dec_lt h i) (dec_lt i h) (dec_lt w v) (dec_lt v w)

-- So they are the same or their bytes are in order.
pub compare : (A : Allowed) (f g : Forest) → Sound A f → Sound A g → unroll f ≡ unroll g → Ordered f g
compare A f g p q e = ⊎_map (λ k. k) (⊎_map differs_before differs_before) (compare_first A f g p q e)

-- No fold of a run is the beginning of another one of it.
pub no_beginning : (A : Allowed) (f g : Forest) (z : List ℕ) → Sound A f → Sound A g → unroll f ≡ unroll g → bytes g ≡ bytes f ++ z
    → (f ≡ g) × (z ≡ [])
no_beginning A f g z p q e k = go (compare A f g p q e)
  where
    go : Ordered f g → (f ≡ g) × (z ≡ [])
    go (inl s) = (s, append_cancel_left (bytes f) z [] (rw (append-nil, ← k) (ap bytes (sym s))))
    go (inr (inl h)) = absurd (beginning_not_before (bytes f) z (rw k at h))
    go (inr (inr h)) = absurd (beginning_not_after (bytes f) z (rw k at h))
