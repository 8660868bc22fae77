-- Cutting a sequence after its first n siblings: what the two parts are, and parts of parts.
use mathlib.Core.Path.{◌≡◌, refl, sym, ap, ◌∙◌}
use Prim.Native.Nat.{ℕ, zero, suc, ◌+◌, ◌≤◌}
use native.Mathlib.Numerals.{one-add}
use native.Mathlib.Decide.{dec_le}
use native.Mathlib.Omega.{arith}
use Rattle.format.specs.Forest.{Forest, end, step, group, repeat, join, siblings, nodes, Plain, Allowed}
use Rattle.format.proofs.Forests.{join_end, siblings_join, nodes_join, sound_parts}
use Rattle.optimum.specs.Cheapest.{Run, front, back}

-- The two parts make the whole.
pub join_cut : (n : ℕ) (t : Forest) → join (front n t) (back n t) ≡ t
unfolding join front back
join_cut zero t = refl
join_cut (suc n) end = refl
join_cut (suc n) (step l f) = ap (step l) (join_cut n f)
join_cut (suc n) (group l b f) = ap (group l b) (join_cut n f)
join_cut (suc n) (repeat h w b f) = ap (repeat h w b) (join_cut n f)

-- What was joined is cut apart again.
front_own : (x y : Forest) → Plain x → front (siblings x) (join x y) ≡ x
unfolding join front siblings
front_own end y p = refl
front_own (step l f) y p = rw one-add (ap (step l) (front_own f y p))
front_own (group l b f) y p = rw one-add (ap (group l b) (front_own f y p.1))
front_own (repeat h w b f) y p = absurd p

back_own : (x y : Forest) → Plain x → back (siblings x) (join x y) ≡ y
unfolding join back siblings
back_own end y p = refl
back_own (step l f) y p = rw one-add (back_own f y p)
back_own (group l b f) y p = rw one-add (back_own f y p.1)
back_own (repeat h w b f) y p = absurd p

pub front_join : (n : ℕ) (x y : Forest) → Plain x → siblings x ≡ n → front n (join x y) ≡ x
front_join n x y p e = rw (← e) (front_own x y p)

pub back_join : (n : ℕ) (x y : Forest) → Plain x → siblings x ≡ n → back n (join x y) ≡ y
back_join n x y p e = rw (← e) (back_own x y p)

-- Taken whole.
pub front_whole : (n : ℕ) (t : Forest) → Plain t → siblings t ≡ n → front n t ≡ t
front_whole n t p e = rw join_end at (front_join n t end p e)

pub back_whole : (n : ℕ) (t : Forest) → Plain t → siblings t ≡ n → back n t ≡ end
back_whole n t p e = rw join_end at (back_join n t end p e)

-- The first m of the first n, what follows them there, and the rest of a rest.
pub front_front : (m k n : ℕ) (t : Forest) → m + k ≡ n → front m (front n t) ≡ front m t
unfolding front
front_front zero k n t e = refl
front_front (suc m) k zero t e = absurd (omega arith)
front_front (suc m) k (suc n) end e = refl
front_front (suc m) k (suc n) (step l f) e = ap (step l) (front_front m k n f (omega arith))
front_front (suc m) k (suc n) (group l b f) e = ap (group l b) (front_front m k n f (omega arith))
front_front (suc m) k (suc n) (repeat h w b f) e = ap (repeat h w b) (front_front m k n f (omega arith))

pub back_front : (m k n : ℕ) (t : Forest) → m + k ≡ n → back m (front n t) ≡ front k (back m t)
unfolding front back
back_front zero k n t e = let z : n ≡ k = omega arith in rw z
back_front (suc m) k zero t e = absurd (omega arith)
back_front (suc m) zero (suc n) end e = refl
back_front (suc m) (suc k) (suc n) end e = refl
back_front (suc m) k (suc n) (step l f) e = back_front m k n f (omega arith)
back_front (suc m) k (suc n) (group l b f) e = back_front m k n f (omega arith)
back_front (suc m) k (suc n) (repeat h w b f) e = back_front m k n f (omega arith)

pub back_back : (m k n : ℕ) (t : Forest) → m + k ≡ n → back k (back m t) ≡ back n t
unfolding back
back_back zero k n t e = let z : k ≡ n = omega arith in rw z
back_back (suc m) k zero t e = absurd (omega arith)
back_back (suc m) zero (suc n) end e = refl
back_back (suc m) (suc k) (suc n) end e = refl
back_back (suc m) k (suc n) (step l f) e = back_back m k n f (omega arith)
back_back (suc m) k (suc n) (group l b f) e = back_back m k n f (omega arith)
back_back (suc m) k (suc n) (repeat h w b f) e = back_back m k n f (omega arith)

pub back_swap : (m n : ℕ) (t : Forest) → back m (back n t) ≡ back n (back m t)
back_swap m n t = back_back n m (n + m) t refl ∙ sym (back_back m n (n + m) t (omega arith))

-- The first n are the first m and the k after them.
pub front_add : (m k n : ℕ) (t : Forest) → m + k ≡ n → front n t ≡ join (front m t) (front k (back m t))
front_add m k n t e = sym (join_cut m (front n t)) ∙ rw (front_front m k n t e, back_front m k n t e)

-- A piece of one level, the n siblings from i on: what is left of it after m siblings is a piece too.
pub back_piece : (i j m k n : ℕ) (t : Forest) → i + m ≡ j → m + k ≡ n → back m (front n (back i t)) ≡ front k (back j t)
back_piece i j m k n t d e = back_front m k n (back i t) e ∙ ap (front k) (back_back i m j t d)

-- Parts of a run are runs.
plain_parts : (x y : Forest) → Plain (join x y) → Plain x × Plain y
unfolding join
plain_parts end y p = (tt, p)
plain_parts (step l f) y p = plain_parts f y p
plain_parts (group l b f) y p = let q = plain_parts f y p.1 in ((p.0, q.0), q.1)
plain_parts (repeat h w b f) y p = absurd p

run_cut : (A : Allowed) (n : ℕ) (t : Forest) → Run A t → Run A (front n t) × Run A (back n t)
run_cut A n t r =
    let p = plain_parts (front n t) (back n t) (rw join_cut r.plain) in
    let q = sound_parts A (front n t) (back n t) (rw join_cut r.sound) in
    (record { plain = p.0; sound = q.0 }, record { plain = p.1; sound = q.1 })

pub run_front : {A : Allowed} {t : Forest} (n : ℕ) → Run A t → Run A (front n t)
run_front {A} {t} n r = (run_cut A n t r).0

pub run_back : {A : Allowed} {t : Forest} (n : ℕ) → Run A t → Run A (back n t)
run_back {A} {t} n r = (run_cut A n t r).1

pub run_rest : {A : Allowed} {l : ℕ} {f : Forest} → Run A (step l f) → Run A f
run_rest r = record { plain = r.plain; sound = r.sound }

pub run_body : {A : Allowed} {l : ℕ} {b f : Forest} → Run A (group l b f) → Run A b
run_body r = record { plain = r.plain.0; sound = r.sound.1 }

pub run_after : {A : Allowed} {l : ℕ} {b f : Forest} → Run A (group l b f) → Run A f
run_after r = record { plain = r.plain.1; sound = r.sound.2 }

-- How many siblings the parts have.
pub siblings_front : (n : ℕ) (t : Forest) → Plain t → n ≤ siblings t → siblings (front n t) ≡ n
unfolding front siblings
siblings_front zero t p h = refl
siblings_front (suc n) end p h = absurd (omega arith)
siblings_front (suc n) (step l f) p h = omega (arith, siblings_front n f p (omega arith))
siblings_front (suc n) (group l b f) p h = omega (arith, siblings_front n f p.1 (omega arith))
siblings_front (suc n) (repeat m w b f) p h = absurd p

pub siblings_cut : (n : ℕ) (t : Forest) → siblings (front n t) + siblings (back n t) ≡ siblings t
siblings_cut n t = sym (siblings_join (front n t) (back n t)) ∙ ap siblings (join_cut n t)

pub siblings_back : (n : ℕ) (t : Forest) → Plain t → n ≤ siblings t → n + siblings (back n t) ≡ siblings t
siblings_back n t p h = omega (arith, siblings_front n t p h, siblings_cut n t)

pub siblings_piece : {A : Allowed} {t : Forest} (i n : ℕ) → Run A t → i + n ≤ siblings t → siblings (front n (back i t)) ≡ n
siblings_piece {t = t} i n r h =
    siblings_front n (back i t) (run_back i r).plain (omega (arith, siblings_back i t r.plain (omega arith)))

pub siblings_front_le : (n : ℕ) (t : Forest) → Plain t → siblings (front n t) ≤ n
siblings_front_le n t p =
    elim (dec_le n (siblings t)) [ yes h ↦ omega (arith, siblings_front n t p h) | no h ↦ omega (arith, siblings_cut n t) ]

-- Their nodes.
pub nodes_cut : (n : ℕ) (t : Forest) → nodes (front n t) + nodes (back n t) ≡ nodes t
nodes_cut n t = sym (nodes_join (front n t) (back n t)) ∙ ap nodes (join_cut n t)

pub siblings_le_nodes : (t : Forest) → Plain t → siblings t ≤ nodes t
unfolding siblings nodes
siblings_le_nodes end p = omega arith
siblings_le_nodes (step l f) p = omega (arith, siblings_le_nodes f p)
siblings_le_nodes (group l b f) p = omega (arith, siblings_le_nodes f p.1)
siblings_le_nodes (repeat h w b f) p = absurd p
