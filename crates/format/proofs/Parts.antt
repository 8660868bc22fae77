-- The part of a node on trees: it is the byte form of the node that stands there, and equal parts are equal nodes.
use mathlib.Core.Path.{◌≡◌, refl, sym, ◌∙◌}
use mathlib.Core.List.{List, [], ◌∷◌, ◌++◌, append_assoc, append-nil}
use mathlib.Core.Bool.{Bool, true, false, cond, false≢true}
use mathlib.Core.Logic.{◌⊎◌, inl, inr, ⊎_elim}
use Prim.Native.Nat.{ℕ, zero, suc, ◌+◌}
use native.Mathlib.Nat.{zero-add, suc-add}
use native.Mathlib.Omega.{arith}
use lib.Dec.{eqb}
use lib.ListN.{length, take, drop, length-append}
use lib.Seq.{take_at, drop-append-add}
use borrow.Author.Tests.{eq-eqb}
use Rattle.format.specs.Forest.{Forest, end, step, group, repeat, form_in, bytes, Plain}
use Rattle.format.specs.Readings.{run_reading}
use Rattle.format.specs.Parts.{starts, closing, node_size, part_of, Stands, first_step, first_group, behind_step, inside_group, behind_group}
use Rattle.format.proofs.Tree.{bytes_injective}

-- A single node of a run.
pub data Node : Forest → Type 0 where
  a_step : (l : ℕ) → Node (step l end)
  a_group : (l : ℕ) (b : Forest) → Plain b → Node (group l b end)

-- A run inside an open group leaves it open.
pub closing_plain : (f : Forest) → Plain f → (rest : List ℕ) (d : ℕ) → closing (bytes f ++ rest) (suc d) 0 ≡ length (bytes f) + closing rest (suc d) 0
unfolding form_in closing
closing_plain end p rest d = omega arith
closing_plain (step l f) p rest d = omega (arith, closing_plain f p rest d)
closing_plain (group l b f) p rest d =
    rw (append_assoc (bytes b) (0x12 ∷ bytes f) rest)
    (omega (arith, closing_plain b p.0 (0x12 ∷ bytes f ++ rest) (suc d), closing_plain f p.1 rest d, length-append (bytes b) (0x12 ∷ bytes f)))
closing_plain (repeat h w b f) p rest d = absurd p

-- With no group open only the operand bytes are left.
pub closing_none : (s : List ℕ) (k : ℕ) → closing s 0 k ≡ k
unfolding closing
closing_none [] k = refl
closing_none (c ∷ s) k = refl

-- A node's size is the length of its byte form.
pub size_of_node : (n : Forest) → Node n → (rest : List ℕ) → node_size (bytes n ++ rest) ≡ length (bytes n)
unfolding form_in node_size
size_of_node n (a_step l) rest = refl
size_of_node n (a_group l b p) rest =
    rw (append_assoc (bytes b) (0x12 ∷ []) rest)
    (omega (arith, closing_plain b p (0x12 ∷ rest) 0, closing_none rest 0, length-append (bytes b) (0x12 ∷ [])))

pub part_of_node : (n : Forest) → Node n → (rest : List ℕ) → take (node_size (bytes n ++ rest)) (bytes n ++ rest) ≡ bytes n
part_of_node n a rest = take_at (bytes n) rest _ (sym (size_of_node n a rest))

-- Such a node is one, and its bytes are what the run's go on with from there.
pub stands_node : (f : Forest) (p : ℕ) (n : Forest) → Stands f p n → Plain f → Node n
stands_node f p n (first_step l g) a = a_step l
stands_node f p n (first_group l b g) a = a_group l b a.0
stands_node f p n (behind_step l g q m h) a = stands_node g q m h a
stands_node f p n (inside_group l b g q m h) a = stands_node b q m h a.0
stands_node f p n (behind_group l b g q m h) a = stands_node g q m h a.1

pub stands_bytes : (f : Forest) (p : ℕ) (n : Forest) → Stands f p n → (rest : List ℕ) → (tail : List ℕ) × (drop p (bytes f ++ rest) ≡ bytes n ++ tail)
unfolding form_in
stands_bytes f p n (first_step l g) rest = (bytes g ++ rest, refl)
stands_bytes f p n (first_group l b g) rest =
    (bytes g ++ rest, rw (append_assoc (bytes b) (0x12 ∷ bytes g) rest, append_assoc (bytes b) (0x12 ∷ []) (bytes g ++ rest)))
stands_bytes f p n (behind_step l g q m h) rest = stands_bytes g q m h rest
stands_bytes f p n (inside_group l b g q m h) rest =
    let i = stands_bytes b q m h (0x12 ∷ bytes g ++ rest) in
    (i.0, rw (append_assoc (bytes b) (0x12 ∷ bytes g) rest) i.1)
stands_bytes f p n (behind_group l b g q m h) rest =
    let i = stands_bytes g q m h rest in
    (i.0, rw (append_assoc (bytes b) (0x12 ∷ bytes g) rest, drop-append-add (bytes b) (0x12 ∷ bytes g ++ rest) (suc q)) i.1)

-- Behind a whole sequence the count of operand bytes starts anew.
pub starts_behind : (f : Forest) (p : ℕ) (rest : List ℕ) → starts (length (bytes f) + p) 0 (bytes f ++ rest) ≡ starts p 0 rest
unfolding form_in starts
starts_behind end p rest = rw zero-add
starts_behind (step l f) p rest = rw (suc-add, suc-add) (starts_behind f p rest)
starts_behind (group l b f) p rest =
    let e : length (bytes (group l b f)) + p ≡ suc (suc (length (bytes b) + suc (length (bytes f) + p))) =
    omega (arith, length-append (bytes b) (0x12 ∷ bytes f)) in
    rw (e, append_assoc (bytes b) (0x12 ∷ bytes f) rest)
    (starts_behind b (suc (length (bytes f) + p)) (0x12 ∷ bytes f ++ rest) ∙ starts_behind f p rest)
starts_behind (repeat h w b f) p rest =
    let e : length (bytes (repeat h w b f)) + p ≡ suc (suc (suc (suc (suc (length (bytes b) + suc (length (bytes f) + p)))))) =
    omega (arith, length-append (bytes b) (0x21 ∷ bytes f)) in
    rw (e, append_assoc (bytes b) (0x21 ∷ bytes f) rest)
    (starts_behind b (suc (length (bytes f) + p)) (0x21 ∷ bytes f ++ rest) ∙ starts_behind f p rest)

-- A node starts at each offset where one stands.
pub stands_starts : (f : Forest) (p : ℕ) (n : Forest) → Stands f p n → (rest : List ℕ) → starts p 0 (bytes f ++ rest) ≡ true
unfolding form_in starts
stands_starts f p n (first_step l g) rest = refl
stands_starts f p n (first_group l b g) rest = refl
stands_starts f p n (behind_step l g q m h) rest = stands_starts g q m h rest
stands_starts f p n (inside_group l b g q m h) rest =
    rw (append_assoc (bytes b) (0x12 ∷ bytes g) rest) (stands_starts b q m h (0x12 ∷ bytes g ++ rest))
stands_starts f p n (behind_group l b g q m h) rest =
    rw (append_assoc (bytes b) (0x12 ∷ bytes g) rest)
    (starts_behind b (suc q) (0x12 ∷ bytes g ++ rest) ∙ stands_starts g q m h rest)

-- Where a node starts, one stands, or it starts behind the run.
after_close : (q : ℕ) (x : List ℕ) → starts q 0 (0x12 ∷ x) ≡ true → (r : ℕ) × (q ≡ suc r) × (starts r 0 x ≡ true)
unfolding starts
after_close zero x h = absurd (false≢true h)
after_close (suc r) x h = (r, refl, h)

behind_at : (l : ℕ) (b f : Forest) (p q : ℕ) (n : Forest) → p ≡ length (bytes b) + suc q → Stands f q n → Stands (group l b f) (suc (suc p)) n
behind_at l b f p q n e h = rw e (behind_group l b f q n h)

pub starts_stands : (f : Forest) → Plain f → (p : ℕ) (rest : List ℕ) → starts p 0 (bytes f ++ rest) ≡ true → ((n : Forest) × Stands f p n) ⊎ ((q : ℕ) × (p ≡ length (bytes f) + q) × (starts q 0 rest ≡ true))
unfolding form_in starts
starts_stands end a p rest h = inr (p, omega arith, h)
starts_stands (step l f) a zero rest h = inl (step l end, first_step l f)
starts_stands (step l f) a (suc zero) rest h = absurd (false≢true h)
starts_stands (step l f) a (suc (suc p)) rest h =
    ⊎_elim
    (λ w. inl (w.0, behind_step l f p w.0 w.1))
    (λ w. inr (w.0, omega (arith, w.1), w.2))
    (starts_stands f a p rest h)
starts_stands (group l b f) a zero rest h = inl (group l b end, first_group l b f)
starts_stands (group l b f) a (suc zero) rest h = absurd (false≢true h)
starts_stands (group l b f) a (suc (suc p)) rest h =
    ⊎_elim
    (λ w. inl (w.0, inside_group l b f p w.0 w.1))
    (λ w.
    let u = after_close w.0 (bytes f ++ rest) w.2 in
    let e : p ≡ length (bytes b) + suc u.0 = omega (arith, w.1, u.1) in
    ⊎_elim
    (λ v. inl (v.0, behind_at l b f p u.0 v.0 e v.1))
    (λ v. inr (v.0, omega (arith, v.1, length-append (bytes b) (0x12 ∷ bytes f)), v.2))
    (starts_stands f a.1 u.0 rest u.2))
    (starts_stands b a.0 p (0x12 ∷ bytes f ++ rest) (rw (append_assoc (bytes b) (0x12 ∷ bytes f) rest) at h))
starts_stands (repeat n w b f) a p rest h = absurd a

nothing : (b : Bool) → ◌≡◌ {A = List ℕ} (cond b [] []) []
nothing true = refl
nothing false = refl

-- The part of an accepted run at an offset: the bytes of the node that stands there, or nothing.
module _ (f : Forest) (plain : Plain f) (p : ℕ) where
  pub part_there : (run_reading (bytes f)).refusal ≡ 0 → (n : Forest) → Stands f p n → part_of (bytes f) p ≡ bytes n
  unfolding part_of
  part_there good n h =
      let s = rw (append-nil (bytes f)) at (stands_starts f p n h []) in
      let t = stands_bytes f p n h [] in
      let d = rw (append-nil (bytes f)) at t.1 in
      rw (eq-eqb _ _ good, s, d) (part_of_node n (stands_node f p n h plain) t.0)

  none_starts : (b : Bool) → b ≡ starts p 0 (bytes f) → ((n : Forest) → Stands f p n → ⊥) → b ≡ false
  unfolding starts
  none_starts false e z = refl
  none_starts true e z =
      ⊎_elim
      (λ w. absurd (z w.0 w.1))
      (λ w. absurd (false≢true w.2))
      (starts_stands f plain p [] (rw (append-nil (bytes f)) (sym e)))

  pub part_elsewhere : ((n : Forest) → Stands f p n → ⊥) → part_of (bytes f) p ≡ []
  unfolding part_of
  part_elsewhere z = rw (none_starts _ refl z) (nothing (eqb (run_reading (bytes f)).refusal 0))

-- Two nodes of an accepted run whose parts are equal are equal, label and children.
pub same_part : (f : Forest) → Plain f → (run_reading (bytes f)).refusal ≡ 0 → (p q : ℕ) (m n : Forest) → Stands f p m → Stands f q n → part_of (bytes f) p ≡ part_of (bytes f) q → m ≡ n
same_part f a good p q m n h k e =
    bytes_injective m n
    (sym (part_there f a p good m h) ∙ (e ∙ part_there f a q good n k))
