-- Which repeats may stand first, by how many siblings match those further on; and the matches one sibling earlier, and one copy later.
use mathlib.Core.Path.{◌≡◌, refl, sym, ◌∙◌}
use mathlib.Core.Bool.{Bool}
use Prim.Native.Nat.{ℕ, suc, ◌+◌, ◌-◌, ◌*◌, ◌≤◌, ◌<◌}
use native.Mathlib.Nat.{suc-mul}
use native.Mathlib.Numerals.{add-one}
use native.Mathlib.Decide.{dec_le}
use native.Mathlib.Omega.{arith}
use Rattle.format.specs.Forest.{Forest, Allowed, siblings, holds}
use Rattle.optimum.specs.Cheapest.{Run, front, back, node, FreeCopy, Power}
use Rattle.optimum.specs.Matches.{Matched}
use Rattle.optimum.proofs.Cut.{back_front, back_back, siblings_back}
use Rattle.optimum.proofs.Powers.{node_back, free_node, free_back, free_grow, power_from_shift, shift_from_power, reach}

-- One copy more covers d siblings more.
pub copy_more : (g h d : ℕ) → suc g ≡ h → h * d ≡ g * d + d
copy_more g h d e = rw (← e) (suc-mul g d)

-- As many siblings match as are equal and free.
pub matched_most : {marked : ℕ → Bool} {T : Forest} (w k d : ℕ) → Matched marked T w k → d + w ≤ siblings T
    → FreeCopy marked (front d T) (front d (back w T)) → d ≤ k
matched_most {marked} {T} w k d m fits e = elim (dec_le d k) [
  | yes l ↦ l
  | no l ↦
      let far : k < d = omega arith in
      let same : FreeCopy marked (node k T) (node (k + w) T) =
      rw (node_back w k (k + w) T (omega arith)) at (free_node marked k d T (back w T) far e) in
      absurd (m.stop (omega arith) same)
]

-- A count is possible exactly where the siblings match those d further on for one copy less.
pub near_power : {A : Allowed} {T : Forest} (h d k : ℕ) → Run A T → 0 < d → d ≤ A.widest → Matched A.marked T d k → 2 ≤ h → (h - 1) * d ≤ k
    → Power A T h d
near_power h d k r pos within m twice near =
    let s : suc (h - 1) ≡ h = omega arith in
    let e = copy_more (h - 1) h d s in
    power_from_shift (h - 1) h d k r s (omega arith) pos within (omega (arith, m.bound)) near m.shift

pub power_near : {A : Allowed} {T : Forest} (h d k : ℕ) → Run A T → Matched A.marked T d k → Power A T h d → (h - 1) * d ≤ k
power_near h d k r m p =
    let s : suc (h - 1) ≡ h = omega (arith, p.repeats.twice) in
    matched_most d k ((h - 1) * d) m (omega (arith, (reach p).covers, copy_more (h - 1) h d s)) (shift_from_power (h - 1) h d r s p)

-- From sibling i on there is one more than from the next on.
pub further : (A : Allowed) (t : Forest) → Run A t → (i : ℕ) → i < siblings t → siblings (back i t) ≡ siblings (back (i + 1) t) + 1
further A t r i h =
    omega (arith, siblings_back i t r.plain (omega arith), siblings_back (i + 1) t r.plain (omega arith))

-- One sibling more in front: the matches at a width grow by one, or there are none.
module _ (A : Allowed) (t : Forest) (r : Run A t) (i : ℕ) (h : i < siblings t) (w : ℕ) where
  pub matched_more : (k : ℕ) → FreeCopy A.marked (node i t) (node (i + w) t) → Matched A.marked (back (i + 1) t) w k
      → Matched A.marked (back i t) w (k + 1)
  unfolding back
  matched_more k e m =
      let next = back_back i 1 (i + 1) t refl in
      let same : FreeCopy A.marked (node 0 (back i t)) (node w (back i t)) = rw (node_back i w (i + w) t refl) e in
      record {
        shift = rw add-one (free_grow A.marked k w (back i t) same (rw next m.shift));
        bound = omega (arith, m.bound, further A t r i h);
        stop = λ l q. m.stop (omega (arith, further A t r i h))
            (rw (
              node_back (i + 1) k (i + (k + 1)) t (omega arith) ∙ sym (node_back i (k + 1) (i + (k + 1)) t refl),
              node_back (i + 1) (k + w) (i + (k + 1 + w)) t (omega arith) ∙ sym (node_back i (k + 1 + w) (i + (k + 1 + w)) t refl),
            )
            q);
      }

  pub matched_none : i + w ≤ siblings t → (i + w < siblings t → FreeCopy A.marked (node i t) (node (i + w) t) → ⊥)
      → Matched A.marked (back i t) w 0
  unfolding front back holds
  matched_none l z =
      let all = siblings_back i t r.plain (omega arith) in
      record {
        shift = record { same = refl; unmarked = refl };
        bound = omega arith;
        stop = λ m q. z (omega arith) (rw (node_back i (0 + w) (i + w) t (omega arith)) at q);
      }

-- One copy later as many match as are left.
pub matched_later : {marked : ℕ → Bool} (A : Allowed) (T : Forest) (w k m : ℕ) → Run A T → w + m ≡ k → Matched marked T w k
    → Matched marked (back w T) w m
matched_later {marked} A T w k m r e d =
    let size = siblings_back w T r.plain (omega (arith, d.bound)) in
    let cut : (x : Forest) → back w (front k x) ≡ front m (back w x) = λ x. back_front w m k x e in
    let at : (j n : ℕ) → w + j ≡ n → node j (back w T) ≡ node n T = λ j n q. node_back w j n T q in
    record {
      shift = rw (cut T, cut (back w T)) at (free_back marked w (front k T) (front k (back w T)) d.shift);
      bound = omega (arith, d.bound);
      stop = λ l q. d.stop (omega arith) (rw (at m k e, at (m + w) (k + w) (omega arith)) at q);
    }
