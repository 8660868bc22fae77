-- Copies at the beginning of a run: one equation for them, how they are found sibling by sibling, how far they reach.
use mathlib.Core.Path.{◌≡◌, sym, ap, ◌∙◌}
use mathlib.Core.Bool.{Bool, false}
use Prim.Native.Nat.{ℕ, zero, suc, ◌+◌, ◌-◌, ◌*◌, ◌≤◌, ◌<◌, min}
use native.Mathlib.Nat.{suc-mul, le-mul_of_pos_right, mul-le-mul_right}
use native.Mathlib.Numerals.{add-one}
use native.Mathlib.Omega.{arith}
use Rattle.format.specs.Forest.{Forest, join, copies, siblings, holds, Plain, Allowed}
use Rattle.format.proofs.Forests.{join_end, siblings_copies, plain_copies, copies_add}
use Rattle.format.proofs.Marks.{holds_left, holds_right, holds_both, unmarked_copies}
use Rattle.optimum.specs.Cheapest.{Run, front, back, node, FreeCopy, Power, Candidate, plain, power, Bases, usual, own, Spans}
use Rattle.optimum.proofs.Cut.{join_cut, front_front, back_front, back_back, back_swap, front_add, front_join, back_join, siblings_cut, siblings_front, siblings_front_le, run_front}

-- A sibling of a part.
pub node_front : (j n : ℕ) (t : Forest) → j < n → node j (front n t) ≡ node j t
node_front j n t h =
    ap (front 1) (back_front j (n - j) n t (omega arith)) ∙ front_front 1 (n - j - 1) (n - j) (back j t) (omega arith)

pub node_back : (i j n : ℕ) (t : Forest) → i + j ≡ n → node j (back i t) ≡ node n t
node_back i j n t e = rw (back_back i j n t e)

-- Two beginnings that are equal have equal shorter ones.
pub front_less : (m k n : ℕ) (s t : Forest) → m + k ≡ n → front n s ≡ front n t → front m s ≡ front m t
front_less m k n s t e h = sym (front_front m k n s e) ∙ ap (front m) h ∙ front_front m k n t e

-- Where the siblings equal those w further on, as far as g copies reach, stands one copy more; and back.
pub copied_from_shift : (g w : ℕ) (t : Forest) → front (g * w) t ≡ front (g * w) (back w t)
    → front (suc g * w) t ≡ copies (suc g) (front w t)
unfolding copies
copied_from_shift zero w t e = let z : 1 * w ≡ w = omega arith in rw z (sym (join_end (front w t)))
copied_from_shift (suc g) w t e =
    let less = front_less (g * w) w (suc g * w) t (back w t) (omega (arith, suc-mul g w)) e in
    front_add w (suc g * w) (suc (suc g) * w) t (omega (arith, suc-mul (suc g) w))
    ∙ ap (join (front w t)) (sym e ∙ copied_from_shift g w t less)

pub shift_from_copied : (g w : ℕ) (t : Forest) → Plain (front w t) → siblings (front w t) ≡ w
    → front (suc g * w) t ≡ copies (suc g) (front w t) → front (g * w) t ≡ front (g * w) (back w t)
unfolding copies
shift_from_copied g w t p s e =
    let last : join (copies g (front w t)) (copies 1 (front w t)) ≡ copies (suc g) (front w t) =
    rw add-one at (copies_add g 1 (front w t)) in
    let size : siblings (copies g (front w t)) ≡ g * w = siblings_copies g (front w t) ∙ rw s in
    sym (front_front (g * w) w (suc g * w) t (omega (arith, suc-mul g w)))
    ∙ ap (front (g * w)) (e ∙ sym last)
    ∙ front_join (g * w) (copies g (front w t)) (copies 1 (front w t)) (plain_copies g (front w t) p) size
    ∙ sym (back_join w (front w t) (copies g (front w t)) p s)
    ∙ ap (back w) (sym e)
    ∙ back_front w (g * w) (suc g * w) t (omega (arith, suc-mul g w))

-- Free copies: of a shorter beginning, of what follows, of one sibling, and of one sibling more.
module _ (m : ℕ → Bool) where
  pub unmarked_front : (i n : ℕ) (t : Forest) → i ≤ n → holds m (front n t) ≡ false → holds m (front i t) ≡ false
  unmarked_front i n t l e = holds_left m (front i t) (front (n - i) (back i t)) (rw (front_add i (n - i) n t (omega arith)) at e)

  pub free_less : (i n : ℕ) (s t : Forest) → i ≤ n → FreeCopy m (front n s) (front n t) → FreeCopy m (front i s) (front i t)
  free_less i n s t l c =
      record { same = front_less i (n - i) n s t (omega arith) c.same; unmarked = unmarked_front i n s l c.unmarked }

  pub free_back : (n : ℕ) (x y : Forest) → FreeCopy m x y → FreeCopy m (back n x) (back n y)
  free_back n x y c =
      record { same = ap (back n) c.same; unmarked = holds_right m (front n x) (back n x) (rw (join_cut n x) c.unmarked) }

  pub free_node : (k d : ℕ) (s t : Forest) → k < d → FreeCopy m (front d s) (front d t) → FreeCopy m (node k s) (node k t)
  free_node k d s t l c =
      let cut : (x : Forest) → back k (front d x) ≡ front (d - k) (back k x) = λ x. back_front k (d - k) d x (omega arith) in
      free_less 1 (d - k) (back k s) (back k t) (omega arith) (rw (cut s, cut t) at (free_back k (front d s) (front d t) c))

-- One sibling more that equals the one w further on.
pub shift_grow : (k w : ℕ) (t : Forest) → node 0 t ≡ node w t → front k (back 1 t) ≡ front k (back w (back 1 t))
    → front (suc k) t ≡ front (suc k) (back w t)
unfolding back
shift_grow k w t a b =
    let first : front 1 t ≡ front 1 (back w t) = a in
    cc (front_add 1 k (suc k) t (omega arith), front_add 1 k (suc k) (back w t) (omega arith), back_swap w 1 t)

pub free_grow : (m : ℕ → Bool) (k w : ℕ) (t : Forest) → FreeCopy m (node 0 t) (node w t)
    → FreeCopy m (front k (back 1 t)) (front k (back w (back 1 t))) → FreeCopy m (front (suc k) t) (front (suc k) (back w t))
unfolding back
free_grow m k w t a b =
    record {
      same = shift_grow k w t a.same b.same;
      unmarked = rw (front_add 1 k (suc k) t (omega arith)) (holds_both m (front 1 t) (front k (back 1 t)) a.unmarked b.unmarked);
    }

-- A repeat of count h = g + 1 may stand first exactly where the siblings equal those w further on for at least g × w, and are free.
pub power_from_shift : {A : Allowed} {t : Forest} (g h w k : ℕ) → Run A t → suc g ≡ h → 0 < g → 0 < w → w ≤ A.widest
    → h * w ≤ siblings t → g * w ≤ k → FreeCopy A.marked (front k t) (front k (back w t)) → Power A t h w
power_from_shift {A} {t = t} g h w k r e i j within fits l s =
    let c = copied_from_shift g w t (front_less (g * w) (k - g * w) k t (back w t) (omega arith) s.same) in
    let one : 1 * w ≤ g * w = mul-le-mul_right w i in
    let fits' : suc g * w ≤ siblings t = rw e fits in
    let n = siblings_front w t r.plain (omega (arith, suc-mul g w)) in
    record {
      repeats = record {
        twice = omega arith;
        true_width = n;
        within = within;
        some = omega arith;
        unmarked = unmarked_front A.marked w k t (omega arith) s.unmarked;
      };
      copied = rw e at c;
    }

pub shift_from_power : {A : Allowed} {t : Forest} (g h w : ℕ) → Run A t → suc g ≡ h → Power A t h w
    → FreeCopy A.marked (front (g * w) t) (front (g * w) (back w t))
shift_from_power {A} {t = t} g h w r e p =
    record {
      same = shift_from_copied g w t (run_front w r).plain p.repeats.true_width (rw e p.copied);
      unmarked = unmarked_front A.marked (g * w) (h * w) t (omega (arith, rw e at (suc-mul g w))) (rw p.copied (unmarked_copies A.marked h (front w t) p.repeats.unmarked));
    }

-- How far the copies reach, and how large their count and width can be.
pub record Reach (t : Forest) (h w : ℕ) : Type 0 where
  pub some : 0 < w
  pub covers : h * w ≤ siblings t
  pub count : h ≤ h * w
  pub width : 2 * w ≤ h * w

pub reach : {A : Allowed} {t : Forest} {h w : ℕ} → Power A t h w → Reach t h w
reach {t = t} {h = h} {w = w} p =
    let r = p.repeats in
    let size : siblings (front (h * w) t) ≡ h * w =
    ap siblings p.copied ∙ siblings_copies h (front w t) ∙ rw r.true_width in
    record {
      some = omega arith;
      covers = omega (arith, siblings_cut (h * w) t);
      count = le-mul_of_pos_right h (omega arith);
      width = mul-le-mul_right w r.twice;
    }

-- Copies are a matter of the beginning alone.
power_same : {A : Allowed} {h w : ℕ} (s t : Forest) → front (h * w) s ≡ front (h * w) t → Power A s h w → Power A t h w
power_same {h = h} {w = w} s t e p =
    let r = reach p in
    let f : front w s ≡ front w t = front_less w (h * w - w) (h * w) s t (omega arith) e in
    record { repeats = rw f at p.repeats; copied = sym e ∙ p.copied ∙ ap (copies h) f }

pub power_front : {A : Allowed} {t : Forest} {h w : ℕ} (n : ℕ) → h * w ≤ n → Power A t h w → Power A (front n t) h w
power_front {t = t} {h = h} {w = w} n l p =
    power_same t (front n t) (sym (front_front (h * w) (n - h * w) n t (omega arith))) p

pub power_of_front : {A : Allowed} {t : Forest} {h w : ℕ} (n : ℕ) → Plain t → Power A (front n t) h w → Power A t h w
power_of_front {t = t} {h = h} {w = w} n q p =
    let r = reach p in
    let l = siblings_front_le n t q in
    power_same (front n t) t (front_front (h * w) (n - h * w) n t (omega arith)) p

-- Bases that are large enough: for counts above the siblings, for widths above half of them or above the widest.
pub spans : {A : Allowed} {B : Bases} {t : Forest} → siblings t < B.counts → min (2 * A.widest) (siblings t) < 2 * B.widths
    → Spans A B t
spans {A} {B} {t} a b = record { count = count; width = width }
  where
    count : (h w : ℕ) → Candidate A t h w → h < B.counts
    count h w plain = omega arith
    count h w (power p) = let r = reach p in omega arith

    width : (h w : ℕ) → Candidate A t h w → w < B.widths
    width h w plain = omega arith
    width h w (power p) = let r = reach p in omega (arith, p.repeats.within)

pub spans_own : (A : Allowed) (t : Forest) → Spans A (own t) t
spans_own A t = spans (omega arith) (omega arith)

pub spans_usual : (A : Allowed) (t : Forest) → siblings t ≤ 1024 → Spans A usual t
spans_usual A t l = spans (omega arith) (omega arith)

pub spans_front : {A : Allowed} {B : Bases} {t : Forest} (n : ℕ) → Plain t → Spans A B t → Spans A B (front n t)
spans_front {A} {B} {t} n q s = record { count = λ h w d. s.count h w (up d); width = λ h w d. s.width h w (up d) }
  where
    up : {h w : ℕ} → Candidate A (front n t) h w → Candidate A t h w
    up plain = plain
    up (power p) = power (power_of_front n q p)
