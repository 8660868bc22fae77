-- The first item of a fold: what it says about the run, and which of two folds it puts first in byte order.
use mathlib.Core.Path.{◌≡◌, refl, sym, ap, ◌∙◌}
use Prim.Native.Nat.{ℕ, zero, suc, ◌*◌, ◌<◌}
use native.Mathlib.Nat.{mul-le-mul}
use native.Mathlib.Omega.{arith}
use Rattle.format.specs.Forest.{Forest, end, step, group, repeat, join, copies, unroll, siblings, nodes, form_in, bytes, holds, Plain, Allowed, Repeats, Sound}
use Rattle.format.specs.Order.{Before, here, there}
use Rattle.format.proofs.Forests.{join_assoc, siblings_unroll, unroll_plain, plain_unroll, plain_copies, siblings_copies, sound_unroll}
use Rattle.format.proofs.Marks.{holds_unroll}
use Rattle.optimum.specs.Optimal.{FoldOf}
use Rattle.optimum.specs.Cheapest.{Run, front, back, Power, Candidate, plain, power, build}
use Rattle.optimum.proofs.Cut.{join_cut, front_join, back_join, siblings_back, siblings_front, nodes_cut, siblings_le_nodes, run_front, run_back}
use Rattle.optimum.proofs.Powers.{reach}
use Rattle.optimum.proofs.Rank.{Sooner, fewer, narrower}
use Rattle.format.proofs.Order.{two_bytes_before}

-- The pair of a fold's first item.
unfoldable pub count_of : Forest → ℕ
count_of end = 0
count_of (step l f) = 0
count_of (group l b f) = 0
count_of (repeat h w b f) = h

unfoldable pub width_of : Forest → ℕ
width_of end = 0
width_of (step l f) = 0
width_of (group l b f) = 0
width_of (repeat h w b f) = w

-- Of two folds of one run the one whose pair is sooner comes earlier in byte order.
not_sooner : {h w : ℕ} → Sooner h w 0 0 → ⊥
not_sooner (fewer k) = omega arith
not_sooner (narrower e k) = omega arith

pub sooner_before : {A : Allowed} {t : Forest} (f g : Forest) → FoldOf A t f → FoldOf A t g
    → Sooner (count_of f) (width_of f) (count_of g) (width_of g) → Before (bytes f) (bytes g)
unfolding count_of width_of form_in siblings
sooner_before f end p q s = absurd (not_sooner s)
sooner_before f (step m g) p q s = absurd (not_sooner s)
sooner_before f (group m c g) p q s = absurd (not_sooner s)
sooner_before end (repeat i v c g) p q s =
    let n : siblings end ≡ siblings (repeat i v c g) =
    cc (p.unrolls, q.unrolls, siblings_unroll end, siblings_unroll (repeat i v c g)) in
    let r = q.sound.0 in
    absurd (omega (arith, mul-le-mul r.twice r.some))
sooner_before (step l f) (repeat i v c g) p q s = here {a = 0x10} {b = 0x20} (omega arith)
sooner_before (group l b f) (repeat i v c g) p q s = here {a = 0x11} {b = 0x20} (omega arith)
sooner_before (repeat h w b f) (repeat i v c g) p q (fewer k) = there (two_bytes_before h i _ _ k)
sooner_before (repeat h w b f) (repeat i v c g) p q (narrower j k) = rw j (there (there (there (two_bytes_before w v _ _ k))))

-- The parts of a power are smaller.
pub power_body_less : {A : Allowed} {t : Forest} {h w : ℕ} → Run A t → Power A t h w → nodes (front w t) < nodes t
power_body_less {t = t} {h = h} {w = w} q p =
    let r = reach p in
    let n = siblings_back w t q.plain (omega arith) in
    omega (arith, nodes_cut w t, siblings_le_nodes (back w t) (run_back w q).plain)

pub power_rest_less : {A : Allowed} {t : Forest} {h w : ℕ} → Run A t → Power A t h w → nodes (back (h * w) t) < nodes t
power_rest_less {t = t} {h = h} {w = w} q p =
    let r = reach p in
    let n = siblings_front (h * w) t q.plain r.covers in
    omega (arith, nodes_cut (h * w) t, siblings_le_nodes (front (h * w) t) (run_front (h * w) q).plain)

-- Whether a body may be repeated is a matter of what it unrolls to.
repeats_same : {A : Allowed} {h w : ℕ} (b x : Forest) → Sound A b → Sound A x → unroll b ≡ unroll x → Repeats A h w b → Repeats A h w x
repeats_same {A} b x p q e r =
    let n : siblings b ≡ siblings x = cc (siblings_unroll b, siblings_unroll x) in
    let m : holds A.marked b ≡ holds A.marked x = cc (holds_unroll A.marked A b p, holds_unroll A.marked A x q) in
    record {
      twice = r.twice;
      true_width = sym n ∙ r.true_width;
      within = r.within;
      some = rw n at r.some;
      unmarked = sym m ∙ r.unmarked;
    }

-- A fold that begins with a repeat: the repeat may stand there, its body and the rest are folds of the parts; and back.
pub record Parts (A : Allowed) (t : Forest) (h w : ℕ) (b f : Forest) : Type 0 where
  pub first : Power A t h w
  pub body : FoldOf A (front w t) b
  pub rest : FoldOf A (back (h * w) t) f

pub whole : {A : Allowed} {t : Forest} {h w : ℕ} {b f : Forest} → Run A t → Parts A t h w b f → FoldOf A t (repeat h w b f)
unfolding unroll
whole {t = t} {h = h} {w = w} {b = b} r p =
    let x = p.body.unrolls in
    let same : unroll (front w t) ≡ unroll b = unroll_plain (front w t) (run_front w r).plain ∙ sym x in
    record {
      sound = (repeats_same (front w t) b (run_front w r).sound p.body.sound same p.first.repeats, p.body.sound, p.rest.sound);
      unrolls = rw (x, p.rest.unrolls, ← p.first.copied) (join_cut (h * w) t);
    }

parts_own : (A : Allowed) (h w : ℕ) (b f : Forest) → Sound A (repeat h w b f) → Parts A (unroll (repeat h w b f)) h w b f
unfolding unroll copies
parts_own A zero w b f s = absurd (omega (arith, s.0.twice))
parts_own A (suc h) w b f s =
    let x = unroll b in
    let n : siblings x ≡ w = siblings_unroll b ∙ s.0.true_width in
    let k : siblings (copies (suc h) x) ≡ suc h * w = siblings_copies (suc h) x ∙ rw n in
    let q : Plain (copies (suc h) x) = plain_copies (suc h) x (plain_unroll b) in
    let body : front w (unroll (repeat (suc h) w b f)) ≡ x =
    ap (front w) (join_assoc x (copies h x) (unroll f)) ∙ front_join w x (join (copies h x) (unroll f)) (plain_unroll b) n in
    let all = front_join (suc h * w) (copies (suc h) x) (unroll f) q k in
    let rest = back_join (suc h * w) (copies (suc h) x) (unroll f) q k in
    let may = repeats_same b x s.1 (sound_unroll A b s.1) (sym (unroll_plain x (plain_unroll b))) s.0 in
    record {
      first = record { repeats = rw body may; copied = all ∙ ap (copies (suc h)) (sym body) };
      body = record { sound = s.1; unrolls = sym body };
      rest = record { sound = s.2; unrolls = sym rest };
    }

pub parts : {A : Allowed} {t : Forest} {h w : ℕ} {b f : Forest} → FoldOf A t (repeat h w b f) → Parts A t h w b f
parts {A} {h = h} {w = w} {b = b} {f = f} q = rw q.unrolls at (parts_own A h w b f q.sound)

-- The pair of a fold's first item may stand first.
pub candidate_of : {A : Allowed} {t : Forest} (g : Forest) → FoldOf A t g → Candidate A t (count_of g) (width_of g)
unfolding count_of width_of
candidate_of end q = plain
candidate_of (step l f) q = plain
candidate_of (group l b f) q = plain
candidate_of (repeat h w b f) q = power (parts q).first

-- What a pair builds begins with that pair.
pub count_build : (go : Forest → Forest) (t : Forest) (h w : ℕ) → count_of (build go t h w) ≡ h
unfolding count_of build
count_build go end zero w = refl
count_build go (step l f) zero w = refl
count_build go (group l b f) zero w = refl
count_build go (repeat k v b f) zero w = refl
count_build go t (suc h) w = refl

width_plain : (go : Forest → Forest) (t : Forest) → width_of (build go t 0 0) ≡ 0
unfolding width_of build
width_plain go end = refl
width_plain go (step l f) = refl
width_plain go (group l b f) = refl
width_plain go (repeat k v b f) = refl

width_power : {A : Allowed} {t : Forest} (go : Forest → Forest) (h w : ℕ) → Power A t h w → width_of (build go t h w) ≡ w
unfolding width_of build
width_power go zero w p = absurd (omega (arith, p.repeats.twice))
width_power go (suc h) w p = refl

pub width_build : {A : Allowed} (go : Forest → Forest) (t : Forest) (h w : ℕ) → Candidate A t h w → width_of (build go t h w) ≡ w
width_build go t h w plain = width_plain go t
width_build go t h w (power p) = width_power go h w p

-- What has a fold is a run, and a run is a fold of itself.
pub run_of : {A : Allowed} {t f : Forest} → FoldOf A t f → Run A t
run_of {A} {f = f} q =
    let r : Run A (unroll f) = record { plain = plain_unroll f; sound = sound_unroll A f q.sound } in
    rw q.unrolls at r

pub itself : {A : Allowed} {t : Forest} → Run A t → FoldOf A t t
itself {t = t} r = record { sound = r.sound; unrolls = unroll_plain t r.plain }
