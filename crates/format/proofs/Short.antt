-- How long a fold can be: at most four bytes for each node that it unrolls to.
use mathlib.Core.Path.{◌≡◌, ap}
use mathlib.Core.Bool.{Bool, true, false, cond, ◌&&◌}
use mathlib.Core.List.{List, ◌∷◌, ◌++◌}
use Prim.Native.Nat.{ℕ, ◌*◌, ◌≤◌, ◌<◌}
use native.Mathlib.Nat.{mul-le-mul}
use native.Mathlib.Decide.{dec_le}
use native.Mathlib.Omega.{arith}
use lib.ListN.{length, length-append}
use Rattle.format.specs.Limits.{in_one_byte}
use Rattle.format.specs.Order.{Bytes}
use Rattle.format.specs.Forest.{Forest, end, step, group, repeat, Allowed, Sound, nodes, form_in, bytes}
use Rattle.format.specs.Machine.{Rules, accepted, read}
use Rattle.format.specs.Shape.{tally_of}
use Rattle.format.specs.declared.tally.Tally.{Tally}
use Rattle.format.proofs.Bridge.{opening_length, parses}
use Rattle.format.proofs.Depth.{siblings_nodes}

-- A fold of a single node has two bytes: a repeat takes six at most, and stands for two nodes at least. So it is in either family.
record Small (short : Bool) (f : Forest) : Type 0 where
  few : length (form_in short f) ≤ 4 * nodes f
  one : nodes f ≤ 1 → length (form_in short f) ≤ 2

pub opened : (one : Bool) → cond one 3 5 ≤ 5
opened true = omega arith
opened false = omega arith

small : (short : Bool) (A : Allowed) (f : Forest) → Sound A f → Small short f
unfolding form_in nodes
small short A end s = record { few = omega arith; one = λ h. omega arith }
small short A (step l f) s =
    let i = small short A f s in
    record { few = omega arith; one = λ h. omega (arith, i.few) }
small short A (group l b f) s =
    let i = small short A b s.1 in
    let j = small short A f s.2 in
    let n = length-append (form_in short b) (0x12 ∷ form_in short f) in
    record { few = omega arith; one = λ h. omega (arith, siblings_nodes b, s.0) }
small short A (repeat h w b f) s =
    let i = small short A b s.1 in
    let j = small short A f s.2 in
    let n = length-append (form_in short b) (0x21 ∷ form_in short f) in
    let o = opening_length short h w (form_in short b ++ 0x21 ∷ form_in short f) in
    let five = opened (short && in_one_byte h w) in
    let some : 0 < nodes b = omega (arith, siblings_nodes b, s.0.some) in
    let more : 2 * nodes b ≤ h * nodes b = mul-le-mul s.0.twice (omega arith) in
    record {
      few = elim (dec_le (nodes b) 1) [ yes k ↦ omega (arith, i.one k) | no k ↦ omega arith ];
      one = λ k. omega arith;
    }

pub form_short : (short : Bool) (A : Allowed) (f : Forest) → Sound A f → length (form_in short f) ≤ 4 * nodes f
form_short short A f s = (small short A f s).few

pub sound_short : (A : Allowed) (f : Forest) → Sound A f → length (bytes f) ≤ 4 * nodes f
sound_short A f s = form_short false A f s

-- So any bytes that a reader accepts are at most four for each node that it counts.
pub room : (R : Rules) (g : List ℕ) → Bytes g → (t : Tally) (x : List ℕ) → read R g ≡ accepted t x → length g ≤ 4 * t.nodes
unfolding tally_of
room R g b t x e =
    let r = parses R g b t x e in
    omega (arith, form_short R.short _ r.tree r.shape.sound, ap (λ (s : List ℕ). length s) r.form, ap (λ (u : Tally). u.nodes) r.counts)
