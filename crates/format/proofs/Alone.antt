-- A fold read without a width limit: refusal 7 is skipped and nothing else is, and what is accepted is what is well formed.
use mathlib.Core.Path.{◌≡◌, refl, sym, ◌∙◌}
use mathlib.Core.Bool.{Bool, true, false, true≢false, cond, or-false, ◌&&◌}
use mathlib.Core.List.{List, [], ◌∷◌, ◌++◌}
use mathlib.Core.Logic.{◌≢◌, ◌⊎◌, inl, inr, ◌↔◌}
use Prim.Native.Nat.{ℕ, zero, suc, ◌+◌, ◌*◌, ◌≤◌}
use native.Mathlib.Nat.{mul-le-mul}
use native.Mathlib.Omega.{arith}
use lib.Dec.{ltb, eqb}
use lib.ListN.{get_or, take, drop}
use lib.Seq.{get_or-drop}
use borrow.Author.Tests.{le-ltb, ltb-false}
use Rattle.format.specs.Limits.{limits}
use Rattle.format.specs.Order.{Bytes}
use Rattle.format.specs.Forest.{Forest, end, step, group, repeat, nodes, widest_of, Allowed, at_most, Sound}
use Rattle.format.specs.Machine.{Rules, State, Check, ◌when◌, first_of, checks, refusal, opens_repeat, width_operand, unless, advance, operands, scan, read, start, Outcome, refused, accepted}
use Rattle.format.specs.Readings.{no_costs, free, fold_rules, in_family, format_rules, greatest_operand, alone_rules, alone_in}
use Rattle.format.specs.Reasons.{holds_check, Because, at_command, left_open}
use Rattle.format.specs.declared.tally.Tally.{Tally}
use Rattle.format.specs.Shape.{Reads}
use Rattle.format.proofs.Bridge.{parses, reads_accepted, limit_law}
use Rattle.format.proofs.Depth.{siblings_nodes}
use Rattle.format.proofs.Refusals.{said_holds, refused_exactly, refused_some}

-- No repeat is wider than the nodes that it unrolls to.
widest_nodes : (A : Allowed) (f : Forest) → Sound A f → widest_of f ≤ nodes f
unfolding widest_of nodes
widest_nodes A end z = omega arith
widest_nodes A (step l f) z = omega (arith, widest_nodes A f z)
widest_nodes A (group l b f) z = omega (arith, widest_nodes A b z.1, widest_nodes A f z.2)
widest_nodes A (repeat h w b f) z =
    let r = z.0 in
    let all : 1 * nodes b ≤ h * nodes b = mul-le-mul (omega (arith, r.twice)) (omega arith) in
    omega (arith, widest_nodes A b z.1, widest_nodes A f z.2, siblings_nodes b, r.true_width)

-- What is accepted without a limit is accepted at the largest one, with the same counts, and conversely.
pub alone_well_formed : (short : Bool) (s : List ℕ) → Bytes s → (t : Tally) (x : List ℕ)
    → (alone_in short s ≡ accepted t x) ↔ (read (in_family short (format_rules no_costs)) s ≡ accepted t x)
unfolding alone_in
alone_well_formed short s small t x = (λ e. law.1 (narrow e), λ e. reads_accepted (law.0 e).0)
  where
    R : Rules
    R = alone_rules short

    law : (read (in_family short (format_rules no_costs)) s ≡ accepted t x) ↔ ((a : Reads R s t x) × (widest_of a.tree ≤ limits.width))
    law = limit_law R limits.width (omega arith) s small t x

    narrow : read R s ≡ accepted t x → (a : Reads R s t x) × (widest_of a.tree ≤ limits.width)
    narrow e =
        let a = parses R s small t x e in
        (a, omega (arith, widest_nodes _ a.tree a.shape.sound, a.shape.total))

-- Of two tables that differ in the check of 7, where it applies in the first if in the second: the same is said, or 7.
seven_or_same : (above : List Check) (a b : Bool) (below : List Check) → (a ≡ false → b ≡ false)
    → (first_of (above ++ 7 when a ∷ below) ≡ first_of (above ++ 7 when b ∷ below)) ⊎ (first_of (above ++ 7 when a ∷ below) ≡ 7)
seven_or_same [] true b below h = inr refl
seven_or_same [] false b below h = inl (rw (h refl))
seven_or_same (n when true ∷ above) a b below h = inl refl
seven_or_same (n when false ∷ above) a b below h = seven_or_same above a b below h

abbrev SameOrSeven : Outcome → Outcome → Type 0
SameOrSeven x y = (x ≡ y) ⊎ ((e : ℕ) × (x ≡ refused 7 e))

go_on : (n p e : ℕ) (x y : Outcome) → SameOrSeven x y → SameOrSeven (unless n p e x) (unless n p e y)
go_on zero p e x y h = h
go_on (suc n) p e x y h = inl refl

-- A width within a limit is within a wider one.
still_within : (k m : ℕ) → k ≤ m → (b : Bool) (w : ℕ) → (b && ltb k w) ≡ false → (b && ltb m w) ≡ false
still_within k m wider false w e = refl
still_within k m wider true w e = le-ltb m w (omega (arith, ltb-false k w e))

-- Of two limits the narrower one gives the same answer, or 7: at one command, and in a whole reading.
module _ (short : Bool) (k m : ℕ) (wider : k ≤ m) where
  abbrev at : ℕ → Rules
  at w = in_family short (fold_rules (at_most w) free)

  same_or_seven : (st : State) (c : ℕ) (rest : List ℕ)
      → (refusal (at k) st c rest ≡ refusal (at m) st c rest) ⊎ (refusal (at k) st c rest ≡ 7)
  unfolding refusal checks
  same_or_seven st c rest =
      seven_or_same (take 7 (checks (at k) st c rest)) _ _ (drop 8 (checks (at k) st c rest)) (still_within k m wider (opens_repeat c) (width_operand c rest))

  scan_or_seven : (p j : ℕ) (st : State) (s : List ℕ) → SameOrSeven (scan (at k) p j st s) (scan (at m) p j st s)
  unfolding scan
  scan_or_seven p j st [] = inl refl
  scan_or_seven p (suc j) st (c ∷ s) = scan_or_seven (suc p) j st s
  scan_or_seven p zero st (c ∷ s) = go (same_or_seven st c s) (scan_or_seven (suc p) (operands c) (advance free c s st) s)
    where
      go : (refusal (at k) st c s ≡ refusal (at m) st c s) ⊎ (refusal (at k) st c s ≡ 7)
          → SameOrSeven (scan (at k) (suc p) (operands c) (advance free c s st) s) (scan (at m) (suc p) (operands c) (advance free c s st) s)
          → SameOrSeven (scan (at k) p 0 st (c ∷ s)) (scan (at m) p 0 st (c ∷ s))
      go (inl e) h = rw e (go_on (refusal (at m) st c s) p _ _ _ h)
      go (inr e) h = inr (p, rw e)

-- At any width limit a fold reads as it does without one, or 7 is the refusal.
pub alone_or_seven : (short : Bool) (k : ℕ) → k ≤ greatest_operand → (s : List ℕ)
    → let R = in_family short (fold_rules (at_most k) free) in (read R s ≡ alone_in short s) ⊎ ((e : ℕ) × (read R s ≡ refused 7 e))
unfolding read alone_in
alone_or_seven short k few s = scan_or_seven short k greatest_operand few 0 0 start s

-- Without a limit 7 is never the refusal.
pub alone_never_seven : (short : Bool) (s : List ℕ) → Bytes s → (n e : ℕ) → alone_in short s ≡ refused n e → n ≢ 7
unfolding alone_in refusal checks holds_check
alone_never_seven short s small n e r seven = because ((refused_exactly (alone_rules short) s n e).0 r)
  where
    narrow : (one : Bool) (p : ℕ) → let rest = drop (suc p) s in cond one (get_or rest 1 0) (get_or rest 2 0 * 256 + get_or rest 3 0) ≤ greatest_operand
    narrow true p = rw (get_or-drop (suc p) s 1 0) (omega (arith, small (suc p + 1)))
    narrow false p = rw (get_or-drop (suc p) s 2 0, get_or-drop (suc p) s 3 0) (omega (arith, small (suc p + 2), small (suc p + 3)))

    within : (b : Bool) (c p : ℕ) → (b && ltb greatest_operand (width_operand c (drop (suc p) s))) ≡ false
    within false c p = refl
    within true c p = le-ltb greatest_operand _ (narrow (eqb c 0x22) p)

    because : Because (alone_rules short) s n e → ⊥
    because (left_open st r some m w) = omega arith
    because (at_command p st r lt f some w) =
        let c : ℕ = get_or s p 0 in
        let over = said_holds 7 (omega arith) (checks (alone_rules short) st c (drop (suc p) s)) (f ∙ seven) in
        true≢false (sym (rw or-false at over) ∙ within (opens_repeat c) c p)

-- What is refused has a number.
pub alone_some : (short : Bool) (s : List ℕ) (n e : ℕ) → alone_in short s ≡ refused n e → n ≢ 0
unfolding alone_in
alone_some short s n e r = refused_some (alone_rules short) s n e r
