-- Two well-formed folds of one run, as bytes: neither begins the other, and their first difference decides their order.
use mathlib.Core.Path.{◌≡◌, refl, sym, ap, ◌∙◌}
use mathlib.Core.Bool.{false}
use mathlib.Core.Logic.{◌⊎◌, inl, inr, ⊎_map, ◌↔◌}
use mathlib.Core.List.{List, [], ◌++◌}
use Prim.Native.Nat.{ℕ}
use Rattle.format.specs.Order.{Bytes, Before}
use Rattle.format.specs.Forest.{unroll, bytes, Allowed}
use Rattle.format.specs.Machine.{Rules, accepted}
use Rattle.format.specs.Readings.{WellFormed}
use Rattle.format.specs.Difference.{DiffersFirst}
use Rattle.format.specs.Shape.{Reads}
use Rattle.format.specs.declared.tally.Tally.{Tally}
use Rattle.format.proofs.Bridge.{parses}
use Rattle.format.proofs.Tree.{bytes_injective}
use Rattle.format.proofs.Order.{irreflexive, asymmetric, differs_before, compare_first, no_beginning}

-- A well-formed fold of the run x reads as a tree.
spelled : (R : Rules) (f x : List ℕ) → Bytes f → (a : WellFormed R f) → a.text ≡ x → Reads R f a.tally x
spelled R f x small a e = parses R f small a.tally x (a.reading ∙ ap (accepted a.tally) e)

-- In the long family: in the short one a `20` with a large operand has the lower byte.
module _ {R : Rules} {f x : List ℕ} {t : Tally} (long : R.short ≡ false) (a : Reads R f t x) where
  long_bytes : bytes a.tree ≡ f
  long_bytes = rw long at a.form

-- The two trees of one run.
module _ {R : Rules} {f g x : List ℕ} {t u : Tally} (long : R.short ≡ false) (a : Reads R f t x) (b : Reads R g u x) where
  abbrev A : Allowed
  A = R.allowed

  one_run : unroll a.tree ≡ unroll b.tree
  one_run = bytes_injective (unroll a.tree) (unroll b.tree) (a.text ∙ sym b.text)

  same_bytes : a.tree ≡ b.tree → f ≡ g
  same_bytes e = cc (long_bytes long a, long_bytes long b)

  begins : (z : List ℕ) → g ≡ f ++ z → (f ≡ g) × (z ≡ [])
  begins z e =
      let n = no_beginning A a.tree b.tree z a.shape.sound b.shape.sound one_run (cc (long_bytes long a, long_bytes long b)) in
      (same_bytes n.0, n.1)

  differ : (f ≡ g) ⊎ (DiffersFirst f g ⊎ DiffersFirst g f)
  differ =
      let c = compare_first A a.tree b.tree a.shape.sound b.shape.sound one_run in
      ⊎_map same_bytes (λ d. d) (rw (long_bytes long a, long_bytes long b) at c)

-- Where two lists are the same or differ so, byte order says which way.
decided : {f g : List ℕ} → (f ≡ g) ⊎ (DiffersFirst f g ⊎ DiffersFirst g f) → Before f g → DiffersFirst f g
decided {g} (inl e) h = absurd (irreflexive g (rw e at h))
decided (inr (inl d)) h = d
decided (inr (inr d)) h = absurd (asymmetric h (differs_before d))

-- NO WELL-FORMED FOLD OF A RUN IS THE BEGINNING OF ANOTHER ONE OF IT.
pub no_fold_begins_another : (R : Rules) → R.short ≡ false → (f g z : List ℕ) → Bytes f → Bytes g → (a : WellFormed R f) (b : WellFormed R g)
    → a.text ≡ b.text → g ≡ f ++ z → (f ≡ g) × (z ≡ [])
no_fold_begins_another R long f g z small small' a b e = begins long (spelled R f b.text small a e) (spelled R g b.text small' b refl) z

-- THE FIRST DIFFERENCE DECIDES: two well-formed folds of a run are the same or differ first at a command, and byte order is: a
-- plain node before a repeat there, then the smaller count, then the smaller width.
pub first_difference_decides : (R : Rules) → R.short ≡ false → (f g : List ℕ) → Bytes f → Bytes g → (a : WellFormed R f) (b : WellFormed R g)
    → a.text ≡ b.text → ((f ≡ g) ⊎ (DiffersFirst f g ⊎ DiffersFirst g f)) × (Before f g ↔ DiffersFirst f g)
first_difference_decides R long f g small small' a b e =
    let d = differ long (spelled R f b.text small a e) (spelled R g b.text small' b refl) in
    (d, (decided d, differs_before))
