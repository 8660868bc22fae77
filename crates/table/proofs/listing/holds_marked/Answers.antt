-- `table::listing::holds_marked` meets its contract. The loop's invariant: what is left of the part decides, with what is known of
-- its first byte.
use mathlib.Core.Path.{◌≡◌, refl, sym, ap, ◌∙◌}
use mathlib.Core.Bool.{Bool, true, false, true≢false, not, ◌||◌, ◌&&◌}
use mathlib.Core.List.{List}
use Prim.Native.Nat.{ℕ, ◌+◌, ◌<◌}
use native.Mathlib.Omega.{arith}
use lib.Dec.{eqb}
use lib.ListN.{length, get_or, drop}
use lib.Seq.{drop-length}
use Rattle.std.proofs.lemmas.List.{drop_more}
use Rattle.format.specs.Limits.{marked_in}
use Rattle.table.specs.Listing.{marked_from}
use Rattle.table.proofs.listing.holds_marked.Goals as goal
use Rattle.table.proofs.listing.holds_marked.Goals.{else-label-via-then-label+else-is_marked, else-label-via-else-label, then-not-label, else-not-label}

-- What is left from p on, and its first byte.
module _ (m : ℕ → Bool) (s : List ℕ) (p : ℕ) (h : p < length s) where
  at_label : marked_from m true (drop p s) ≡ (m (get_or s p 0) || marked_from m false (drop (p + 1) s))
  unfolding marked_from
  at_label = ap (marked_from m true) (drop_more s p 0 h)

  past_byte : (label next : Bool) → (label ≡ true → m (get_or s p 0) ≡ false) → next ≡ (not label && not (eqb (get_or s p 0) 0x12))
      → marked_from m label (drop p s) ≡ marked_from m next (drop (p + 1) s)
  unfolding marked_from
  past_byte true next u e = at_label ∙ rw (u refl, e)
  past_byte false next u e = ap (marked_from m false) (drop_more s p 0 h) ∙ rw e

pub returns-then-is_marked : goal.returns-then-is_marked
returns-then-is_marked c =
    let L = c.loop-c in
    let m = marked_in c.args.marks.now in
    let label : L.label ≡ true = c.if-label.true in
    let marked : m (get_or c.args.part.now L.c-index 0) ≡ true = sym c.is_marked.ensures ∙ c.if-is_marked.true in
    sym (L.invariant ∙ rw (label, at_label m c.args.part.now L.c-index c.loop-c-test.true, marked))

pub loop-c-preserved : goal.loop-c-preserved
loop-c-preserved c =
    c.loop-c.invariant
    ∙ past_byte (marked_in c.args.marks.now) _ c.loop-c.c-index c.loop-c-test.true _ _
    (λ e. elim c.else-label.branch [
      | else-label-via-then-label+else-is_marked w ↦ sym w.is_marked.ensures ∙ w.if-is_marked.false
      | else-label-via-else-label w ↦ absurd (true≢false (sym e ∙ w.if-label.false))
    ])
    (elim c.if-not-label.branch [
      | then-not-label w ↦ w.label-is ∙ rw w.if-not-label.true
      | else-not-label w ↦ w.label-is ∙ rw w.if-not-label.false
    ])

pub returns : goal.returns
unfolding marked_from
returns c =
    let L = c.loop-c in
    let last : L.c-index ≡ length c.args.part.now = omega arith in
    sym (L.invariant ∙ rw (last, drop-length))
