-- The two families: a fold and its short form are one tree, so they are read alike, each is the other's form, and there is no
-- second short form.
use mathlib.Core.Path.{◌≡◌, refl, sym, ap, ◌∙◌}
use mathlib.Core.Bool.{Bool, true, false, cond, ◌&&◌}
use mathlib.Core.List.{List, [], ◌∷◌, ◌++◌, append_assoc, append-nil}
use mathlib.Core.Logic.{◌↔◌}
use Prim.Native.Nat.{ℕ, suc, ◌*◌, ◌≤◌}
use native.Mathlib.Nat.{zero-add}
use native.Mathlib.Omega.{arith}
use lib.ListN.{length, length-append}
use borrow.Author.Tests.{le-ltb}
use Rattle.format.specs.Limits.{limits, Tariff, in_one_byte}
use Rattle.format.specs.Order.{Bytes}
use Rattle.format.specs.Forest.{Forest, end, step, group, repeat, opening, form_in, two_bytes}
use Rattle.format.specs.Machine.{Rules, State, refusal, read, accepted}
use Rattle.format.specs.Head.{Head, headed, full_head}
use Rattle.format.specs.Readings.{in_family, rules_at, WellFormed, as_fold_reading, outcome_by, outcome_in, reading_by, fold_reading, short_reading}
use Rattle.format.specs.Tree.{tree_of}
use Rattle.format.specs.Meaning.{MeansAtCost}
use Rattle.format.specs.Shape.{Shaped, tally_of, Reads}
use Rattle.format.specs.Family.{converted_from, converted, short_form, long_form}
use Rattle.format.specs.declared.tally.Tally.{Tally}
use Rattle.format.proofs.Forests.{opening_append, form_bytes}
use Rattle.format.proofs.Bridge.{word_again, opening_length, parses, reads_accepted}
use Rattle.format.proofs.Machine.{refusal_unknown}
use Rattle.format.proofs.Answered.{answered_accepted}
use Rattle.format.proofs.Report.{in_read, in_some, reading_means}
use Rattle.format.proofs.Short.{opened, room}
use Rattle.format.proofs.Tree.{tree_of_form}

-- The open of a repeat, put into a family: whichever command opened it, the family's own.
opening_converted : (short from : Bool) (h w : ℕ) (s : List ℕ)
    → converted short (opening from h w s) ≡ opening short h w (converted short s)
unfolding converted_from
opening_converted short from h w s = by_command (from && in_one_byte h w)
  where
    by_command : (one : Bool) → converted short (cond one (0x22 ∷ h ∷ w ∷ s) (0x20 ∷ two_bytes h (two_bytes w s)))
        ≡ opening short h w (converted short s)
    by_command true = refl
    by_command false = rw (word_again h, word_again w)

-- A byte form, put into a family, is the form in that family, whichever it was in and whatever follows.
pub form_converted : (short from : Bool) (f : Forest) (s : List ℕ)
    → converted short (form_in from f ++ s) ≡ form_in short f ++ converted short s
unfolding form_in converted_from
form_converted short from end s = refl
form_converted short from (step l f) s = rw (form_converted short from f s)
form_converted short from (group l b f) s =
    rw (append_assoc (form_in from b) (0x12 ∷ form_in from f) s, form_converted short from b (0x12 ∷ form_in from f ++ s), form_converted short from f s, append_assoc (form_in short b) (0x12 ∷ form_in short f) (converted short s))
form_converted short from (repeat h w b f) s =
    let r : List ℕ = form_in from b ++ 0x21 ∷ form_in from f in
    let q : List ℕ = form_in short b ++ 0x21 ∷ form_in short f in
    ap (converted short) (opening_append from h w r s)
    ∙ opening_converted short from h w (r ++ s)
    ∙ ap (opening short h w)
    (rw (append_assoc (form_in from b) (0x21 ∷ form_in from f) s, form_converted short from b (0x21 ∷ form_in from f ++ s), form_converted short from f s, append_assoc (form_in short b) (0x21 ∷ form_in short f) (converted short s)) refl)
    ∙ sym (opening_append short h w q (converted short s))

pub converted_form : (short from : Bool) (f : Forest) → converted short (form_in from f) ≡ form_in short f
unfolding converted_from
converted_form short from f =
    ap (converted short) (sym (append-nil (form_in from f))) ∙ form_converted short from f [] ∙ append-nil (form_in short f)

-- Accepted bytes and their form in a family: one tree.
module _ (R : Rules) (s : List ℕ) (small : Bytes s) (t : Tally) (x : List ℕ) (e : read R s ≡ accepted t x) (short : Bool) where
  abbrev spelled : Reads R s t x
  spelled = parses R s small t x e

  converted_is : converted short s ≡ form_in short spelled.tree
  converted_is = ap (converted short) (sym spelled.form) ∙ converted_form short R.short spelled.tree

  pub converted_accepted : read (in_family short R) (converted short s) ≡ accepted t x
  converted_accepted =
      let z = spelled.shape in
      let shape : Shaped (in_family short R) spelled.tree =
      record { coded = z.coded; sound = z.sound; plain = z.plain; groups = z.groups; repeats = z.repeats; total = z.total } in
      reads_accepted
      (record { tree = spelled.tree; form = sym converted_is; shape = shape; counts = spelled.counts; text = spelled.text })

  pub converted_back : converted R.short (converted short s) ≡ s
  converted_back = ap (converted R.short) converted_is ∙ converted_form R.short short spelled.tree ∙ spelled.form

  pub converted_bytes : Bytes (converted short s)
  converted_bytes = rw converted_is (form_bytes short spelled.tree spelled.shape.coded)

  -- It spells the same tree.
  pub converted_tree : tree_of (converted short s) ≡ tree_of s
  converted_tree =
      ap tree_of converted_is ∙ tree_of_form short spelled.tree ∙ sym (tree_of_form R.short spelled.tree) ∙ ap tree_of spelled.form

  -- It has at most four bytes for each node, of which the rules allow so many.
  pub converted_room : length (converted short s) ≤ 4 * t.nodes
  converted_room = room (in_family short R) (converted short s) converted_bytes t x converted_accepted

  pub converted_fits : length (converted short s) ≤ 4 * R.limits.nodes
  unfolding tally_of
  converted_fits = omega (arith, converted_room, ap (λ (u : Tally). u.nodes) spelled.counts, spelled.shape.total)

-- No form is shorter than the short one.
no_longer : (f : Forest) → length (form_in true f) ≤ length (form_in false f)
unfolding form_in
no_longer end = omega arith
no_longer (step l f) = omega (arith, no_longer f)
no_longer (group l b f) =
    omega (arith, no_longer b, no_longer f, length-append (form_in true b) (0x12 ∷ form_in true f), length-append (form_in false b) (0x12 ∷ form_in false f))
no_longer (repeat h w b f) =
    let s = form_in true b ++ 0x21 ∷ form_in true f in
    let l = form_in false b ++ 0x21 ∷ form_in false f in
    omega (
      arith,
      no_longer b,
      no_longer f,
      opening_length true h w s,
      opened (in_one_byte h w),
      length-append (form_in true b) (0x21 ∷ form_in true f),
      length-append (form_in false b) (0x21 ∷ form_in false f),
    )

pub short_form_no_longer : (R : Rules) → R.short ≡ false → (s : List ℕ) → Bytes s → (a : WellFormed R s) → length (short_form s) ≤ length s
short_form_no_longer R long s small a =
    let r = parses R s small a.tally a.text a.reading in
    omega (
      arith,
      no_longer r.tree,
      ap length (own_form R long s r.tree r.form),
      ap length (converted_is R s small a.tally a.text a.reading true),
    )
  where
    own_form : (R : Rules) → R.short ≡ false → (s : List ℕ) (f : Forest) → form_in R.short f ≡ s → form_in false f ≡ s
    own_form R e s f form = rw e at form

-- EVERY WELL-FORMED FOLD HAS EXACTLY ONE SHORT FORM, which the short family reads as the long one reads the fold: with the same
-- counts (nodes, bytes, cost, steps, depth) and the same run. Back and forth is the identity, both ways.
module _ (R : Rules) (s : List ℕ) (small : Bytes s) where
  abbrev long : Rules
  long = in_family false R

  abbrev short : Rules
  short = in_family true R

  pub short_form_read : WellFormed long s → read short (short_form s) ≡ read long s
  short_form_read a = converted_accepted long s small a.tally a.text a.reading true ∙ sym a.reading

  pub long_form_read : WellFormed short s → read long (long_form s) ≡ read short s
  long_form_read a = converted_accepted short s small a.tally a.text a.reading false ∙ sym a.reading

  pub long_of_short : WellFormed long s → long_form (short_form s) ≡ s
  long_of_short a = converted_back long s small a.tally a.text a.reading true

  pub short_of_long : WellFormed short s → short_form (long_form s) ≡ s
  short_of_long a = converted_back short s small a.tally a.text a.reading false

pub exactly_one_short_form : (R : Rules) (s : List ℕ) → Bytes s → WellFormed (in_family false R) s → (g : List ℕ) → Bytes g
    → (g ≡ short_form s) ↔ (WellFormed (in_family true R) g × (long_form g ≡ s))
exactly_one_short_form R s small a g few = (
  λ e. rw e (record { tally = a.tally; text = a.text; reading = short_form_read R s small a ∙ a.reading }, long_of_short R s small a),
  λ z. sym (short_of_long R g few z.0) ∙ ap short_form z.1,
)

-- At an entry point with a head: accepted in one family means accepted in the other, with the same counts and the same run.
pub outcome_converted : (from short : Bool) (h : Head) (T : Tariff) (s : List ℕ) → Bytes s → (t : Tally) (x : List ℕ)
    → outcome_in from h T s ≡ accepted t x → outcome_in short h T (converted short s) ≡ outcome_in from h T s
unfolding outcome_by
outcome_converted from short h T s small t x e =
    let a = in_read limits from h T s t x e in
    ap (headed limits h) (converted_accepted (rules_at from h T) s small t x a short ∙ sym a)

-- THE SHORT READER ANSWERS FOR A FOLD'S SHORT FORM WHAT THE FOLD READER ANSWERS FOR THE FOLD, and the other way round.
module _ (s : List ℕ) (small : Bytes s) (k : ℕ) (T : Tariff) where
  read_alike : (from short : Bool) → (as_fold_reading (outcome_in from (full_head T k) T s)).refusal ≡ 0
      → as_fold_reading (outcome_in short (full_head T k) T (converted short s)) ≡ as_fold_reading (outcome_in from (full_head T k) T s)
  read_alike from short success =
      let a = answered_accepted (outcome_in from (full_head T k) T s) _ refl (in_some limits from (full_head T k) T s) success in
      ap as_fold_reading (outcome_converted from short (full_head T k) T s small a.tally a.text a.reading)

  pub short_form_alike : (fold_reading s k T).refusal ≡ 0 → short_reading (short_form s) k T ≡ fold_reading s k T
  unfolding reading_by
  short_form_alike success = read_alike false true success

  pub long_form_alike : (short_reading s k T).refusal ≡ 0 → fold_reading (long_form s) k T ≡ short_reading s k T
  unfolding reading_by
  long_form_alike success = read_alike true false success

  -- What the short reader accepts means, in the report's words, what its long form means.
  pub short_means : (short_reading s k T).refusal ≡ 0
      → MeansAtCost k T (long_form s) (short_reading s k T).length (short_reading s k T).cost
  unfolding reading_by
  short_means success =
      let a = answered_accepted (outcome_in true (full_head T k) T s) _ refl (in_some limits true (full_head T k) T s) success in
      let r = in_read limits true (full_head T k) T s a.tally a.text a.reading in
      reading_means limits (long_form s) k T (converted_bytes (rules_at true (full_head T k) T) s small a.tally a.text r false) (short_reading s k T)
      (sym (long_form_alike success)) success

-- THE RULES FOR `20` BIND `22`: in the short family a `22` is refused as the long family refuses the `20` of its count and width.
pub binds_short : (R : Rules) (st : State) (h w : ℕ) (rest : List ℕ)
    → refusal (in_family true R) st 0x22 (h ∷ w ∷ rest) ≡ refusal (in_family false R) st 0x20 (0 ∷ h ∷ 0 ∷ w ∷ rest)
unfolding refusal
binds_short R st h w rest =
    rw (le-ltb (suc (suc (length rest))) 2 (omega arith), le-ltb (suc (suc (suc (suc (length rest))))) 4 (omega arith), zero-add h, zero-add w)

-- ELSEWHERE `22` IS AN UNKNOWN COMMAND.
pub unknown_elsewhere : (R : Rules) → R.short ≡ false → (st : State) (rest : List ℕ) → refusal R st 0x22 rest ≡ 1
unknown_elsewhere R long st rest = refusal_unknown R st rest 0x22 (rw long)
