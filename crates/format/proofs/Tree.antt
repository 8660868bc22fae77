-- The tree of a byte form is the tree that it was made from.
use mathlib.Core.Path.{◌≡◌, refl, sym, ap, ◌∙◌}
use mathlib.Core.Bool.{Bool, true, false, cond, ◌&&◌}
use mathlib.Core.List.{List, [], ◌∷◌, ◌++◌, append_assoc, append-nil}
use Prim.Native.Nat.{ℕ}
use native.Mathlib.Nat.{div-add-mod'}
use Rattle.format.specs.Limits.{in_one_byte}
use Rattle.format.specs.Forest.{Forest, end, step, group, repeat, join, two_bytes, opening, form_in, bytes}
use Rattle.format.specs.Tree.{Partial, a_group, a_repeat, take_in, tree_from, tree_of}
use Rattle.format.proofs.Forests.{join_end, join_assoc, opening_append}

with_items : Partial → Forest → Partial
with_items p f = record { pending = p.pending; sofar = join p.sofar f }

by_words : (h w : ℕ) (s : List ℕ) (p : Partial)
    → take_in 0x20 (two_bytes h (two_bytes w s)) p ≡ record { pending = a_repeat h w p.sofar ∷ p.pending; sofar = end }
unfolding take_in
by_words h w s p = rw (div-add-mod' h 256, div-add-mod' w 256)

opened : (short : Bool) (h w : ℕ) (s : List ℕ) (p : Partial)
    → tree_from (opening short h w s) 0 p ≡ tree_from s 0 (record { pending = a_repeat h w p.sofar ∷ p.pending; sofar = end })
unfolding tree_from take_in
opened short h w s p = by_command (short && in_one_byte h w)
  where
    by_command : (one : Bool) → tree_from (cond one (0x22 ∷ h ∷ w ∷ s) (0x20 ∷ two_bytes h (two_bytes w s))) 0 p
        ≡ tree_from s 0 (record { pending = a_repeat h w p.sofar ∷ p.pending; sofar = end })
    by_command true = refl
    by_command false = ap (λ (q : Partial). tree_from s 0 q) (by_words h w s p)

-- Reading a sequence puts its items behind what was read before it.
tree_form : (short : Bool) (f : Forest) (s : List ℕ) (p : Partial)
    → tree_from (form_in short f ++ s) 0 p ≡ tree_from s 0 (with_items p f)
unfolding tree_from form_in with_items join
tree_form short end s p = rw join_end
tree_form short (step l f) s p =
    tree_form short f s (take_in 0x10 (l ∷ (form_in short f ++ s)) p) ∙ rw (join_assoc p.sofar (step l end) f)
tree_form short (group l b f) s p =
    rw (append_assoc (form_in short b) (0x12 ∷ form_in short f) s)
    (tree_form short b (0x12 ∷ form_in short f ++ s) (record { pending = a_group l p.sofar ∷ p.pending; sofar = end })
    ∙ (tree_form short f s (record { pending = p.pending; sofar = join p.sofar (group l b end) })
    ∙ rw (join_assoc p.sofar (group l b end) f)))
tree_form short (repeat h w b f) s p =
    rw (opening_append short h w (form_in short b ++ 0x21 ∷ form_in short f) s, append_assoc (form_in short b) (0x21 ∷ form_in short f) s)
    (opened short h w (form_in short b ++ (0x21 ∷ form_in short f ++ s)) p
    ∙ (tree_form short b (0x21 ∷ form_in short f ++ s) (record { pending = a_repeat h w p.sofar ∷ p.pending; sofar = end })
    ∙ (tree_form short f s (record { pending = p.pending; sofar = join p.sofar (repeat h w b end) })
    ∙ rw (join_assoc p.sofar (repeat h w b end) f))))

pub tree_of_form : (short : Bool) (f : Forest) → tree_of (form_in short f) ≡ f
unfolding tree_of with_items join
tree_of_form short f = rw append-nil at (tree_form short f [] (record { pending = []; sofar = end }))

pub tree_of_bytes : (f : Forest) → tree_of (bytes f) ≡ f
tree_of_bytes f = tree_of_form false f

-- One fold, one tree.
pub form_injective : (short : Bool) (f g : Forest) → form_in short f ≡ form_in short g → f ≡ g
form_injective short f g e = sym (tree_of_form short f) ∙ ap tree_of e ∙ tree_of_form short g

pub bytes_injective : (f g : Forest) → bytes f ≡ bytes g → f ≡ g
bytes_injective f g e = form_injective false f g e
