-- Bytes put into a family, cut at an offset: the command there, and what follows it.
use mathlib.Core.Path.{◌≡◌, refl, sym, ap, ◌∙◌}
use mathlib.Core.Bool.{Bool, true, false, cond}
use mathlib.Core.List.{List, [], ◌∷◌, ◌++◌}
use Prim.Native.Nat.{ℕ, zero, suc, ◌+◌, ◌<◌, ◌≤◌}
use native.Mathlib.Numerals.{add-one}
use native.Mathlib.Omega.{arith}
use lib.ListN.{length, get_or, set, drop, length-append, drop_of_length-le}
use lib.Seq.{sets, drop-drop}
use Rattle.format.specs.Forest.{opening}
use Rattle.format.specs.Machine.{is_node, opens_repeat, operands, label_operand, count_operand, width_operand}
use Rattle.format.specs.Family.{command_in, converted_from, converted}
use Rattle.format.proofs.Forests.{opening_append}
use Rattle.format.proofs.Machine.{Opens, by_two, by_one, opens}
use Rattle.walk.specs.Walk.{count_at, width_at}
use Rattle.walk.proofs.Walking.{cut_one}
use Rattle.put.proofs.Along.{Along, along_more, along_end}
use Rattle.convert.specs.inner.Passing.{command_at}

module _ (short : Bool) where
  -- Operand bytes are passed over, and past the end there is nothing.
  skipped : (k : ℕ) (s : List ℕ) → converted_from short k s ≡ converted short (drop k s)
  unfolding converted_from
  skipped zero s = refl
  skipped (suc k) [] = refl
  skipped (suc k) (c ∷ s) = skipped k s

  -- What follows a command follows it in its form.
  command_then : (c : ℕ) (rest next : List ℕ) → command_in short c rest next ≡ command_in short c rest [] ++ next
  command_then c rest next = by_kind (is_node c) (opens_repeat c)
    where
      h : ℕ
      h = count_operand c rest

      w : ℕ
      w = width_operand c rest

      by_kind : (node repeat : Bool) → cond node (c ∷ label_operand rest ∷ next) (cond repeat (opening short h w next) (c ∷ next))
          ≡ cond node (c ∷ label_operand rest ∷ []) (cond repeat (opening short h w []) (c ∷ [])) ++ next
      by_kind true repeat = refl
      by_kind false true = sym (opening_append short h w [] next)
      by_kind false false = refl

  module _ (s : List ℕ) (p : ℕ) where
    pub nothing_left : length s ≤ p → converted short (drop p s) ≡ []
    unfolding converted_from
    nothing_left past = rw (drop_of_length-le s {i = p} past)

    module _ (below : p < length s) where
      abbrev next : ℕ
      next = p + 1 + operands (get_or s p 0)

      pub first_command : converted short (drop p s) ≡ command_at short s p ++ converted short (drop next s)
      unfolding converted_from
      first_command =
          rw (cut_one s p below)
          (command_then (get_or s p 0) (drop (p + 1) s) (converted_from short (operands (get_or s p 0)) (drop (p + 1) s))
          ∙ ap (λ (x : List ℕ). command_at short s p ++ x) (skipped (operands (get_or s p 0)) (drop (p + 1) s) ∙ rw (drop-drop (operands (get_or s p 0)) (p + 1) s)))

      -- The command has room, and behind it the rest is still to come.
      module _ {whole before now : List ℕ} {to : ℕ} (z : Along whole (converted short (drop p s)) 0 before to now) where
        pub command_fits : (m : ℕ) → length whole ≤ m → to + length (command_at short s p) ≤ m
        command_fits m few =
            omega (arith, along_end z, ap length first_command, length-append (command_at short s p) (converted short (drop next s)))

        pub behind_command : (to' : ℕ) (now' : List ℕ) (q : ℕ) → to' ≡ to + length (command_at short s p) → now' ≡ sets now to (command_at short s p) → q ≡ next
            → Along whole (converted short (drop q s)) 0 before to' now'
        behind_command to' now' q e f g =
            rw g (along_more z (command_at short s p) (converted short (drop next s)) to' now' first_command e f)

      -- What the command is.
      pub command_opens : opens_repeat (get_or s p 0) ≡ true → command_at short s p ≡ opening short (count_at s p) (width_at s p) []
      command_opens e = by_open (opens (get_or s p 0) e) refl
        where
          by_open : {c : ℕ} → Opens c → get_or s p 0 ≡ c → command_at short s p ≡ opening short (count_at s p) (width_at s p) []
          by_open by_two f = rw f
          by_open by_one f = rw f

      pub command_node : is_node (get_or s p 0) ≡ true → command_at short s p ≡ get_or s p 0 ∷ get_or (drop (p + 1) s) 0 0 ∷ []
      command_node e = rw e

      pub command_alone : is_node (get_or s p 0) ≡ false → opens_repeat (get_or s p 0) ≡ false → command_at short s p ≡ get_or s p 0 ∷ []
      command_alone e f = rw (e, f)

-- Two bytes stored one behind the other.
pub two_stored : (out now₁ now₂ : List ℕ) (to x y z : ℕ) → now₁ ≡ set out to x → now₂ ≡ set now₁ (to + 1) z → z ≡ y
    → now₂ ≡ sets out to (x ∷ y ∷ [])
two_stored out now₁ now₂ to x y z first second same = second ∙ rw (first, same, add-one)
