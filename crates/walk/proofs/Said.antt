-- The count and the width of a repeat, by where their bytes stand.
use mathlib.Core.Path.{◌≡◌}
use mathlib.Core.List.{List}
use Prim.Native.Nat.{ℕ, ◌+◌}
use native.Mathlib.Omega.{arith}
use lib.ListN.{get_or}
use lib.Seq.{get_or-drop}
use borrow.Author.Tests.{ne_eqb}
use Rattle.walk.specs.Walk.{word_at, count_at, width_at}

module _ (s : List ℕ) (p : ℕ) where
  first : p + 1 + 0 ≡ p + 1
  first = omega arith

  -- Behind a `22`, one byte each.
  module _ (one : get_or s p 0 ≡ 0x22) where
    pub one_count : get_or s (p + 1) 0 ≡ count_at s p
    one_count = rw (one, get_or-drop (p + 1) s 0 0, first)

    pub one_width : get_or s (p + 2) 0 ≡ width_at s p
    one_width = let e : p + 1 + 1 ≡ p + 2 = omega arith in rw (one, get_or-drop (p + 1) s 1 0, e)

  -- Behind another command, two.
  module _ (two : get_or s p 0 ≡ 0x22 → ⊥) where
    pub two_count : word_at s (p + 1) ≡ count_at s p
    two_count = rw (ne_eqb _ _ two, get_or-drop (p + 1) s 0 0, get_or-drop (p + 1) s 1 0, first)

    pub two_width : word_at s (p + 3) ≡ width_at s p
    two_width =
        let e : p + 1 + 2 ≡ p + 3 = omega arith in
        let f : p + 1 + 3 ≡ p + 3 + 1 = omega arith in
        rw (ne_eqb _ _ two, get_or-drop (p + 1) s 2 0, get_or-drop (p + 1) s 3 0, e, f)
