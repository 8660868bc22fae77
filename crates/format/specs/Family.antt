-- The two families of commands, the short one and the long one: bytes put into a family, command by command. A fold in the short
-- family is its short form.
use Rattle.std.specs.Prelude.{Bool, true, false, cond, List, [], ◌∷◌, ℕ, zero, suc}
use Rattle.format.specs.Forest.{opening}
use Rattle.format.specs.Machine.{is_node, opens_repeat, operands, label_operand, count_operand, width_operand, Outcome, refused, accepted}
use Rattle.format.specs.Readings.{alone_in}

-- A command in a family with its operands, and what follows it: a repeat is opened by the family's command for its count and width,
-- every other command stands as it is.
abbrev pub command_in : (short : Bool) → (command : ℕ) → (rest next : List ℕ) → List ℕ
command_in short c rest next =
    cond (is_node c) (c ∷ label_operand rest ∷ next)
    (cond (opens_repeat c) (opening short (count_operand c rest) (width_operand c rest) next) (c ∷ next))

-- Bytes in a family, with `skip` operand bytes to pass over first.
unfoldable pub converted_from : (short : Bool) → (skip : ℕ) → List ℕ → List ℕ
converted_from short k [] = []
converted_from short zero (c ∷ s) = command_in short c s (converted_from short (operands c) s)
converted_from short (suc k) (c ∷ s) = converted_from short k s

abbrev pub converted : (short : Bool) → List ℕ → List ℕ
converted short s = converted_from short 0 s

-- The short form of a fold, and the long form of a short fold.
abbrev pub short_form : List ℕ → List ℕ
short_form s = converted true s

abbrev pub long_form : List ℕ → List ℕ
long_form s = converted false s

-- An outcome with another text in place of the unrolled bytes.
abbrev pub with_text : Outcome → List ℕ → Outcome
with_text (refused n p) x = refused n p
with_text (accepted t y) x = accepted t x

-- The conversion of a fold of a family to another: the input's own refusals, or what is written.
abbrev pub conversion : (from short : Bool) → List ℕ → Outcome
conversion from short s = with_text (alone_in from s) (converted short s)

-- Of a fold to its short form, and of a short fold to its long form.
abbrev pub to_short : List ℕ → Outcome
to_short s = conversion false true s

abbrev pub to_long : List ℕ → Outcome
to_long s = conversion true false s
