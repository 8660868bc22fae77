-- What an entry point answers and writes that writes one text, by the outcome that has it, for every output.
use Rattle.std.specs.Prelude.{cond, List, ◌++◌, ℕ, ltb, length, drop}
use Rattle.format.specs.Machine.{Outcome, refused, accepted}
use Rattle.format.specs.Numbers.{Written}

-- The answer where the output has room for `room` bytes: 14 where the text is longer.
abbrev pub written_answer : Outcome → (room : ℕ) → Written
written_answer (refused n p) room = record { refusal = n; place = p; length = 0 }
written_answer (accepted t x) room =
    cond (ltb room (length x)) (record { refusal = 14; place = 0; length = 0 }) (record { refusal = 0; place = 0; length = length x })

-- The output afterwards: the text in front and the rest as it was, or all as it was.
abbrev pub written_output : Outcome → List ℕ → List ℕ
written_output (refused n p) out = out
written_output (accepted t x) out = cond (ltb (length out) (length x)) out (x ++ drop (length x) out)
