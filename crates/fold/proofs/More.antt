-- More input cannot alter what the fold program prints: the first 4,096 bytes decide it.
use mathlib.Core.Path.{◌≡◌, sym, ◌∙◌}
use mathlib.Core.List.{List}
use Prim.Native.Nat.{ℕ}
use native.Mathlib.Decide.{dec_le}
use native.Mathlib.Omega.{arith}
use lib.ListN.{length, take, drop, length-take, take-append-drop}
use lib.Seq.{take_all}
use Rattle.format.specs.Machine.{refused, read}
use Rattle.format.specs.Head.{marks_in_order}
use Rattle.format.specs.Readings.{run_rules}
use Rattle.format.proofs.More.{refused_stays, long_settled}
use Rattle.fold.specs.Text.{refusal_line}
use Rattle.fold.specs.Printed.{printed}

-- A run that is refused is printed by its refusal alone.
printed_refused : (s : List ℕ) (n p : ℕ) → read run_rules s ≡ refused n p → printed s ≡ refusal_line n p
unfolding printed marks_in_order
printed_refused s n p out = rw out

pub more_input : (s : List ℕ) → printed (take 4096 s) ≡ printed s
more_input s =
    elim (dec_le (length s) 4096) [
      | yes h ↦ rw (take_all 4096 s h)
      | no h ↦
          let x : List ℕ = take 4096 s in
          let r = long_settled x (simp length-take (omega arith)) in
          let whole : read run_rules s ≡ refused r.number r.place =
          rw (take-append-drop 4096 s) at (refused_stays run_rules x r.number r.place r.reading r.not_three (drop 4096 s)) in
          printed_refused x r.number r.place r.reading ∙ sym (printed_refused s r.number r.place whole)
    ]
