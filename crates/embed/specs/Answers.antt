-- The answers of the library as seven numbers in a lent slice: refusal, place and five values, which are those of the answers
-- inside; where the lent slice is shorter, nothing is written anywhere and the status says so.
use Rattle.std.specs.Prelude.{cond, List, [], ◌∷◌, ◌++◌, ℕ, ltb, length, drop, get_or}
use Rattle.format.specs.Numbers.{RunReading}
use Rattle.format.specs.Numbers.{FoldReading}
use Rattle.format.specs.Numbers.{Written}
use Rattle.format.specs.Numbers.{Folded}
use Rattle.index.specs.Numbers.{Indexed}
use Rattle.index.specs.Numbers.{Found}
pub use Rattle.embed.specs.declared.answer.Answer.{Answer}

-- The entries of an answer.
abbrev pub entry_count : ℕ
entry_count = 7

-- The status: the refusal number, or 255 for an answer slice of fewer entries.
unfoldable pub status : (answer : List ℕ) → (refusal : ℕ) → ℕ
status a n = cond (ltb (length a) entry_count) 255 n

-- A lent slice afterwards: as it was where the answer slice is too short.
unfoldable pub kept : (answer before after : List ℕ) → List ℕ
kept a before after = cond (ltb (length a) entry_count) before after

-- The numbers of an answer.
abbrev pub numbers : Answer → List ℕ
numbers r = r.refusal ∷ r.place ∷ r.one ∷ r.two ∷ r.three ∷ r.four ∷ r.five ∷ []

-- The answer slice afterwards: these numbers in front and the rest as it was.
unfoldable pub entries : (answer : List ℕ) → Answer → List ℕ
unfolding kept
entries a r = kept a a (numbers r ++ drop entry_count a)

-- A refusal and its place, and these values.
abbrev pub with_values : (refusal place one two three four five : ℕ) → Answer
with_values n p a b c d e = record { refusal = n; place = p; one = a; two = b; three = c; four = d; five = e }

-- The values of readers, unroller and folder are nodes, length, cost, steps and depth. The run reader gives nodes, steps and
-- depth, the fold reader all of them, the unroller the length written, the folder that and the cost.
abbrev pub of_run : RunReading → Answer
of_run r = with_values r.refusal r.place r.nodes 0 0 r.steps r.depth

abbrev pub of_fold : FoldReading → Answer
of_fold r = with_values r.refusal r.place r.nodes r.length r.cost r.steps r.depth

abbrev pub of_written : Written → Answer
of_written r = with_values r.refusal r.place 0 r.length 0 0 0

abbrev pub of_folded : Folded → Answer
of_folded r = with_values r.refusal r.place 0 r.length r.cost 0 0

-- The builder of the index gives the number of entries; the finder a label, a command and an offset.
abbrev pub of_indexed : Indexed → Answer
of_indexed r = with_values r.refusal r.place r.entries 0 0 0 0

abbrev pub of_found : Found → Answer
of_found r = with_values r.refusal r.place r.label r.command r.offset 0 0

-- The finder's answer, as the lent slice has it.
abbrev pub found_in : (answer : List ℕ) → Found
found_in a =
    record { refusal = get_or a 0 0; place = get_or a 1 0; label = get_or a 2 0; command = get_or a 3 0; offset = get_or a 4 0 }
