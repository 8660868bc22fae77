-- What the lent slices hold before a call of the folder or the unroller, and what is looked at afterwards.
use Rattle.std.specs.Prelude.{◌≡◌, cond, ◌||◌, List, ◌++◌, ℕ, ◌-◌, ◌≤◌, eqb, length, take, drop, replicate}
use Rattle.format.specs.Readings.{run_reading, measured}
use Rattle.format.specs.Numbers.{Folded}
use Rattle.format.specs.Numbers.{Written}
use Rattle.format.specs.Limits.{cells}
use Rattle.format.specs.Output.{written_answer, written_output}

-- A slice of n entries as it is filled before a call.
abbrev pub filled_words : ℕ → List ℕ
filled_words n = replicate n 0xa5a5a5a5

abbrev pub filled_bytes : ℕ → List ℕ
filled_bytes n = replicate n 0xee

-- The first entries, n of them, are 0 and the others as they were filled.
abbrev pub Cleared : List ℕ → (n : ℕ) → Type 0
Cleared s n = s ≡ replicate n 0 ++ filled_words (length s - n)

-- The bytes from a place on are as they were filled.
abbrev pub Untouched : List ℕ → (from : ℕ) → Type 0
Untouched s from = drop from s ≡ filled_bytes (length s - from)

-- There are n bytes, and the first n are these.
abbrev pub Begins : List ℕ → (n : ℕ) → (with : List ℕ) → Type 0
Begins s n with = (n ≤ length s) × (take n s ≡ with)

-- The entries that the folder has used: those of n nodes after success and after 14, none after another refusal.
abbrev pub used : (refusal n : ℕ) → ℕ
used r n = cond (eqb r 0 || eqb r 14) (cells n) 0

-- Success has place 0, and a refusal no values.
pub record Valued (answer : Folded) : Type 0 where
  pub success : answer.refusal ≡ 0 → answer.place ≡ 0
  pub refusal : (answer.refusal ≡ 0 → ⊥) → (answer.length ≡ 0) × (answer.cost ≡ 0)

-- What docs/FORMAT.md says of the folder's answer and of the lent slices after it, whatever the fold.
pub record LentAsSaid (run : List ℕ) (answer : Folded) (costs choices out : List ℕ) : Type 0 where
  pub costs_cleared : Cleared costs (used answer.refusal (run_reading run).nodes)
  pub choices_cleared : Cleared choices (used answer.refusal (run_reading run).nodes)
  pub out_kept : Untouched out answer.length
  pub valued : Valued answer

-- What the unroller answers with room for n bytes, and what it leaves in a text.
abbrev pub unroll_says : (fold : List ℕ) (limit n : ℕ) → Written
unroll_says fold limit n = written_answer (measured fold limit) n

abbrev pub unroll_leaves : (fold : List ℕ) (limit : ℕ) (text : List ℕ) → List ℕ
unroll_leaves fold limit text = written_output (measured fold limit) text

-- The unroller's answer is success, the text begins with the run, and behind it the text is as it was filled.
pub record Unrolls (answer : Written) (run text : List ℕ) : Type 0 where
  pub success : answer.refusal ≡ 0
  pub no_place : answer.place ≡ 0
  pub rest_kept : Untouched text answer.length
  pub written : Begins text answer.length run
