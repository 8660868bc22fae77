-- Lists of marks, for theorems and examples: no label marked, one, and every one.
use Rattle.std.specs.Prelude.{List, ◌∷◌, ◌++◌, ℕ, ◌-◌, replicate}
use Rattle.format.specs.Limits.{limits}

abbrev pub free_marks : List ℕ
free_marks = replicate limits.labels 0

abbrev pub mark_of : (label : ℕ) → List ℕ
mark_of l = replicate l 0 ++ 1 ∷ replicate (limits.labels - 1 - l) 0

abbrev pub all_marks : List ℕ
all_marks = replicate limits.labels 1
