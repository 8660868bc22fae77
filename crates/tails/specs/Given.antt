-- What solving a block rests on and promises, said of what its functions are given: a season, and the row of one of its steps.
use Rattle.std.specs.Prelude.{List, ℕ}
use Rattle.format.specs.Limits.{allowed}
use Rattle.format.specs.Tree.{tree_of}
use Rattle.tails.specs.declared.given.Row.{Row}
use Rattle.tails.specs.declared.run.FlatSeason.{FlatSeason}
use Rattle.blocks.specs.declared.keys.Key.{Key}
use Rattle.tails.specs.Solving.{Stretched, Tailed, Matching, RowReady, StretchesPut, CountPut, CountsPut, RowSolved, FillReady, FilledFrom}

-- The block of a row's step is to be solved.
abbrev pub Ready : Row → (W : List ℕ) → Type 0
Ready r W = RowReady W r.matches.now r.rates r.limit r.n r.i

-- It is solved: W is the work before, and X after.
abbrev pub Done : Row → (W X : List ℕ) → Type 0
Done r W X = RowSolved W r.matches.now r.rates r.limit r.n r.own r.i X

-- Its stretches that are shorter than m, its best count at width w, and those at all widths below v are put.
abbrev pub StretchesDone : Row → (m : ℕ) → (W X : List ℕ) → Type 0
StretchesDone r m W X = StretchesPut W r.matches.now r.rates r.limit r.n r.own r.i m X

abbrev pub CountDone : Row → (w : ℕ) → (W X : List ℕ) → Type 0
CountDone r w W X = CountPut W r.matches.now r.rates r.limit r.n r.i w X

abbrev pub CountsDone : Row → (v : ℕ) → (W X : List ℕ) → Type 0
CountsDone r v W X = CountsPut W r.matches.now r.rates r.limit r.n r.i v X

-- A key is the least of those of widths below v that may stand first, in the stretch of d steps and in the tail.
abbrev pub StretchKey : Row → (W : List ℕ) → (d v : ℕ) → Key → Type 0
StretchKey r W d v k = Stretched W r.matches.now r.rates r.own r.i d v k

abbrev pub TailKey : Row → (W : List ℕ) → (v : ℕ) → Key → Type 0
TailKey r W v k = Tailed W r.matches.now r.rates r.own r.i r.limit v k

-- The blocks of a season are to be filled, and are filled from step i on.
abbrev pub SeasonReady : FlatSeason → (W : List ℕ) → Type 0
SeasonReady s W = FillReady s.run.now s.steps.now s.rates s.limit s.n W

abbrev pub SeasonFilled : FlatSeason → (i : ℕ) → (W : List ℕ) → Type 0
SeasonFilled s i W = FilledFrom s.run.now s.steps.now s.marks.now s.rates s.limit i W

-- The matches at step i of a season.
abbrev pub SeasonMatching : FlatSeason → (M : List ℕ) → (i : ℕ) → Type 0
SeasonMatching s M i = Matching (allowed s.limit s.marks.now) (tree_of s.run.now) M i
