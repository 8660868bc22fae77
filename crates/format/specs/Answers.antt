-- What the code's answers, values or a refusal, say in numbers; and what the costs that it is lent say.
use Rattle.std.specs.Prelude.{ℕ, Result, Ok, Err}
use Rattle.format.specs.Limits.{Tariff, tariff}
use Rattle.format.specs.Numbers.{RunReading, FoldReading, Written, Folded}
use Rattle.format.specs.declared.costs.Costs.{Costs}
use Rattle.format.specs.declared.answers.Reason.{Reason}
use Rattle.format.specs.declared.answers.Reason.TheVariants.{UnknownCommand, RepeatInRun, Unfinished, WrongClose, Empty, TooFewCopies, TooWide, TooDeep, UntrueWidth, TooManyNodes, StepCosts, LimitTooHigh, ShortWork, ShortOutput, GroupCosts, NoSuchNode, NotTheIndex, Marks, MarkedInRepeat, NotShortest, GroupInSeason}
use Rattle.format.specs.declared.answers.Refusal.{Refusal}
use Rattle.format.specs.declared.answers.RunCounts.{RunCounts}
use Rattle.format.specs.declared.answers.FoldCounts.{FoldCounts}
use Rattle.format.specs.declared.answers.PricedFold.{PricedFold}

-- The number of each refusal, as docs/REFUSALS.md has it.
abbrev pub number : Reason → ℕ
number UnknownCommand = 1
number RepeatInRun = 2
number Unfinished = 3
number WrongClose = 4
number Empty = 5
number TooFewCopies = 6
number TooWide = 7
number TooDeep = 8
number UntrueWidth = 9
number TooManyNodes = 10
number StepCosts = 11
number LimitTooHigh = 12
number ShortWork = 13
number ShortOutput = 14
number GroupCosts = 15
number NoSuchNode = 16
number NotTheIndex = 17
number Marks = 18
number MarkedInRepeat = 19
number NotShortest = 20
number GroupInSeason = 21

-- Of the readers: of a run, and of a fold.
abbrev pub run_said : Result RunCounts Refusal → RunReading
run_said (Ok r) = record { refusal = 0; place = 0; nodes = r.nodes; steps = r.steps; depth = r.depth }
run_said (Err e) = record { refusal = number e.reason; place = e.place; nodes = 0; steps = 0; depth = 0 }

abbrev pub fold_said : Result FoldCounts Refusal → FoldReading
fold_said (Ok r) =
    record {
      refusal = 0;
      place = 0;
      nodes = r.nodes;
      length = r.length;
      cost = r.cost;
      steps = r.steps;
      depth = r.depth;
    }
fold_said (Err e) =
    record {
      refusal = number e.reason;
      place = e.place;
      nodes = 0;
      length = 0;
      cost = 0;
      steps = 0;
      depth = 0;
    }

-- Where one text is written, whose length is answered.
abbrev pub written_said : Result ℕ Refusal → Written
written_said (Ok n) = record { refusal = 0; place = 0; length = n }
written_said (Err e) = record { refusal = number e.reason; place = e.place; length = 0 }

-- Of the folders.
abbrev pub folded_said : Result PricedFold Refusal → Folded
folded_said (Ok f) = record { refusal = 0; place = 0; length = f.length; cost = f.cost }
folded_said (Err e) = record { refusal = number e.reason; place = e.place; length = 0; cost = 0 }

-- A check passes where no refusal applies, and else refuses with that number at place 0.
abbrev pub refused_by : Result Unit Refusal → ℕ
refused_by (Ok u) = 0
refused_by (Err e) = number e.reason

-- The lent costs.
abbrev pub tariff_of : Costs → Tariff
tariff_of c = tariff c.steps.now c.groups.now c.marks.now c.first c.each
