-- A refusal has a number: 0 is success and no reason's.
use mathlib.Core.Logic.{◌≢◌}
use native.Mathlib.Omega.{arith}
use Rattle.format.specs.Answers.{number}
use Rattle.format.specs.declared.answers.Reason.{Reason}
use Rattle.format.specs.declared.answers.Reason.TheVariants.{UnknownCommand, RepeatInRun, Unfinished, WrongClose, Empty, TooFewCopies, TooWide, TooDeep, UntrueWidth, TooManyNodes, StepCosts, LimitTooHigh, ShortWork, ShortOutput, GroupCosts, NoSuchNode, NotTheIndex, Marks, MarkedInRepeat, NotShortest, GroupInSeason}

pub numbered : (r : Reason) → number r ≢ 0
numbered UnknownCommand = λ e. omega arith
numbered RepeatInRun = λ e. omega arith
numbered Unfinished = λ e. omega arith
numbered WrongClose = λ e. omega arith
numbered Empty = λ e. omega arith
numbered TooFewCopies = λ e. omega arith
numbered TooWide = λ e. omega arith
numbered TooDeep = λ e. omega arith
numbered UntrueWidth = λ e. omega arith
numbered TooManyNodes = λ e. omega arith
numbered StepCosts = λ e. omega arith
numbered LimitTooHigh = λ e. omega arith
numbered ShortWork = λ e. omega arith
numbered ShortOutput = λ e. omega arith
numbered GroupCosts = λ e. omega arith
numbered NoSuchNode = λ e. omega arith
numbered NotTheIndex = λ e. omega arith
numbered Marks = λ e. omega arith
numbered MarkedInRepeat = λ e. omega arith
numbered NotShortest = λ e. omega arith
numbered GroupInSeason = λ e. omega arith
