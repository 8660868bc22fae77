use Prim.Native.Nat.{◌*◌}
use Rattle.blocks.specs.Keys.{block}
use Rattle.tails.specs.Solving.{KeptPast}
use Rattle.tails.specs.Given.{SeasonFilled, SeasonMatching}
use Rattle.tails.proofs.run.fill_steps.Given as goal

abbrev pub invariant-loop-i : goal.invariant-loop-i
invariant-loop-i l = SeasonMatching l.season l.matches l.i × SeasonFilled l.season l.i l.work × KeptPast (block * l.season.n) l.initial.work l.work
