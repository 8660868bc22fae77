use Rattle.solver.proofs.Endings.{EndUpto}
use Rattle.solver.proofs.ends.offer_end.Given as goal

abbrev pub invariant-loop-h : goal.invariant-loop-h
invariant-loop-h l = EndUpto l.row l.prices l.tails l.body l.d l.span l.last l.h l.best
