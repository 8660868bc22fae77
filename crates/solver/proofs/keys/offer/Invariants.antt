use Rattle.solver.proofs.Offers.{Upto}
use Rattle.solver.proofs.keys.offer.Given as goal

abbrev pub invariant-loop-h : goal.invariant-loop-h
invariant-loop-h l = Upto l.prices l.body l.d l.span l.from l.initial.keys l.keys l.h
