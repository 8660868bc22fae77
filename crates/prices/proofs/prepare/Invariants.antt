use Rattle.prices.proofs.Entries.{Upto}
use Rattle.prices.proofs.prepare.Given as goal

abbrev pub invariant-loop-h : goal.invariant-loop-h
invariant-loop-h l = Upto l.first l.each l.h l.prices
