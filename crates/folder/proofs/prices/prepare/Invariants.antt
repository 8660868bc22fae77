use Rattle.folder.proofs.PriceLists.{PricesUpto}
use Rattle.folder.proofs.prices.prepare.Given as goal

abbrev pub invariant-loop-h : goal.invariant-loop-h
invariant-loop-h l = PricesUpto l.first l.each l.h l.prices
