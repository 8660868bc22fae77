-- The entries of the items passed stand in front of both slices.
use Rattle.index.proofs.Outermost.{Filling}
use Rattle.index.proofs.entries.write_entries.Given as goal

abbrev pub invariant-loop-i : goal.invariant-loop-i
invariant-loop-i l = Filling l.s l.p l.i l.initial.offsets l.initial.before l.offsets l.before
