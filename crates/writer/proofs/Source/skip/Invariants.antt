use mathlib.Core.Path.{◌≡◌}
use Rattle.writer.specs.Writing.{follow}
use Rattle.writer.proofs.Source.skip.Given as goal

abbrev pub invariant-loop : goal.invariant-loop
invariant-loop l = l.at ≡ follow l.self.nodes.now.nexts l.q l.counter
