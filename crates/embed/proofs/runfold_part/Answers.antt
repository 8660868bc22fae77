-- `embed::runfold_part` meets its contract: a part of a run is the first bytes from its offset on, as many as it has.
use Rattle.std.proofs.Common.{List, ℕ, length, take, drop, ap, ◌∙◌}
use Rattle.embed.proofs.Prefixes.{part_taken}
use Rattle.embed.proofs.runfold_part.Goals as goal

pub returns-clause-there : goal.returns-clause-there
returns-clause-there c =
    let a = c.args in
    ap (λ (x : List ℕ). take (length x) (drop a.at a.run.now)) c.part.ensures ∙ part_taken a.run.now a.at
