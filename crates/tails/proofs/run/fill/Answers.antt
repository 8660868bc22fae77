-- `fill` meets its contract.
use Rattle.tails.proofs.Fills.{none_match}
use Rattle.tails.proofs.run.fill.Goals as goal

pub fill_steps-requires-clause-matching : goal.fill_steps-requires-clause-matching
fill_steps-requires-clause-matching c = none_match c.args.season.now.limit c.args.season.now.n c.args.season.now.marks.now _ c.requires.flat.all
