-- `pass_item` meets its contract: a step, or what holds something.
use Rattle.format.proofs.Standing.{item_there}
use Rattle.index.proofs.Passing.{step_passed}
use Rattle.index.proofs.pass.pass_item.Goals as goal

pub bounds-s-at : goal.bounds-s-at
bounds-s-at c = item_there c.requires.1.stands

pub returns-then-s-at-eq-STEP : goal.returns-then-s-at-eq-STEP
returns-then-s-at-eq-STEP c = λ f i. rw c.past_step.ensures (step_passed i c.if-s-at-eq-STEP.true)
