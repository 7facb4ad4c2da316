-- `loss_sets::width_of`: a number that is not 0 is the sister's. Assumes nothing.
use Rattle.loss_sets.proofs.Laws.{sister_wide}
use Rattle.loss_sets.proofs.width_of.Goals as goal

pub returns : goal.returns
returns c = sister_wide _ c.if-part-eq0.false
