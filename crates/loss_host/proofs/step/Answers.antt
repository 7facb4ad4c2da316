-- `step`: the step on words and marks, told in numbers (`marked_told`). Assumes nothing.
use Rattle.loss_host.proofs.Laws.{marked_told}
use Rattle.loss_host.proofs.step.Goals as goal

pub returns : goal.returns
returns c =
    marked_told _ _ _ _ _ _ _ _ _ _ _ c.step-stepped.ensures c.tell.ensures.0 c.tell.ensures.1
