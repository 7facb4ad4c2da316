-- `loss_signs::clear`: the set without the pin (`cleared`). Assumes nothing.
use Rattle.loss_signs.proofs.Laws.{cleared}
use Rattle.loss_signs.proofs.clear.Goals as goal

pub returns : goal.returns
returns c = λ p f. cleared p _ f _ c.requires
