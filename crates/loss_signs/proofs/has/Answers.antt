-- `loss_signs::has`: the pin's digit. Assumes nothing.
use Rattle.loss_signs.proofs.Laws.{pin_of_set}
use Rattle.loss_signs.proofs.has.Goals as goal

pub returns : goal.returns
returns c = pin_of_set _ _
