-- `pins_views::status_bits`: at each pin the code's expression is the status bit. Assumes nothing.
use Rattle.pins.proofs.Rules.{status_set}
use Rattle.pins_views.proofs.status_bits.Goals as goal

pub returns : goal.returns
returns c = status_set _ _
