-- `pins_views::driven_low`: at each pin the code's expression is `drivesLow` (`low_set`). Assumes nothing.
use Rattle.pins.proofs.Rules.{low_set}
use Rattle.pins_views.proofs.driven_low.Goals as goal

pub returns : goal.returns
returns c = low_set _ _ _
