-- `pins_views::driven_high`: at each pin the code's expression is `drivesHigh` (`high_set`). Assumes nothing.
use Rattle.pins.proofs.Rules.{high_set}
use Rattle.pins_views.proofs.driven_high.Goals as goal

pub returns : goal.returns
returns c = high_set _ _ _ _
