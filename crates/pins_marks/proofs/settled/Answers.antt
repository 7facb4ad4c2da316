-- `pins_marks::settled`: at each pin the code's expression is settling (`settle_map`). Assumes nothing.
use Rattle.pins.proofs.Rules.{settle_map}
use Rattle.pins_marks.proofs.settled.Goals as goal

pub returns : goal.returns
returns c = λ w d. settle_map w _ d _
