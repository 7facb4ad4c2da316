-- `pins_marks::reset_pins`: at each pin the code's expression is the rule of a reset. Assumes nothing.
use Rattle.pins.proofs.Rules.{reset_map}
use Rattle.pins_marks.proofs.reset_pins.Goals as goal

pub returns : goal.returns
returns c = λ w d. reset_map w _ d
