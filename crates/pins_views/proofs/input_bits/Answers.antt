-- `pins_views::input_bits`: at each pin the code's expression is the input port bit (`input_set`). Assumes nothing.
use Rattle.pins.proofs.Rules.{input_set}
use Rattle.pins_views.proofs.input_bits.Goals as goal

pub returns : goal.returns
returns c = input_set _ _ _ _ _ _
