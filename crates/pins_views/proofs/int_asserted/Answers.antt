-- `pins_views::int_asserted`: a number is not 0 exactly if some bit of it is 1 (`some_bit`). Assumes nothing.
use Rattle.bits.proofs.Laws.{some_bit}
use Rattle.pins.specs.AllPins.{asserted}
use Rattle.pins_views.proofs.int_asserted.Goals as goal

pub returns : goal.returns
unfolding asserted
returns c = λ w h. some_bit w h
