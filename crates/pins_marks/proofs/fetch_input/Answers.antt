-- `pins_marks::fetch_input`: the pins of the port are settled, the others stay. Assumes nothing.
use Rattle.pins.specs.Pin.{input_fetched}
use Rattle.pins_marks.proofs.fetch_input.Goals as goal

pub returns : goal.returns
unfolding input_fetched
returns c = c.settled.ensures
