-- `pins_writes::write_latch`: at each pin the code's expression is the rule of a latch write. Assumes nothing.
use Rattle.pins.proofs.Rules.{latch_map}
use Rattle.pins_writes.proofs.write_latch.Goals as goal

pub returns : goal.returns
returns c = λ w d. latch_map w _ d _ _ _ _
