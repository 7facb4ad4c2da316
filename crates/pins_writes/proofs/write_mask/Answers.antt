-- `pins_writes::write_mask`: at each pin the code's expression is the rule of a mask write. Assumes nothing.
use Rattle.pins.proofs.Rules.{mask_map}
use Rattle.pins_writes.proofs.write_mask.Goals as goal

pub returns : goal.returns
returns c = λ w d. mask_map w _ d _ _
