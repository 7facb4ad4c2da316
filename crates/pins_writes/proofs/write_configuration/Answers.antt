-- `pins_writes::write_configuration`: at each pin the code's expression is the rule of a configuration write. Assumes nothing.
use Rattle.pins.proofs.Rules.{configuration_map}
use Rattle.pins_writes.proofs.write_configuration.Goals as goal

pub returns : goal.returns
returns c = λ w d. configuration_map w _ d _ _ _ _
