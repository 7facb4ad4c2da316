-- `device_making::pins_at`: the sets are those of the rules at power-on, whatever the part. Assumes nothing.
use mathlib.Core.Path.{refl}
use Rattle.device_rules.specs.PowerOn.{power_on}
use Rattle.device_making.proofs.pins_at.Goals as goal

pub returns : goal.returns
unfolding power_on
returns c = λ p choice id. refl
