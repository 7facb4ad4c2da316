-- `Device::reset_values`: the register file of the words at power-on. Assumes nothing.
use mathlib.Core.Path.{ap, ◌∙◌}
use Rattle.map.specs.Map.{part_of, defaults}
use Rattle.device_rules.specs.Device.{State}
use Rattle.device_rules.specs.PowerOn.{power_on}
use Rattle.device.proofs.Device.reset_values.Goals as goal

pub returns : goal.returns
unfolding power_on
returns c = c.to_file.ensures ∙ ap (λ (s : State). s.regs.file) c.power_on.ensures.1 ∙ ap defaults (ap part_of c.from-part.ensures ∙ c.number_of.ensures.2)
