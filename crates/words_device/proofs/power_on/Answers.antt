-- `words_device::power_on`: the words of a reset with the pins at these levels (`powered`). Assumes nothing.
use mathlib.Core.Path.{ap}
use Rattle.device_rules.specs.Device.{Outcome}
use Rattle.words_device.proofs.Powering.{powered}
use Rattle.words_device.proofs.power_on.Goals as goal

pub returns : goal.returns
returns c =
    let p = powered c.args.part c.args.choice c.args.levels c.args.id c.requires.0 c.requires.1 c.requires.2 c.requires.3 _ c.pins_of.ensures in
    rw c.put_sets.ensures (rw c.put_defaults.ensures (p.packed, ap (λ (o : Outcome). o.after) p.outcome))
