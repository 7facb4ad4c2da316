-- `Device::power_on`: the state is the rules' at power-on (`made_of`). Assumes nothing.
use mathlib.Core.Path.{◌≡◌, sym, ap, ap₂, ◌∙◌}
use Prim.Native.Nat.{ℕ}
use Rattle.map.specs.Map.{Part, part_of}
use Rattle.map.specs.Chips.{part_at}
use Rattle.device_rules.specs.PowerOn.{power_on, making_refused}
use Rattle.device_rules.proofs.Making.{made_of}
use Rattle.device_making.specs.Refused.{refused_by}
use Rattle.device.proofs.Device.power_on.Goals as goal

pub returns : goal.returns
unfolding power_on
returns c =
    let x = c.args in
    let p = part_at x.chip in
    let its = ap part_of c.from.ensures ∙ c.number_of-part.ensures.2 in
    let none : 0 ≡ making_refused p x.choice x.levels x.number =
    sym (ap refused_by c.in_ok-allows.was) ∙ c.allows.ensures ∙ ap₂ (λ (p : Part) (choice : ℕ). making_refused p choice x.levels x.number) its c.from-2.ensures in
    record {
      refused = none;
      as_ruled = rw (sym (c.pins_at.ensures p x.choice x.number)) at (made_of p x.choice x.levels x.number none c.reset_values.ensures);
      part_is = c.number_of-part.ensures.0;
    }
