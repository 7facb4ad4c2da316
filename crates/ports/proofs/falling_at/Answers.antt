-- `ports::falling_at`: the high bits of the fields, placed (`falling_bit_lem`). Assumes nothing.
use mathlib.Core.Path.{ap, ◌∙◌}
use mathlib.Core.Bool.{Bool, ◌&&◌}
use Rattle.ports.specs.Ports.{in_edge}
use Rattle.ports.proofs.Fields.{falling_bit_lem}
use Rattle.ports.proofs.falling_at.Goals as goal

pub returns : goal.returns
returns c =
    let start = c.args in
    λ i. c.at_edge.ensures i ∙ ap (λ (b : Bool). in_edge start.k i && b) (falling_bit_lem start.byte i c.evens.ensures.0)
