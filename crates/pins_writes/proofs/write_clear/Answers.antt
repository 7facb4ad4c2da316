-- `pins_writes::write_clear`: at each pin the code's expression is the rule of a clear write. Assumes nothing.
use mathlib.Core.Path.{ap, ◌∙◌}
use mathlib.Core.Bool.{Bool}
use Rattle.bits.specs.Bits.{bit}
use Rattle.bits.proofs.Laws.{bit-and}
use Rattle.pins.specs.Pin.{only, settle}
use Rattle.pins.specs.AllPins.{pin_at}
use Rattle.pins.proofs.AllPins.{map_ext}
use Rattle.pins.proofs.Rules.{clear_one}
use Rattle.pins_writes.proofs.write_clear.Goals as goal

pub returns : goal.returns
returns c =
    let start = c.args in
    λ w d.
    c.settled.ensures w d ∙ map_ext w start.x _ _ (λ i k.
    ap (λ (b : Bool). only b settle (pin_at start.x i)) (bit-and start.here start.on i) ∙ clear_one (bit start.here i) (bit start.on i) _)
