-- `words_pins::inputs`: the bits are `pins_views`'s, of the words' pins. Assumes nothing.
use mathlib.Core.Path.{ap₂, ◌∙◌}
use mathlib.Core.Bool.{Bool}
use lib.ListN.{get_or}
use Rattle.bits.specs.Bits.{bit}
use Rattle.pins.specs.Pin.{input_bit}
use Rattle.pins.specs.AllPins.{pin_at}
use Rattle.pins.specs.declared.Sets.{Sets}
use Rattle.words_pins.proofs.inputs.Goals as goal

pub returns : goal.returns
returns c =
    let w = c.args.words.now in
    λ i h. c.input_bits.ensures i
    ∙ ap₂ (λ (b : Bool) (x : Sets). input_bit (bit (get_or w 4 0) i) (bit (get_or w 5 0) i) (bit (get_or w 11 0) i) b (bit (get_or w 12 0) i) (pin_at x i))
    (c.port_kinds-kinds.ensures i h) c.sets_in-x.ensures
