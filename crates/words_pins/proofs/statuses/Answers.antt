-- `words_pins::statuses`: the bits are `pins_views`'s, of the words' pins. Assumes nothing.
use mathlib.Core.Path.{ap₂, ◌∙◌}
use Rattle.pins.specs.Pin.{Source, status}
use Rattle.pins.specs.AllPins.{pin_at}
use Rattle.pins.specs.declared.Sets.{Sets}
use Rattle.words_pins.proofs.statuses.Goals as goal

pub returns : goal.returns
returns c =
    let v = c.sources-v.ensures in
    record {
      pins = λ i. c.status_bits.ensures.pins i ∙ ap₂ (λ (s : Source) (x : Sets). status s (pin_at x i)) (v.0 i) c.sets_in-x.ensures;
      small = λ w h. c.status_bits.ensures.small w (rw v.1 h);
    }
