-- `words_resets::reset`: the defaults' words, and the pins by `pins_marks` (`reset_left`). Assumes nothing.
use mathlib.Core.Path.{ap, ◌∙◌}
use Rattle.pins.specs.Pin.{reset}
use Rattle.pins.specs.AllPins.{map_pins}
use Rattle.pins.specs.declared.Sets.{Sets}
use Rattle.map.specs.Map.{part_of}
use Rattle.words.proofs.Sound.{sound}
use Rattle.words.proofs.Holding.{within}
use Rattle.words_resets.proofs.Resetting.{reset_left}
use Rattle.words_resets.proofs.reset.Goals as goal

pub returns : goal.returns
returns c =
    let a = c.args in
    λ k packed e.
    rw c.put_sets.ensures (rw c.put_defaults.ensures
    (reset_left k a.words.now packed a.pins e _
    (c.reset_pins-y.ensures (part_of k).width (rw c.sets_in-x.ensures (within (part_of k) (sound k) a.words.now packed.fit))
    ∙ ap (λ (x : Sets). map_pins (part_of k).width x (λ i. reset)) c.sets_in-x.ensures)))
