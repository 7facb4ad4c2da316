-- `words_views::set_levels`: the pins' rule is `pins_marks`'s (`levels_moved`). Assumes nothing.
use mathlib.Core.Path.{ap, ◌∙◌}
use Rattle.bits.specs.Bits.{bit}
use Rattle.pins.specs.Pin.{level_to}
use Rattle.pins.specs.AllPins.{map_pins, source_at}
use Rattle.pins.specs.declared.Sets.{Sets}
use Rattle.map.specs.Map.{part_of}
use Rattle.words.proofs.Sound.{sound}
use Rattle.words.proofs.Holding.{within}
use Rattle.words.proofs.Seen.{levels_moved}
use Rattle.words_views.proofs.set_levels.Goals as goal

pub returns : goal.returns
returns c =
    λ part h fit.
    let a = c.args in
    let p = part_of part in
    let w = a.words.now in
    let v = c.sources-v.result in
    rw c.put_sets.ensures
    (levels_moved p (sound part) w fit a.new (source_at v) c.sources-v.ensures.0 _
    (c.levels_to-y.ensures p.width h (rw c.sets_in-x.ensures (within p (sound part) w fit))
    ∙ ap (λ (x : Sets). map_pins p.width x (λ i. level_to (source_at v i) (bit a.new i))) c.sets_in-x.ensures))
