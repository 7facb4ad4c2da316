-- Power-on leaves the words of the part's defaults with these levels: those of a reset (`fresh`). Assumes nothing.
use mathlib.Core.Path.{◌≡◌}
use Prim.Native.Nat.{ℕ, ◌-◌, ◌^◌, ◌<◌}
use lib.Pow.{pow_pos}
use Rattle.pins.specs.declared.Sets.{Sets}
use Rattle.pins.proofs.Rules.{reset_map}
use Rattle.map.specs.Map.{part_of}
use Rattle.device_rules.specs.Device.{out}
use Rattle.device_rules.specs.declared.Answer.TheVariants.{Nothing}
use Rattle.device_rules.specs.PowerOn.{power_on}
use Rattle.words.specs.Words.{with_sets}
use Rattle.words_state.specs.Packed.{Leaves}
use Rattle.words_defaults.specs.Defaults.{reset_words}
use Rattle.words_resets.proofs.Resetting.{fresh}

module _ (part choice levels id : ℕ) (hp : part < 2) (hc : choice < 4) (hl : levels < 2 ^ (part_of part).width) (hi : id < 2 ^ 24) where
  abbrev y : Sets
  y = record { level = levels; reference = levels; held = 0; edge = 0 }

  pub powered : (pins : ℕ) → pins ≡ 2 ^ (part_of part).width - 1
      → Leaves part (with_sets (reset_words pins choice id part) y) Nothing (out Nothing (power_on (part_of part) choice levels id))
  unfolding power_on
  powered pins e =
      fresh part choice id hp hc hi pins e y y
      (reset_map (part_of part).width y
      (record { level_small = hl; reference_small = hl; held_small = pow_pos (part_of part).width; edge_small = pow_pos (part_of part).width }))
