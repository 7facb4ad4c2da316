-- The step that a line asks of a part.
use Rattle.std.specs.Prelude.{◌≡◌, List, ℕ}
use Rattle.map.specs.Map.{part_of}
use Rattle.device_rules.specs.Device.{out}
use Rattle.device_rules.specs.Refusals.{stepped}
use Rattle.device.specs.Held.{state_in}
use Rattle.device.specs.declared.Stepped.{Stepped}
use Rattle.probe_images.specs.Images.{image_in, kind_in, argument_in}

pub record Answers (part : ℕ) (line : List ℕ) (s : Stepped) : Type 0 where
  pub outcome : out s.answer (state_in s.device) ≡ stepped (part_of part) (image_in line) (kind_in line) (argument_in line)
  pub part_stays : s.device.part ≡ part
