-- The parts by their names in the code.
use Rattle.map.specs.Map.{Part, part24, part34}
use Rattle.map.specs.declared.Chip.{Chip}
use Rattle.map.specs.declared.Chip.TheVariants.{Pcal6524, Pcal6534}

abbrev pub part_at : Chip → Part
part_at Pcal6524 = part24
part_at Pcal6534 = part34
