-- `words_images::unpack`: the file by `to_file`, the rest as it is. Assumes nothing.
use mathlib.Core.Path.{ap}
use mathlib.Core.List.{List}
use Prim.Native.Nat.{ℕ, ◌%◌}
use lib.ListN.{get_or}
use Rattle.pins.specs.declared.Sets.{Sets}
use Rattle.device_rules.specs.declared.Rest.{Rest}
use Rattle.words_images.proofs.unpack.Goals as goal

abbrev beside : List ℕ → Sets → Rest
beside w x = record { sets = x; pointer = get_or w 21 0 % 256; bus = get_or w 22 0 % 256; choice = get_or w 23 0 % 256; status = get_or w 19 0; line = get_or w 20 0 % 256; mode = get_or w 24 0 % 256; number = get_or w 25 0; place = get_or w 26 0 % 256 }

pub returns : goal.returns
returns c =
    let w = c.args.words.now in
    (c.to_file.ensures, ap (beside w) c.sets_in-sets.ensures)
