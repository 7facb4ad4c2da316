-- `words_views::low`: pin by pin (`low_read`). Assumes nothing.
use Rattle.map.specs.Map.{part_of}
use Rattle.words.proofs.Sound.{sound}
use Rattle.words.proofs.Seen.{low_read}
use Rattle.words_views.proofs.low.Goals as goal

pub returns : goal.returns
returns c = λ part e. low_read (part_of part) (sound part) c.args.words.now _ _ e c.driven_low.ensures
