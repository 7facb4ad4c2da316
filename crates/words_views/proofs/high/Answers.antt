-- `words_views::high`: pin by pin (`high_read`). Assumes nothing.
use Rattle.map.specs.Map.{part_of}
use Rattle.words.proofs.Sound.{sound}
use Rattle.words.proofs.Seen.{high_read}
use Rattle.words_views.proofs.high.Goals as goal

pub returns : goal.returns
returns c =
    λ part fit. high_read (part_of part) (sound part) c.args.words.now _ _ fit c.port_kinds-kinds.ensures c.driven_high.ensures
