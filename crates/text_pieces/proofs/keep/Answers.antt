-- `text_pieces::keep`: byte by byte while there is room. Assumes nothing.
use Rattle.text_pieces.proofs.Laws.{part_kept}
use Rattle.text_pieces.proofs.keep.Goals as goal

pub returns : goal.returns
returns c = part_kept _ _ _ _ c.requires c.min-n.ensures c.put.ensures
