-- `words_moves::write_fields`: the pins' rule is `pins_writes`'s, the rest a merge. Assumes nothing.
use Rattle.words_moves.proofs.Laws.{put_back}
use Rattle.words_moves.proofs.write_fields.Goals as goal

pub returns : goal.returns
returns c = λ width d. put_back _ width c.sets_in-x.ensures (c.write_edge-y.ensures width) c.put_pair.ensures c.put_sets.ensures d
