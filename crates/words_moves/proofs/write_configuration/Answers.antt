-- `words_moves::write_configuration`: the pins' rule is `pins_writes`'s, the rest a merge. Assumes nothing.
use Rattle.words_moves.proofs.Laws.{put_back}
use Rattle.words_moves.proofs.write_configuration.Goals as goal

pub returns : goal.returns
returns c =
    λ width d. put_back _ width c.sets_in-x.ensures (c.write_configuration-y.ensures width) c.put.ensures c.put_sets.ensures d
