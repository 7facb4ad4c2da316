-- `words_moves::write_clear`: the pins' rule is `pins_writes`'s, the rest a merge. Assumes nothing.
use mathlib.Core.Path.{refl}
use Rattle.words_moves.proofs.Laws.{put_back}
use Rattle.words_moves.proofs.write_clear.Goals as goal

pub returns : goal.returns
returns c = λ width d. put_back {u = c.args.words.now} _ width c.sets_in-x.ensures (c.write_clear-y.ensures width) (refl) c.put_sets.ensures d
