-- `words_defaults::put_defaults`: zeros, and over them the words that a reset fills: the list computes. Assumes nothing.
use mathlib.Core.Path.{refl}
use Rattle.words_defaults.proofs.put_defaults.Goals as goal

pub returns : goal.returns
returns c = refl
