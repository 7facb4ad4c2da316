-- `words_faults::odd`: each word without the bits that it may have. Assumes nothing.
use mathlib.Core.Path.{refl}
use Rattle.words_faults.proofs.odd.Goals as goal

pub returns : goal.returns
returns c = refl
