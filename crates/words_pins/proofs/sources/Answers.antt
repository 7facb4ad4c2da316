-- `words_pins::sources`: each field is its word. Assumes nothing.
use mathlib.Core.Path.{refl}
use Rattle.words_pins.proofs.sources.Goals as goal

pub returns : goal.returns
returns c = (λ i. refl, refl)
