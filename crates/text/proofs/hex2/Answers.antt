-- `text::hex2`: the two digits of a byte are those of its pair. Assumes nothing.
use mathlib.Core.List.{[], ◌∷◌}
use Rattle.text.specs.Text.{hex_text}
use Rattle.text.proofs.hex2.Goals as goal

pub returns : goal.returns
unfolding hex_text
returns c = λ j. c.pair-p.ensures.0 j ∷ c.pair-p.ensures.1 j ∷ []
