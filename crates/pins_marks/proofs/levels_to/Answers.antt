-- `pins_marks::levels_to`: at each pin the code's expression is the rule of a new level (`level_map`). Assumes nothing.
use Rattle.pins.proofs.Rules.{level_map}
use Rattle.pins_marks.proofs.levels_to.Goals as goal

pub returns : goal.returns
returns c = λ w h d. level_map w _ d _ _ h
