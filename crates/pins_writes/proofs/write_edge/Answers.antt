-- `pins_writes::write_edge`: at each pin the code's expression is the rule of an edge write (`edge_map`). Assumes nothing.
use Rattle.pins.proofs.Rules.{edge_map}
use Rattle.pins_writes.proofs.write_edge.Goals as goal

pub returns : goal.returns
returns c = λ w d. edge_map w _ d _ _ _
