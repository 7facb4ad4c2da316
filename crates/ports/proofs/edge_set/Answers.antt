-- `ports::edge_set`: four ones, placed. Assumes nothing.
use mathlib.Core.Path.{◌∙◌}
use Rattle.ports.specs.Ports.{in_edge}
use Rattle.ports.proofs.Bytes.{all_ones}
use native.Mathlib.Omega.{arith}
use Rattle.ports.proofs.edge_set.Goals as goal

pub returns : goal.returns
returns c = λ i. c.at_edge.ensures i ∙ all_ones 4 (omega arith) (in_edge c.args.k i) i
