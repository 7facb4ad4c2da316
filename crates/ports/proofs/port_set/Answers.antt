-- `ports::port_set`: eight ones, placed. Assumes nothing.
use mathlib.Core.Path.{◌∙◌}
use Rattle.ports.specs.Ports.{in_port}
use Rattle.ports.proofs.Bytes.{all_ones}
use native.Mathlib.Omega.{arith}
use Rattle.ports.proofs.port_set.Goals as goal

pub returns : goal.returns
returns c = λ i. c.at_port.ensures i ∙ all_ones 8 (omega arith) (in_port c.args.k i) i
