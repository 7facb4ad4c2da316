-- `planner::close_port`: the pins' own kinds (`flipped`), then output and configuration. Assumes nothing.
use native.Mathlib.Omega.{arith}
use Rattle.planner.proofs.Steps.{flipped}
use Rattle.planner.proofs.close_port.Goals as goal

pub returns : goal.returns
returns c =
    let a = c.args in
    let f = flipped _ c.of-l.result c.of-l.ensures a.k a.m a.g c.byte_of.ensures c.byte_of-2.ensures c.put-f.ensures.0 in
    (λ out before d. c.turn_port.ensures.0 _ before (f out before d), omega (arith, c.put-f.ensures.1, c.turn_port.ensures.1))
