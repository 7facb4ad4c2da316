-- `planner::turn_port`: two writes, of the bytes that the pin sets have for the port (`turned`). Assumes nothing.
use native.Mathlib.Omega.{arith}
use Rattle.planner.proofs.Steps.{turned}
use Rattle.planner.proofs.turn_port.Goals as goal

pub returns : goal.returns
returns c =
    let a = c.args in (
      turned _ c.of-l.result c.of-l.ensures a.k a.a a.b c.byte_of.ensures c.byte_of-2.ensures c.put-o.ensures.0 c.byte_of-3.ensures c.byte_of-4.ensures
          c.put.ensures.0,
      omega (arith, c.put-o.ensures.1, c.put.ensures.1),
    )
