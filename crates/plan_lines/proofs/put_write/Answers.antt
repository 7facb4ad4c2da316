-- `plan_lines::put_write`: a tab and two bytes as digits. Assumes nothing.
use native.Mathlib.Omega.{arith}
use Rattle.text.proofs.Laws.{wrote_as}
use Rattle.plan_lines.proofs.Writing.{write_is}
use Rattle.plan_lines.proofs.put_write.Goals as goal

pub returns : goal.returns
returns c =
    (wrote_as (write_is _ _ c.hex2-a.ensures c.hex2-b.ensures) c.put.ensures, omega (arith, c.put.ensures.ends))
