use mathlib.Core.Path.{◌∙◌}
use native.Mathlib.Omega.{arith}
use Rattle.plan_lines.proofs.Writing.{writing_on, writing_done}
use Rattle.plan_lines.proofs.put_writes.Goals as goal

pub loop-pair-preserved : goal.loop-pair-preserved
loop-pair-preserved c =
    let size = c.loop-pair.invariant.1 in
    let step = c.in-Some.ensures.steps in
    (writing_on c.loop-pair.invariant.0 _ _ step.1.0 (step.1.1 ∙ size) c.put_write-end.ensures, step.0 ∙ size)

pub returns : goal.returns
returns c =
    let step = c.in-None.ensures.steps in
    writing_done c.loop-pair.invariant.0 (omega (arith, step.1.0, c.loop-pair.invariant.1))
