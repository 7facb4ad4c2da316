-- `plan_lines::put_plan`: the word, the writes, the newline. Assumes nothing.
use native.Mathlib.Omega.{arith}
use Rattle.text.proofs.Laws.{wrote_both}
use Rattle.plan_lines.proofs.put_plan.Goals as goal

pub returns : goal.returns
returns c = (
  wrote_both c.put-word.ensures (wrote_both c.put_writes-end.ensures.0 c.put.ensures),
  omega (arith, c.put-word.ensures.ends, c.put_writes-end.ensures.1, c.put.ensures.ends),
)
