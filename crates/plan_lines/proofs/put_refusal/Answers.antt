-- `plan_lines::put_refusal`: a refusal's line is short. Assumes nothing.
use native.Mathlib.Omega.{arith}
use Rattle.text_answers.proofs.Laws.{refused_short}
use Rattle.plan_lines.proofs.put_refusal.Goals as goal

pub returns : goal.returns
returns c =
    let w = c.put_refused.ensures in
    (w, omega (arith, w.ends, refused_short c.args.number))
