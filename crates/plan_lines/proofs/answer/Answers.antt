-- `plan_lines::answer`: the plan or the refusal is put (`tells`); a plan has room, since what is read is some line's. Assumes nothing.
use native.Mathlib.Omega.{arith}
use mathlib.Core.Path.{ap}
use Prim.Native.Nat.{◌*◌}
use lib.ListN.{length-take, replicate}
use Rattle.std.proofs.Common.{Ok, Err}
use Rattle.text.proofs.Laws.{wrote_as}
use Rattle.text_answers.specs.Answers.{refused_line}
use Rattle.map.specs.Map.{part_of}
use Rattle.plan_lines.specs.Told.{answer_to}
use Rattle.plan_lines.proofs.Answering.{few_writes, tells}
use Rattle.plan_lines.proofs.answer.Goals as goal

pub overflow_mul-pairs : goal.overflow_mul-pairs
overflow_mul-pairs c =
    let said = c.requires.0 in
    omega (arith, few_writes (replicate 52 0) c.planned.new.pairs (Ok c.in-Ok.writes) (answer_to (part_of c.args.part) said.text) (c.in-Ok.ensures said.text said.holds) c.planned.array_long)

pub slice_bounds-pairs-end : goal.slice_bounds-pairs-end
slice_bounds-pairs-end c =
    let said = c.requires.0 in
    omega (arith, c.planned.array_long, few_writes (replicate 52 0) c.planned.new.pairs (Ok c.in-Ok.writes) (answer_to (part_of c.args.part) said.text) (c.in-Ok.ensures said.text said.holds) c.planned.array_long)

pub slice_bounds-put_plan-end : goal.slice_bounds-put_plan-end
slice_bounds-put_plan-end c =
    let said = c.requires.0 in
    omega (arith, length-take (2 * c.in-Ok.writes) c.planned.new.pairs, c.planned.array_long, few_writes (replicate 52 0) c.planned.new.pairs (Ok c.in-Ok.writes) (answer_to (part_of c.args.part) said.text) (c.in-Ok.ensures said.text said.holds) c.planned.array_long)

pub returns-in-Ok : goal.returns-in-Ok
returns-in-Ok c =
    (λ line held. tells (part_of c.args.part) line (Ok c.in-Ok.writes) (replicate 52 0) c.planned.new.pairs (c.in-Ok.ensures line held) c.put_plan.ensures.0, c.put_plan.ensures.1)

pub returns-in-Err : goal.returns-in-Err
returns-in-Err c =
    (λ line held. tells (part_of c.args.part) line (Err c.in-Err.refusal) (replicate 52 0) c.planned.new.pairs (c.in-Err.ensures line held) (wrote_as (ap refused_line c.number.ensures) c.put_refusal.ensures.0), omega (arith, c.put_refusal.ensures.1))
