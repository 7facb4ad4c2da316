-- `ghixramel_plan`: the planner's answer, told in two numbers (`plan_told`). Assumes nothing.
use Rattle.map.specs.Map.{part24}
use Rattle.host_words.proofs.Laws.{plan_told}
use Rattle.ghixramel.proofs.ghixramel_plan.Goals as goal

pub returns : goal.returns
returns c =
    let planned = c.plan-planned in
    let k = plan_told part24 planned.result planned.ensures.promise planned.ensures.exact c.tell_plan.ensures.0 c.tell_plan.ensures.1 in
    record { exact = k.0; promise = k.1; refused = k.2 }
