-- `planner_settings::is_formed`: the length (`formed_not`), then the bytes that may have a bit too many (`formed_is`). Assumes nothing.
use Rattle.planner_settings.proofs.Formed.{formed_not, formed_is}
use Rattle.planner_settings.proofs.Parts.{plannable_of}
use Rattle.planner_settings.proofs.is_formed.Goals as goal

pub returns-then-s-n : goal.returns-then-s-n
returns-then-s-n c =
    let a = c.args in
    formed_not _ (plannable_of a.part) a.s.now c.of-l.result.ports c.of-l.ensures.ports_is c.if-s-n.true

pub returns : goal.returns
returns c =
    let a = c.args in
    let d = c.of-l.ensures in
    formed_is _ (plannable_of a.part) a.s.now c.of-l.result.ports d.ports_is c.of-l.result.kinds c.of-l.result.last d.kinds_is d.last_is c.if-s-n.false
    (λ i. (c.type_inv.s i).fits)
