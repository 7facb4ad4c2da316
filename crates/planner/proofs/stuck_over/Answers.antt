-- `planner::stuck_over`: where both settings are well-formed, the set of stuck pins (`stuck_set`). Assumes nothing.
use mathlib.Core.Path.{sym}
use native.Mathlib.Omega.{arith}
use Rattle.map.specs.Map.{part_of}
use Rattle.planner_settings.proofs.Parts.{plannable_of}
use Rattle.planner_promise.proofs.Answering.{sound}
use Rattle.planner.proofs.Planted.{stuck_set}
use Rattle.planner.proofs.Shells.{where_formed}
use Rattle.planner.proofs.stuck_over.Goals as goal

pub returns : goal.returns
returns c =
    let a = c.args in
    let p = part_of a.part in
    let s = sym c.if-not-is_formed.ensures in
    let g = sym c.if-not-is_formed-2.ensures in
    where_formed p a.start.now a.goal.now _ s g
    (stuck_set p (plannable_of a.part) a.start.now a.goal.now (sound p a.start.now s) (sound p a.goal.now g) c.load.result c.load-2.result c.load.ensures c.load-2.ensures
    c.stuck_in.result (omega (arith, c.stuck_in.type_inv)) c.stuck_in.ensures)
