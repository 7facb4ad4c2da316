-- `planner::plan_of`: refused early (`early_refused`), for a stuck pin (`stuck_refused`), else the plan (`laid_out`). Each need names its steps from the last call back. Assumes nothing.
use native.Mathlib.Omega.{arith}
use Rattle.std.proofs.lemmas.Result.{err_from_is_err_and}
use Rattle.planner_settings.proofs.Parts.{plannable_of}
use Rattle.planner_pairs.proofs.Emitted.{same_room}
use Rattle.planner_settings.proofs.Words.{whole}
use Rattle.planner.proofs.Steps.{kinds_turned}
use Rattle.planner.proofs.Shells.{early_refused, early_passed, stuck_refused, laid_out}
use Rattle.planner.proofs.plan_of.Goals as goal

pub returns-in_err-refused_early : goal.returns-in_err-refused_early
returns-in_err-refused_early g c =
    let a = c.args in
    let d = err_from_is_err_and c.from_residual.result c.from_residual.ensures.1 in
    let k = early_refused _ (plannable_of g.row.PART) a.start.now a.goal.now a.buf.now c.requires c.refused_early.ensures c.in_err-refused_early.field-0.0 c.in_err-refused_early.was in
    rw (d.1, d.2) (record { exact = k.0; promise = k.1 })

pub returns-then-stuck_in-ne0 : goal.returns-then-stuck_in-ne0
returns-then-stuck_in-ne0 g c =
    let a = c.args in
    let f = (early_passed _ (plannable_of g.row.PART) a.start.now a.goal.now a.buf.now c.requires c.refused_early.ensures c.in_ok-refused_early.field-0 c.in_ok-refused_early.was) in
    let k = stuck_refused _ (plannable_of g.row.PART) a.start.now a.goal.now a.buf.now f c.load-s.result c.load-g.result c.load-s.ensures c.load-g.ensures
    c.stuck_in.result (omega (arith, c.stuck_in.type_inv)) c.stuck_in.ensures c.if-stuck_in-ne0.true in
    record { exact = k.0; promise = k.1 }

pub bounds-goal-kinds : goal.bounds-goal-kinds
bounds-goal-kinds g c =
    let a = c.args in
    let f = (early_passed _ (plannable_of g.row.PART) a.start.now a.goal.now a.buf.now c.requires c.refused_early.ensures c.in_ok-refused_early.field-0 c.in_ok-refused_early.was) in
    omega (arith, whole _ (plannable_of g.row.PART) a.goal.now f.1, c.of-l.ensures.ports_is)

pub put-turned-requires : goal.put-turned-requires
put-turned-requires g c =
    let a = c.args in
    let f = (early_passed _ (plannable_of g.row.PART) a.start.now a.goal.now a.buf.now c.requires c.refused_early.ensures c.in_ok-refused_early.field-0 c.in_ok-refused_early.was) in
    omega (arith, f.2, c.open_ports-opened.ensures.1, same_room _ a.buf.now _ _ c.open_ports-opened.ensures.0)

pub close_ports-requires : goal.close_ports-requires
close_ports-requires g c =
    let a = c.args in
    let f = (early_passed _ (plannable_of g.row.PART) a.start.now a.goal.now a.buf.now c.requires c.refused_early.ensures c.in_ok-refused_early.field-0 c.in_ok-refused_early.was) in
    let d = c.put-turned.ensures.0 _ a.buf.now c.open_ports-opened.ensures.0 in
    (omega (arith, c.open_ports-opened.ensures.1, c.put-turned.ensures.1), omega (arith, f.2, same_room _ a.buf.now _ _ d))

pub returns : goal.returns
returns g c =
    let a = c.args in
    let f = (early_passed _ (plannable_of g.row.PART) a.start.now a.goal.now a.buf.now c.requires c.refused_early.ensures c.in_ok-refused_early.field-0 c.in_ok-refused_early.was) in
    let d = c.put-turned.ensures.0 _ a.buf.now c.open_ports-opened.ensures.0 in
    let k = laid_out _ (plannable_of g.row.PART) a.start.now a.goal.now a.buf.now f c.load-s.result c.load-g.result c.load-s.ensures c.load-g.ensures
    c.stuck_in.result (omega (arith, c.stuck_in.type_inv)) c.stuck_in.ensures c.if-stuck_in-ne0.false c.middle-m.result c.middle-m.ensures c.close_ports.result c.close_ports.new.buf
    (c.close_ports.ensures _ a.buf.now (kinds_turned _ c.of-l.result c.of-l.ensures a.start.now a.goal.now _ d)) in
    record { exact = k.0; promise = k.1 }
