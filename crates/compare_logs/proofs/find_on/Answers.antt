-- `compare_logs::find_on`: all events, and then their end, with the answers that are left. Assumes nothing.
use native.Mathlib.Omega.{arith}
use mathlib.Core.Path.{refl}
use Rattle.compare_logs.proofs.Laws.{finds_decided, finds_settled, settled_within}
use Rattle.compare_logs.proofs.find_on.Goals as goal

pub returns-in-Some : goal.returns-in-Some
returns-in-Some c =
    record {
      finds = finds_decided c.start-log.ensures c.args.events.now c.args.rest.now c.meet-met.ensures.meets _ c.in-Some.is;
      within = c.meet-met.ensures.meets.within_answers;
    }

pub overflow_add-result : goal.overflow_add-result
overflow_add-result c =
    let all = c.meet-met.ensures.all c.in-None.is refl in
    record { fits = omega (arith, settled_within c.start-log.ensures c.args.events.now c.args.rest.now c.meet-met.ensures.meets c.in-None.is all c.finish-settled.ensures.settles, c.well_formed.1.0.0) }

pub returns-in-None : goal.returns-in-None
returns-in-None c =
    let start = c.start-log.ensures in
    let all = c.meet-met.ensures.all c.in-None.is refl in
    record {
      finds = finds_settled start c.args.events.now c.args.rest.now c.meet-met.ensures.meets c.in-None.is all c.finish-settled.ensures.settles;
      within = settled_within start c.args.events.now c.args.rest.now c.meet-met.ensures.meets c.in-None.is all c.finish-settled.ensures.settles;
    }
