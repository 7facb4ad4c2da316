use Rattle.std.proofs.Common.{◌≤◌, ap, length, arith, rules}
use Rattle.text_logs.specs.Pieces.{Reading}
use Rattle.text_logs.proofs.Feeding.{onward_start, onward_line, onward_done, taken_some, taken_less}
use Rattle.text_logs.proofs.Log.feed.Goals as goal

pub loop-rest-init : goal.loop-rest-init
loop-rest-init g c =
    let few : length c.self.inside.begun.items ≤ 33 = c.self.invariant in
    onward_start g.A.AnswersLines.answer g.met.A.AnswersLines.short g.A.AnswersLines.room c.args.self.now (omega (arith, few, ap (λ (r : Reading g.row.A.Denot). length r.begun) c.self.view_is)) c.requires

pub first_line-took-requires : goal.first_line-took-requires
first_line-took-requires g c = omega (arith, c.loop-rest.invariant.room)

pub slice_bounds-rest-count : goal.slice_bounds-rest-count
slice_bounds-rest-count g c = omega (arith, c.first_line-took.ensures.takes, taken_some c.loop-rest.rest.now (search rules))

pub slice_bounds-rest-start : goal.slice_bounds-rest-start
slice_bounds-rest-start g c = omega (arith, c.first_line-took.ensures.takes, taken_some c.loop-rest.rest.now (search rules))

pub loop-rest-smaller : goal.loop-rest-smaller
loop-rest-smaller g c = taken_less _ _ (search rules) c.first_line-took.ensures.takes

pub loop-rest-preserved : goal.loop-rest-preserved
loop-rest-preserved g c =
    onward_line g.A.AnswersLines.answer g.met.A.AnswersLines.short g.A.AnswersLines.room c.loop-rest.invariant (search rules) c.first_line-took.ensures.gives c.first_line-took.ensures.takes

pub returns-clause-gives : goal.returns-clause-gives
returns-clause-gives g c = (onward_done g.A.AnswersLines.answer g.met.A.AnswersLines.short g.A.AnswersLines.room c.loop-rest.invariant (search rules)).0

pub returns-clause-within : goal.returns-clause-within
returns-clause-within g c = (onward_done g.A.AnswersLines.answer g.met.A.AnswersLines.short g.A.AnswersLines.room c.loop-rest.invariant (search rules)).1
