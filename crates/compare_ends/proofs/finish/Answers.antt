-- `compare_ends::finish`: a line that has begun expects its answer, and then nothing is expected. Assumes nothing.
use native.Mathlib.Omega.{arith}
use Rattle.compare_pieces.proofs.Laws.{some_there}
use Rattle.compare_ends.proofs.Laws.{last_there, settles_none, settles_line, settles_verdict}
use Rattle.compare_ends.proofs.finish.Goals as goal

pub returns-then-end-eq0 : goal.returns-then-end-eq0
returns-then-end-eq0 c =
    let r = c.args.log.now in
    let t = last_there r c.finish-end.ensures.gives c.requires in
    record {
      settles = settles_none r c.args.answers.now (omega (arith, t.ends, c.if-end-eq0.true)) c.rest_verdict.ensures.none c.rest_verdict.ensures.some;
      line = (t.long, t.within);
    }

pub slice_bounds-judge-end : goal.slice_bounds-judge-end
slice_bounds-judge-end c =
    (last_there c.args.log.now c.finish-end.ensures.gives c.requires).within

pub judge-requires : goal.judge-requires
judge-requires c =
    some_there (last_there c.args.log.now c.finish-end.ensures.gives c.requires) c.if-end-eq0.false

pub returns-in-Ok : goal.returns-in-Ok
returns-in-Ok c =
    let r = c.args.log.now in
    let t = last_there r c.finish-end.ensures.gives c.requires in
    record {
      settles = settles_line r c.args.answers.now t c.if-end-eq0.false c.in-Ok.ensures c.rest_verdict-in-Ok.ensures.none c.rest_verdict-in-Ok.ensures.some;
      line = (t.long, t.within);
    }

pub returns-in-Err : goal.returns-in-Err
returns-in-Err c =
    let r = c.args.log.now in
    let t = last_there r c.finish-end.ensures.gives c.requires in
    record {
      settles = settles_verdict r c.args.answers.now t c.if-end-eq0.false c.in-Err.ensures;
      line = (t.long, t.within);
    }
