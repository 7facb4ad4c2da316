-- `compare_pieces::meet_line`: the first line of the events expects nothing yet, or a line that is the next or decides. Assumes nothing.
use native.Mathlib.Omega.{arith}
use mathlib.Core.Path.{sym}
use Rattle.std.proofs.lemmas.Option.{none-some}
use Rattle.text_logs.proofs.Feeding.{taken_some}
use Rattle.compare_pieces.proofs.Laws.{first_there, some_there, meets_nothing, meets_line, meets_verdict}
use Rattle.compare_pieces.proofs.meet_line.Goals as goal

pub returns-then-end-eq0 : goal.returns-then-end-eq0
returns-then-end-eq0 c =
    let g = c.first_line-took.ensures in
    let t = first_there c.args.log.now c.args.events.now g.gives c.requires.1 in record {
      meets = meets_nothing c.args.log.now c.args.events.now c.begun.ensures.small c.requires.0 c.args.answers.now g.gives.goes_on g.takes (omega (arith, t.ends, c.if-end-eq0.true));
      line = (t.long, t.within);
      some = λ v. rw (sym g.takes) at (taken_some c.args.events.now c.requires.0).0;
    }

pub slice_bounds-judge-end : goal.slice_bounds-judge-end
slice_bounds-judge-end c = (first_there c.args.log.now c.args.events.now c.first_line-took.ensures.gives c.requires.1).within

pub judge-requires : goal.judge-requires
judge-requires c = some_there (first_there c.args.log.now c.args.events.now c.first_line-took.ensures.gives c.requires.1) c.if-end-eq0.false

pub returns-in-Ok : goal.returns-in-Ok
returns-in-Ok c =
    let g = c.first_line-took.ensures in
    let t = first_there c.args.log.now c.args.events.now g.gives c.requires.1 in record {
      meets = meets_line c.args.log.now c.args.events.now c.begun.ensures.small c.requires.0 c.args.answers.now g.gives.goes_on g.takes t c.if-end-eq0.false c.in-Ok.ensures;
      line = (t.long, t.within);
      some = λ v. rw (sym g.takes) at (taken_some c.args.events.now c.requires.0).0;
    }

pub returns-in-Err : goal.returns-in-Err
returns-in-Err c =
    let g = c.first_line-took.ensures in
    let t = first_there c.args.log.now c.args.events.now g.gives c.requires.1 in record {
      meets = meets_verdict c.args.log.now c.args.events.now c.begun.ensures.small c.requires.0 c.args.answers.now g.gives.goes_on g.takes t c.if-end-eq0.false _ c.in-Err.ensures _;
      line = (t.long, t.within);
      some = λ v. absurd (none-some _ (sym v));
    }
