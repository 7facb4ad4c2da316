-- `compare_pieces::meet`: one line after the other (`meets_then`). Assumes nothing.
use Rattle.std.proofs.Common.{arith, ap, ◌∙◌, length, not}
use Rattle.compare_pieces.proofs.Laws.{meets_then, meets_on, fewer_to_go}
use Rattle.compare_pieces.proofs.meet.Goals as goal

pub loop-log-smaller : goal.loop-log-smaller
loop-log-smaller c =
    fewer_to_go _ _ (length c.args.events.now) _ _ (c.is_none.ensures ∙ ap not c.loop-log-test.true) c.meet_line-next.ensures.some c.if-met-events.true

pub loop-log-preserved : goal.loop-log-preserved
loop-log-preserved c =
    let met = meets_on (c.is_none.ensures ∙ ap not c.loop-log-test.true) c.loop-log.invariant.meets in
    record {
      meets = meets_then met (c.wants.ensures.enough c.if-wants.false) c.meet_line-next.ensures.meets;
      line = (c.meet_line-next.ensures.line.0 ∙ c.loop-log.invariant.line.0, c.meet_line-next.ensures.line.1);
      onward = λ v z. absurd (omega (arith, z, c.meet_line-next.ensures.some v));
    }
