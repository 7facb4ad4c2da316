-- `trace_session::Session::event`: told where the words hold a device, refusal 7 where they hold none. Assumes nothing.
use mathlib.Core.Path.{ap, ◌∙◌}
use Rattle.std.specs.Prelude.{Some}
use Rattle.trace_lines.specs.declared.Line.TheVariants.{Event}
use Rattle.trace_session.specs.Tracing.{Session, traced}
use Rattle.text_logs.proofs.Laws.{says_as}
use Rattle.trace_session.proofs.Laws.{told_said, refused_said, event_told, event_refused}
use Rattle.trace_session.proofs.Session.event.Goals as goal

pub returns-then-self-lt-NO_PART : goal.returns-then-self-lt-NO_PART
returns-then-self-lt-NO_PART c =
    let l = c.event-answer.ensures in
    says_as (event_told c.self.inside.words c.args.kind c.args.arg c.if-self-lt-NO_PART.true ∙ ap (λ (x : Session). traced x (Some (Event c.args.kind c.args.arg))) c.self.view_is)
    (told_said _ _ l.packed c.event-answer.result l.outcome c.put_line.ensures)

pub returns : goal.returns
returns c =
    says_as (event_refused c.self.inside.words c.args.kind c.args.arg c.if-self-lt-NO_PART.false ∙ ap (λ (x : Session). traced x (Some (Event c.args.kind c.args.arg))) c.self.view_is)
    (rw c.self.view_is (refused_said _ c.refuse.ensures))
