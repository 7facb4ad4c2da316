-- `watch_session::Watch::answer_line`: each arm is what `watched` gives for that line; what was read can be made, or is not refused. Assumes nothing.
use native.Mathlib.Omega.{arith}
use mathlib.Core.Path.{ap, sym, ◌∙◌}
use Rattle.std.specs.Prelude.{Some}
use Rattle.text_logs.proofs.Laws.{says_as}
use Rattle.loss_sets.specs.Sets.{marks_in}
use Rattle.watch_lines.specs.Watching.{said_by}
use Rattle.watch_lines.proofs.Laws.{said_means}
use Rattle.watch_session.specs.Watch.{Session, part_in}
use Rattle.watch_session.proofs.Laws.{refused_says, line_here, device_said, unreadable_said}
use Rattle.watch_session.proofs.WatchAnswersLines.answer_line.Goals as goal

pub make-requires : goal.make-requires
make-requires c =
    let m = (said_means _ _).makes _ _ (sym c.read.ensures ∙ c.in-Some-Device.is ∙ ap Some c.in-Some-Device.field-0-is) in
    (m.0, omega (arith, m.1), m.2, m.3, c.requires)

pub event-requires : goal.event-requires
event-requires c =
    let here = line_here c.words.result.now c.args.line.now (marks_in c.self.inside.marks) c.words.ensures.1 ∙ ap (λ (x : Session). said_by (part_in x) c.args.line.now) c.self.view_is in
    ((said_means _ _).takes _ _ (sym (c.read.ensures ∙ here) ∙ c.in-Some-Event.is ∙ ap Some c.in-Some-Event.field-0-is), c.requires)

pub returns-in-Some-Device : goal.returns-in-Some-Device
returns-in-Some-Device c =
    let here = line_here c.words.result.now c.args.line.now (marks_in c.self.inside.marks) c.words.ensures.1 ∙ ap (λ (x : Session). said_by (part_in x) c.args.line.now) c.self.view_is in
    says_as (device_said _ _ _ (c.read.ensures ∙ here) (c.in-Some-Device.is ∙ ap Some c.in-Some-Device.field-0-is)) c.make.ensures

pub returns-in-None : goal.returns-in-None
returns-in-None c =
    let here = line_here c.words.result.now c.args.line.now (marks_in c.self.inside.marks) c.words.ensures.1 ∙ ap (λ (x : Session). said_by (part_in x) c.args.line.now) c.self.view_is in
    says_as (unreadable_said _ _ _ (c.read.ensures ∙ here) c.in-None.is) (refused_says _ 7 c.refuse.ensures)
