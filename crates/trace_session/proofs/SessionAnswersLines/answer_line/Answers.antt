-- `trace_session::Session::answer_line`: each arm is what `traced` gives for that line, and a device line that was read is one of a device that can be made. Assumes nothing.
use native.Mathlib.Omega.{arith}
use mathlib.Core.Path.{sym, ap, ◌∙◌}
use Rattle.std.specs.Prelude.{Some}
use Rattle.trace_lines.proofs.Laws.{line_means}
use Rattle.trace_lines.specs.Lines.{line_of}
use Rattle.trace_session.specs.Tracing.{Session, part_in}
use Rattle.text_logs.proofs.Laws.{says_as}
use Rattle.trace_session.proofs.Laws.{refused_said, line_here, device_told, unreadable_said}
use Rattle.trace_session.proofs.SessionAnswersLines.answer_line.Goals as goal

pub make-requires : goal.make-requires
make-requires c =
    let m = (line_means _ _).makes _ (sym c.read.ensures ∙ c.in-Some-Device.is ∙ ap Some c.in-Some-Device.field-0-is) in
    (m.0, omega (arith, m.1), m.2, c.requires)

pub returns-in-Some-Device : goal.returns-in-Some-Device
returns-in-Some-Device c =
    let here = line_here c.self.inside.words c.args.line.now ∙ ap (λ (x : Session). line_of (part_in x) c.args.line.now) c.self.view_is in
    says_as (device_told _ _ _ (c.read.ensures ∙ here) (c.in-Some-Device.is ∙ ap Some c.in-Some-Device.field-0-is)) c.make.ensures

pub returns-in-None : goal.returns-in-None
returns-in-None c =
    let here = line_here c.self.inside.words c.args.line.now ∙ ap (λ (x : Session). line_of (part_in x) c.args.line.now) c.self.view_is in
    says_as (unreadable_said _ _ _ (c.read.ensures ∙ here) c.in-None.is) (refused_said _ c.refuse.ensures)
