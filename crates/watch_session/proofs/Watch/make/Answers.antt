-- `watch_session::Watch::make`: the trace's device, its marks all set, and its line with them. Assumes nothing.
use mathlib.Core.Path.{refl, ap, ◌∙◌}
use lib.ListN.{get_or}
use Rattle.map.specs.Map.{part_of}
use Rattle.device_rules.specs.Device.{out}
use Rattle.device_rules.specs.declared.Answer.TheVariants.{Nothing}
use Rattle.device_rules.specs.PowerOn.{power_on}
use Rattle.loss_rules.specs.Marks.{marks_fit}
use Rattle.loss_rules.proofs.Laws.{fit_new}
use Rattle.watch_answers.proofs.Lines.{with_marks, room_left}
use Rattle.watch_session.proofs.Laws.{fitting_device, marks_made, told_says}
use Rattle.watch_session.proofs.Watch.make.Goals as goal

pub put_marks-requires : goal.put_marks-requires
put_marks-requires c =
    room_left c.args.part (out Nothing (power_on (part_of c.args.part) c.args.choice c.args.levels 0)) c.make-end.ensures.says c.requires.4

pub invariant_of-self : goal.invariant_of-self
invariant_of-self c =
    let p = part_of c.args.part in
    fitting_device c.args.part _ c.make-end.ensures.goes_on ∙ ap (marks_fit p) (marks_made c.args.part c.args.healthy c.requires.3 c.make.ensures) ∙ fit_new p c.args.healthy c.requires.3

pub returns : goal.returns
returns c =
    let a = c.args in
    let o = out Nothing (power_on (part_of a.part) a.choice a.levels 0) in
    told_says a.part o c.make.new.marks c.make-end.ensures.goes_on (marks_made a.part a.healthy c.requires.3 c.make.ensures)
    (with_marks (part_of a.part) o (get_or c.make.new.marks 0 0) refl c.make-end.ensures.says c.put_marks.ensures)
