-- `watch_session::Watch::event`: what a trace says of the event, and what it sets (`event_says`); refusal 7 where there is no device. Assumes nothing.
use mathlib.Core.Path.{sym, ◌∙◌}
use Rattle.map.specs.Map.{part_of}
use Rattle.loss_sets.specs.Sets.{marks_in}
use Rattle.watch_session.proofs.Laws.{standing, no_device, event_room, event_fits, event_says, event_none}
use Rattle.watch_session.proofs.Watch.event.Goals as goal

pub returns-in_default : goal.returns-in_default
returns-in_default c =
    event_none (marks_in c.self.inside.marks) (no_device c.self.inside.session (sym c.part.ensures ∙ c.in_default.is)) c.self.view_is c.refuse.ensures c.args.kind c.args.arg

pub put_marks-requires : goal.put_marks-requires
put_marks-requires c =
    let d = standing c.self.inside.marks c.self.view_is (sym c.part.ensures ∙ c.in-Some.is) c.words-words.ensures c.self.invariant in
    event_room d c.args.kind c.args.arg c.requires.0 c.event-end.ensures c.requires.1

pub invariant_of-self : goal.invariant_of-self
invariant_of-self c =
    let d = standing c.self.inside.marks c.self.view_is (sym c.part.ensures ∙ c.in-Some.is) c.words-words.ensures c.self.invariant in
    event_fits d c.args.kind c.args.arg c.requires.0 c.event-end.ensures c.note.new.marks c.words.ensures (c.is_reset-resets.ensures (part_of c.in-Some.part) c.args.arg) c.note.ensures

pub returns : goal.returns
returns c =
    let d = standing c.self.inside.marks c.self.view_is (sym c.part.ensures ∙ c.in-Some.is) c.words-words.ensures c.self.invariant in
    event_says d c.args.kind c.args.arg c.requires.0 c.event-end.ensures c.note.new.marks c.words.ensures (c.is_reset-resets.ensures (part_of c.in-Some.part) c.args.arg) c.note.ensures c.put_marks.ensures
