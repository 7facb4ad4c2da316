-- `words_device::step`: refusal 3 of what is not packed, else the event. Assumes nothing.
use Rattle.words_state.proofs.Judging.{no_image, image}
use Rattle.words_device.proofs.step.Goals as goal

pub event_at-requires : goal.event_at-requires
event_at-requires c =
    let judged = c.judged.ensures in
    (judged.packed _ c.in-Some.is, judged.row_is _ c.in-Some.is)

pub returns-in-Some : goal.returns-in-Some
returns-in-Some c = image _ _ _ _ (c.judged.ensures.packed _ c.in-Some.is) c.event_at.ensures

pub returns-in-None : goal.returns-in-None
returns-in-None c = no_image _ _ _ _ (c.judged.ensures.broken c.in-None.is)
