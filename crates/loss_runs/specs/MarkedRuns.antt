-- Events one after another with loss marks: what they set.
use Rattle.std.specs.Prelude.{cond, List, [], ◌∷◌, eqb}
use Rattle.map.specs.Map.{Part}
use Rattle.device_rules.specs.Device.{State}
use Rattle.device_rules.specs.Refusals.{event_of}
use Rattle.device_rules.specs.Answers.{answer_kind}
use Rattle.words_events.specs.Events.{Sent, whole_of, one}
use Rattle.loss_rules.specs.Marks.{Marks, marks_after}

-- the marks after one event as it is sent
abbrev pub marked_by : Part → State → Sent → Marks → Marks
marked_by p s e m = marks_after p s (event_of e.kind (whole_of e)) (one p s e) m

-- the marks after events in order, until one is refused
unfoldable pub marks_over : Part → State → Marks → List Sent → Marks
marks_over p s m [] = m
marks_over p s m (e ∷ es) = cond (eqb (answer_kind (one p s e).answer) 4) m (marks_over p (one p s e).after (marked_by p s e m) es)
