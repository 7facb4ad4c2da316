-- One line in, one line out: a trace with the loss marks beside the device.
use Rattle.std.specs.Prelude.{Option, Some, None, ◌≡◌, Bool, true, cond, List, ℕ, eqb, ltb, get_or}
use Rattle.map.specs.Map.{Part, part34, part_of}
use Rattle.device_rules.specs.Device.{State, Outcome, out}
use Rattle.device_rules.specs.declared.Answer.TheVariants.{Nothing}
use Rattle.device_rules.specs.PowerOn.{power_on}
use Rattle.words_state.specs.Packed.{part_word}
use Rattle.text_logs.specs.Lines.{Reply}
use Rattle.loss_rules.specs.Marks.{Marks, Marked, SignedOff, marks_fit, new_marks, marked_step, sign_off}
use Rattle.loss_sets.specs.Sets.{marks_in}
use Rattle.trace_session.specs.Tracing.{Session as TraceSession, Kept as TraceKept}
use Rattle.trace_session.specs.Tracing.Session.{NoDevice as NotTraced, With as Traced}
use Rattle.watch_answers.specs.Marked.{marked_line, refusal_line}
use Rattle.watch_lines.specs.Watching.{said_by}
use Rattle.watch_lines.specs.declared.Said.{Said}
use Rattle.watch_lines.specs.declared.Said.TheVariants.{Device, Event, SignOff}

-- no device yet, or one of this part in this state with these marks
pub data Session : Type 0 where
  NoDevice : Session
  With : (part : ℕ) → State → Marks → Session

-- a trace's session with the marks beside it
abbrev pub watching : TraceSession → Marks → Session
watching NotTraced m = NoDevice
watching (Traced part s) m = With part s m

-- the trace's session
abbrev pub unmarked : Session → TraceSession
unmarked NoDevice = NotTraced
unmarked (With part s m) = Traced part s

-- whether the marks fit the device: nothing of refusal 3 is left to test
abbrev pub fitting : TraceSession → Marks → Bool
fitting NotTraced m = true
fitting (Traced part s) m = marks_fit (part_of part) m

-- a device that the words hold is well formed, and its marks fit: nothing of refusal 3 is left to test
abbrev pub Kept : (words marks : List ℕ) → Type 0
Kept w m = TraceKept w × (ltb (get_or w part_word 0) 2 ≡ true → marks_fit (part_of (get_or w part_word 0)) (marks_in m) ≡ true)

-- the part whose levels a line can say: the device's
abbrev pub part_in : Session → Part
part_in NoDevice = part34
part_in (With part s m) = part_of part

abbrev pub told_by : (part : ℕ) → Outcome → Marks → Reply Session
told_by part o m = record { line = marked_line (part_of part) o m.set; after = With part o.after m }

-- refused: nothing changes
abbrev pub refused_by : Session → (number : ℕ) → Reply Session
refused_by x number = record { line = refusal_line number; after = x }

-- a sign-off: the device stays as it is
abbrev pub signed_by : (part : ℕ) → State → Marks → SignedOff → Reply Session
signed_by part s m r = cond (eqb r.refusal 0) (told_by part (out Nothing s) r.marks) (refused_by (With part s m) r.refusal)

abbrev pub marked_by : (part : ℕ) → Marked → Reply Session
marked_by part r = told_by part (out r.answer r.after) r.marks

-- An event or a sign-off before a device is unreadable, refusal 7; a device line makes device and marks anew, the Device ID 0.
unfoldable pub watched : Session → Option Said → Reply Session
watched x None = refused_by x 7
watched x (Some (Device made healthy)) = told_by made.part (out Nothing (power_on (part_of made.part) made.choice made.levels 0)) (new_marks (part_of made.part) healthy)
watched NoDevice (Some (Event kind arg)) = refused_by NoDevice 7
watched (With part s m) (Some (Event kind arg)) = marked_by part (marked_step (part_of part) s m kind arg)
watched NoDevice (Some (SignOff pin)) = refused_by NoDevice 7
watched (With part s m) (Some (SignOff pin)) = signed_by part s m (sign_off (part_of part) s m pin)

-- the answer to a line of text
abbrev pub answer_to : Session → (text : List ℕ) → Reply Session
answer_to x text = watched x (said_by (part_in x) text)
