-- One line in, one line out.
use Rattle.std.specs.Prelude.{◌≡◌, true, cond, List, [], ℕ, Option, Some, None, ltb, get_or}
use Rattle.map.specs.Map.{Part, part34, part_of}
use Rattle.device_rules.specs.Device.{State, Outcome, out}
use Rattle.device_rules.specs.declared.Answer.TheVariants.{Nothing}
use Rattle.device_rules.specs.Refusals.{stepped}
use Rattle.device_rules.specs.PowerOn.{power_on}
use Rattle.words_state.specs.Packed.{part_word, state_in}
use Rattle.words_device.specs.Named.{Named}
use Rattle.text_logs.specs.Lines.{Reply}
use Rattle.trace_lines.specs.declared.Line.{Line}
use Rattle.trace_lines.specs.declared.Line.TheVariants.{Device, Event}
use Rattle.trace_lines.specs.Lines.{line_of}
use Rattle.text_answers.specs.Answers.{shown_line, refused_line}
use Rattle.trace_columns.specs.Columns.{Told, Fresh}
use Rattle.trace_columns.specs.declared.Columns.{Columns}

-- no device yet, or one of this part in this state
pub data Session : Type 0 where
  NoDevice : Session
  With : (part : ℕ) → State → Session

-- what the words hold: a device, once a line has made one; before that they name no part
abbrev pub session_of : (words : List ℕ) → Session
session_of w = cond (ltb (get_or w part_word 0) 2) (With (get_or w part_word 0) (state_in (part_of (get_or w part_word 0)) w)) NoDevice

-- the part whose levels a line can say: the device's. Before a device no event is answered, whatever it says.
abbrev pub part_in : Session → Part
part_in NoDevice = part34
part_in (With part s) = part_of part

-- the device's part, if there is one
abbrev pub part_number : Session → Option ℕ
part_number NoDevice = None
part_number (With part s) = Some part

-- the line of the device as it stands, where there is one
abbrev pub standing_line : Session → List ℕ
standing_line NoDevice = []
standing_line (With part s) = shown_line (part_of part) (out Nothing s)

abbrev pub Traced : Type 0
Traced = Reply Session

abbrev pub told_by : (part : ℕ) → Outcome → Traced
told_by part o = record { line = shown_line (part_of part) o; after = With part o.after }

-- refusal 7: nothing changes
abbrev pub unreadable : Session → Traced
unreadable x = record { line = refused_line 7; after = x }

-- An event before a device is unreadable; a device line starts anew, with the Device ID 0.
unfoldable pub traced : Session → Option Line → Traced
traced x None = unreadable x
traced x (Some (Device made)) = told_by made.part (out Nothing (power_on (part_of made.part) made.choice made.levels 0))
traced NoDevice (Some (Event kind arg)) = unreadable NoDevice
traced (With part s) (Some (Event kind arg)) = told_by part (stepped (part_of part) s kind arg)

-- the answer to a line of text
abbrev pub answer_to : Session → (text : List ℕ) → Traced
answer_to x text = traced x (line_of (part_in x) text)

-- a device that the words hold is well formed: nothing of refusal 3 is left to test
abbrev pub Kept : (words : List ℕ) → Type 0
Kept w = ltb (get_or w part_word 0) 2 ≡ true → Named w

-- what a session's words and columns are: a device that the words hold is well formed, and the text is of its columns
pub record Sound (words : List ℕ) (columns : Columns) : Type 0 where
  pub kept : Kept words
  pub fresh : Fresh words columns
  pub told : ltb (get_or words part_word 0) 2 ≡ true → Told words columns.told
