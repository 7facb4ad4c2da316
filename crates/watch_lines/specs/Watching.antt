-- What a line of a watched log says: a trace's line with two changes. A device line has a fourth field, each pin's healthy level, and `sign` signs a pin off.
use Rattle.std.specs.Prelude.{Option, Some, None, ◌≡◌, cond, List, ◌∷◌, ℕ, ◌+◌, ◌^◌, ◌<◌, ◌≤◌, ltb, length, take, drop}
use Rattle.map.specs.Map.{Part, part_of}
use Rattle.text.specs.Text.{starts_with, field_of}
use Rattle.text_answers.specs.Answers.{digits_of}
use Rattle.trace_lines.specs.Lines.{line_of, levels_of, Taken, tab, device, device34, device_of as tracedDevice}
use Rattle.trace_lines.specs.declared.Line.{Line}
use Rattle.trace_lines.specs.declared.Made.{Made}
use Rattle.trace_lines.specs.declared.Line.TheVariants as trace
use Rattle.watch_lines.specs.declared.Said.{Said}
use Rattle.watch_lines.specs.declared.Said.TheVariants.{Device, Event, SignOff}

abbrev pub sign : List ℕ
sign = 0x73 ∷ 0x69 ∷ 0x67 ∷ 0x6e ∷ tab

abbrev pub sign_with : Option ℕ → Option Said
sign_with (Some pin) = Some (SignOff pin)
sign_with None = None

-- the device that a trace's fields say, with these healthy levels
abbrev pub device_with : Option Made → (healthy : Option ℕ) → Option Said
device_with (Some made) (Some healthy) = Some (Device made healthy)
device_with (Some made) None = None
device_with None healthy = None

-- what a trace's line has after its word, one digit, a tab and levels; a tab; healthy levels
unfoldable pub device_of : (part : ℕ) → List ℕ → Option Said
device_of part s =
    let at : ℕ = digits_of (part_of part) + 2 in
    cond (starts_with tab (drop at s)) (device_with (tracedDevice part (take at s)) (levels_of (part_of part) (drop (at + 1) s))) None

-- a line that is no trace's: two digits for a pin to sign off, or a device
unfoldable pub own_of : List ℕ → Option Said
own_of s =
    cond (ltb 32 (length s)) None
    (cond (starts_with sign s) (sign_with (field_of 2 0xff (drop 5 s)))
    (cond (starts_with device s) (device_of 0 (drop 7 s)) (cond (starts_with device34 s) (device_of 1 (drop 9 s)) None)))

-- by what a trace makes of the line: its events are this log's too, a device of three fields says nothing
abbrev pub said_as : Option Line → (s : List ℕ) → Option Said
said_as (Some (trace.Event kind arg)) s = Some (Event kind arg)
said_as (Some (trace.Device made)) s = None
said_as None s = own_of s

abbrev pub said_by : Part → List ℕ → Option Said
said_by p s = said_as (line_of p s) s

-- if it is a device's line, device and marks can be made; if it is an event's, the event is not refused for its kind or its argument
pub record Means (p : Part) (l : Option Said) : Type 0 where
  pub makes : (m : Made) (healthy : ℕ) → l ≡ Some (Device m healthy)
      → (m.part < 2) × (m.choice ≤ 3) × (m.levels < 2 ^ (part_of m.part).width) × (healthy < 2 ^ (part_of m.part).width)
  pub takes : (kind arg : ℕ) → l ≡ Some (Event kind arg) → Taken p kind arg
